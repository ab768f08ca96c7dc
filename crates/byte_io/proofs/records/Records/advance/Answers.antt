use Rattle.byte_io.proofs.Rows.{gives-row, gives-none}
use Rattle.byte_io.proofs.records.Records.advance.Goals as goal

pub returns-in-Ok-true-clause-rows : goal.returns-in-Ok-true-clause-rows
returns-in-Ok-true-clause-rows g c =
    let read = rw c.in-Ok-true.field-0-test at (c.in-Ok-true.ensures.reads c.requires.reading.trim c.requires.reading.ready) in
    let first = rw c.requires.reading.config at read.0 in
    rw (c.if-self.false, read.1) (gives-row _ _ _ _ c.read_byte_record.new.row first)

pub returns-in-Ok-false-clause-rows : goal.returns-in-Ok-false-clause-rows
returns-in-Ok-false-clause-rows g c =
    let read = rw c.in-Ok-false.field-0-test at (c.in-Ok-false.ensures.reads c.requires.reading.trim c.requires.reading.ready) in
    let first = rw c.requires.reading.config at read.0 in
    rw c.if-self.false (gives-none _ _ _ _ _ first)
