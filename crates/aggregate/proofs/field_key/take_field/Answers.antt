use Rattle.std.proofs.Common.{drop, sym}
use Rattle.aggregate.proofs.Spellings.{reads-back, spelled-rest}
use Rattle.aggregate.proofs.field_key.take_field.Goals as goal

pub returns-in-Ok-Some-clause-some : goal.returns-in-Ok-Some-clause-some
returns-in-Ok-Some-clause-some c =
    let read = rw c.in-Ok-Some.field-0-is at c.in-Ok-Some.ensures.some in
    let front = spelled-rest c.args.key.now read.0 c.in-Ok-Some.n read.1 in
    record { field = read.0; rest = drop c.in-Ok-Some.n c.args.key.now; key_is = front.0; length_is = front.1; read_is = read.1; appended = read.2 }

pub returns-in-Ok-None-clause-none : goal.returns-in-Ok-None-clause-none
returns-in-Ok-None-clause-none c = λ field rest e.
    let read = rw c.in-Ok-None.field-0-is at c.in-Ok-None.ensures.none in
    let found = rw (sym e) at (reads-back field rest) in
    cc (read, found)
