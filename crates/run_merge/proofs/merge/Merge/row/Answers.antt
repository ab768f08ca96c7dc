use Rattle.std.proofs.Common.{ℕ, Option, sym, ap, ◌∙◌}
use Rattle.run_file.specs.Reading.{row_at}
use Rattle.run_file.proofs.Standing.{at_entry}
use Rattle.run_merge.specs.Heads.{row_lent}
use Rattle.run_merge.proofs.Formed.{lent_row}
use Rattle.run_merge.proofs.merge.Merge.row.Goals as goal

pub row-requires : goal.row-requires
row-requires c =
    let reader = c.index.result.now in
    let lent = c.args.self.now.lent c.in-Some.place c.in-Some.is in
    (row_at reader, at_entry c.args.self.now.kind reader (lent.1 reader c.index.ensures))

pub returns-in-Some : goal.returns-in-Some
returns-in-Some c =
    let self = c.args.self.now in
    let reader = c.index.result.now in
    let lent = self.lent c.in-Some.place c.in-Some.is in
    c.row.ensures.only (row_at reader) (at_entry self.kind reader (lent.1 reader c.index.ensures))
    ∙ sym (ap (λ (given : Option ℕ). row_lent self.readers.items given self.row) c.in-Some.is ∙ lent_row self.readers.items c.in-Some.place reader self.row lent.0 c.index.ensures)
