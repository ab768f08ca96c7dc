use Rattle.std.proofs.Common.{◌≡◌, ◌<◌, ◌≤◌, ◌∙◌, ℕ, List, Option, Ok, true, false, ap, subst, arith}
use Rattle.std.specs.Prelude.{◌↔◌}
use Rattle.spill_disk.specs.Files.{Files}
use Rattle.run_file.specs.Readers.{ReaderView}
use Rattle.run_file.specs.Reading.{ReadsOn, IsAhead, Moves, TakesRow}
use Rattle.run_file.specs.Shelved.{files_on}
use Rattle.run_file.proofs.Standing.{entry_taken}
use Rattle.result_table.proofs.Ahead.{gave_fewer, goes_to, said}
use Rattle.result_table.proofs.entry_reader.EntryReader.go_on.Goals as goal

pub returns-then-branch-clause-gives : goal.returns-then-branch-clause-gives
returns-then-branch-clause-gives g c entries ahead =
    let files : _ → ℕ → Option Files = files_on g.H.Shelf.disk_of g.D.Disk.files in
    let gives = subst (λ (v : ReaderView). (rows : List (List (List ℕ))) → IsAhead (files c.args.shelf.now v.run.disk) v rows
    → ReadsOn (files c.advance.new.shelf v.run.disk) c.advance.new.self rows (Ok true)) c.self.view_is (rw c.if-branch.true at c.in_ok-advance.ensures.gives) in
    goes_to _ _ c.args.self.now c.advance.new.self entries (Ok true) gives ahead

pub returns-then-branch-clause-takes : goal.returns-then-branch-clause-takes
returns-then-branch-clause-takes g c =
    let after = c.advance.new.self in
    let took : TakesRow after (Ok true) = rw c.if-branch.true at c.in_ok-advance.ensures.taken in
    let moved : Moves c.args.self.now after (Ok true) = subst (λ (v : ReaderView). Moves v after (Ok true)) c.self.view_is (rw c.if-branch.true at c.in_ok-advance.ensures.moved) in
    let end = subst (λ (v : ReaderView). (said c.in_ok-advance.field-0 ≡ said false) ↔ (v.run.count ≤ v.found)) c.self.view_is c.in_ok-advance.ensures.end in
    let fewer : c.args.self.now.found < c.args.self.now.run.count = gave_fewer c.args.self.now.run.count c.args.self.now.found c.in_ok-advance.field-0 end c.if-branch.true in
    let one = ap (λ (v : ReaderView). v.found) moved in
    ((λ kind form. entry_taken kind after (ap (λ (v : ReaderView). v.form) moved ∙ form) took), one, omega (arith, one, fewer))
