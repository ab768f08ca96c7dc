use Rattle.std.proofs.Common.{◌≡◌, ◌++◌, ◌∷◌, [], List, ℕ, Option, Some, Ok, sym, ap, subst, ◌∙◌, append_assoc, rules}
use Rattle.row_page.specs.Pages.{PageView}
use Rattle.row_page.specs.Views.{fields_in}
use Rattle.row_page.specs.declared.row_view.RowView.{RowView}
use Rattle.spill_disk.specs.Files.{Files}
use Rattle.run_file.specs.Readers.{ReaderView}
use Rattle.run_file.specs.Lending.{StandsAfter}
use Rattle.run_file.specs.Reading.{IsAhead, GivesFirst}
use Rattle.run_file.specs.Shelved.{files_on}
use Rattle.file_tests.proofs.tests.runs.put_rows.Goals as goal

-- the row that was lent is the first of those that were ahead, and the others are ahead
rest_ahead : (old new : Option Files) (before after : ReaderView) (given : RowView) (rows : List (List (List ℕ))) → StandsAfter old new before (Ok (Some given)) after → GivesFirst rows (Ok (Some given)) → IsAhead old before rows → (left : List (List (List ℕ))) × IsAhead new after left × (fields_in given ∷ left ≡ rows)
rest_ahead old new before after given [] stands first ahead = absurd first
rest_ahead old new before after given (row ∷ rows) stands first ahead =
    (rows, (stands.gives (row ∷ rows) ahead).1, ap (λ (r : List (List ℕ)). r ∷ rows) first)

-- what is on the page and what is ahead, after the first of those ahead was put on the page
one_row_more : (rows pushed left rest all : List (List (List ℕ))) (given : List (List ℕ)) → pushed ≡ rows ++ given ∷ [] → given ∷ rest ≡ left → rows ++ left ≡ all → pushed ++ rest ≡ all
one_row_more rows pushed left rest all given one first whole =
    ap (λ (t : List (List (List ℕ))). t ++ rest) one ∙ append_assoc rows (given ∷ []) rest ∙ ap (λ (t : List (List (List ℕ))). rows ++ t) first ∙ whole

pub loop-row-preserved : goal.loop-row-preserved
loop-row-preserved g c =
    let before = c.loop-row.reader in
    let after = c.next.follows.lender-at-none in
    let old = files_on g.H.Shelf.disk_of g.D.Disk.files c.loop-row.shelf before.run.disk in
    let new = files_on g.H.Shelf.disk_of g.D.Disk.files c.next.new.shelf before.run.disk in
    let lent : c.next.result ≡ Ok (Some c.in-Some.row) = c.in_ok-row.was ∙ ap Ok c.in-Some.is in
    let stands : StandsAfter old new before (Ok (Some c.in-Some.row)) after = rw lent at c.next.follows.holds-at-none in
    let pushed : c.push.new.self.rows ≡ c.loop-row.page.rows ++ fields_in c.in-Some.row ∷ [] = ap (λ (v : PageView). v.rows) c.in_ok-push.ensures.ok in
    record {
      there = search rules;
      left = λ rows ahead.
          let left = c.loop-row.invariant.left rows ahead in
          let first : GivesFirst left.0 (Ok (Some c.in-Some.row)) = rw lent at (c.next.ensures.gives left.0 left.1) in
          let rest = rest_ahead old new before after c.in-Some.row left.0 stands first left.1 in
          let same_disk : before.run.disk ≡ after.run.disk = sym (ap (λ (v : ReaderView). v.run.disk) stands.moved) in
          let one_more = one_row_more c.loop-row.page.rows c.push.new.self.rows left.0 rest.0 (c.args.page.now.rows ++ rows) (fields_in c.in-Some.row) pushed rest.2 left.2 in
          (rest.0, subst (λ (disk : ℕ). IsAhead (files_on g.H.Shelf.disk_of g.D.Disk.files c.next.new.shelf disk) after rest.0) same_disk rest.1, one_more);
    }
