use Rattle.std.proofs.Common.{◌≡◌, List, ℕ, length, take, sym, ap, subst, ◌∙◌, arith}
use Rattle.std.specs.List.{AllByRecursion}
use Rattle.std.proofs.lemmas.List.{take_all}
use Rattle.row_page.specs.Grammar.{IsPage}
use Rattle.row_form.specs.Forms.{IsWellFormed}
use Rattle.run_file.specs.Whole.{BeginsRows}
use Rattle.run_file.proofs.Wholes.{same_rows}
use Rattle.run_file.proofs.whole.page_of.Goals as goal

pub read_known-requires-clause-known : goal.read_known-requires-clause-known
read_known-requires-clause-known c =
    let begins : BeginsRows c.args.form.now c.args.run.now.greatest c.args.bytes.items c.in_ok-used.used c.args.run.now.count = rw c.deref.ensures.value at c.in_ok-used.ensures.begins in
    rw c.truncate.ensures.items (begins.rows, begins.page)

pub returns-in-Ok-clause-rows : goal.returns-in-Ok-clause-rows
returns-in-Ok-clause-rows c rows are =
    let bytes = c.args.bytes.items in
    let used = c.in_ok-used.used in
    let there : IsPage c.truncate.new.self.items c.in-Ok.page.rows × (c.in-Ok.page.room ≡ used) = c.in-Ok.ensures in
    let found : IsPage (take used bytes) c.in-Ok.page.rows = rw c.truncate.ensures.items at there.0 in
    let all : used ≡ length bytes = rw c.deref.ensures.value at (c.in_ok-used.ensures.all rows (rw c.deref.ensures.value are)) in
    same_rows bytes c.in-Ok.page.rows rows (subst (λ (t : List ℕ). IsPage t c.in-Ok.page.rows) (take_all used bytes (omega (arith, all))) found) are.page

pub returns-in-Ok-clause-formed : goal.returns-in-Ok-clause-formed
returns-in-Ok-clause-formed c =
    let bytes = c.args.bytes.items in
    let used = c.in_ok-used.used in
    let run = c.args.run.now in
    let there : IsPage c.truncate.new.self.items c.in-Ok.page.rows × (c.in-Ok.page.room ≡ used) = c.in-Ok.ensures in
    let found : IsPage (take used bytes) c.in-Ok.page.rows = rw c.truncate.ensures.items at there.0 in
    let begins : BeginsRows c.args.form.now run.greatest bytes used run.count = rw c.deref.ensures.value at c.in_ok-used.ensures.begins in
    subst (AllByRecursion (IsWellFormed c.args.form.now run.greatest)) (same_rows (take used bytes) begins.rows c.in-Ok.page.rows begins.page found) begins.formed

pub returns-in-Ok-clause-count : goal.returns-in-Ok-clause-count
returns-in-Ok-clause-count c =
    let bytes = c.args.bytes.items in
    let used = c.in_ok-used.used in
    let run = c.args.run.now in
    let there : IsPage c.truncate.new.self.items c.in-Ok.page.rows × (c.in-Ok.page.room ≡ used) = c.in-Ok.ensures in
    let found : IsPage (take used bytes) c.in-Ok.page.rows = rw c.truncate.ensures.items at there.0 in
    let begins : BeginsRows c.args.form.now run.greatest bytes used run.count = rw c.deref.ensures.value at c.in_ok-used.ensures.begins in
    sym (ap length (same_rows (take used bytes) begins.rows c.in-Ok.page.rows begins.page found)) ∙ begins.count_is
