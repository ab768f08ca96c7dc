use Rattle.std.proofs.Common.{◌≡◌, rules, subst, List, ℕ}
use Rattle.row_page.specs.Grammar.{IsPage}
use Rattle.run_file.proofs.Wholes.{same_rows}
use Rattle.lineage.proofs.making.copy_page.Goals as goal

pub returns : goal.returns
returns c =
    let copied : c.in_ok-bytes.bytes.items ≡ c.bytes.result.now = search rules in
    same_rows c.bytes.result.now c.in_ok-page.page.rows c.args.from.now.rows
    (subst (λ (bytes : List ℕ). IsPage bytes c.in_ok-page.page.rows) copied c.in_ok-page.ensures.0) c.bytes.ensures.grammar
