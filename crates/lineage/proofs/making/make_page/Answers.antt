use Rattle.std.proofs.Common.{◌≡◌, ◌∙◌, None, sym, rules}
use Rattle.row_filter.specs.Chains.{filter_at}
use Rattle.lineage.proofs.FormedRows.{own_all}
use Rattle.lineage.proofs.making.make_page.Goals as goal

pub returns-in_ok-copy_page-in-None : goal.returns-in_ok-copy_page-in-None
returns-in_ok-copy_page-in-None c =
    let none : filter_at c.args.lineage.now.chain c.args.dataset ≡ None = search rules in
    c.in_ok-copy_page-in-None.ensures ∙ sym (own_all c.args.lineage.now.chain c.args.dataset c.args.from.now.rows none)
