use Rattle.std.proofs.Common.{◌∙◌, ℕ, List, sym, subst, true≢false}
use Rattle.row_page.proofs.Fronts.{one_front}
use Rattle.row_page.specs.Grammar.{IsRow}
use Rattle.run_file.proofs.run_reader.front_of.Goals as goal

pub returns-then-not-takes-clause-none : goal.returns-then-not-takes-clause-none
returns-then-not-takes-clause-none c row piece behind here spelled formed =
    let same = one_front c.args.bytes.now piece c.in-Some.piece.now behind c.in-Some.field-0-1.now here c.in-Some.ensures.found in
    let yes = c.takes.ensures.1 (row, subst (λ (t : List ℕ). IsRow t row) same.0 spelled, formed) in
    true≢false (sym yes ∙ c.if-not-takes.true)
