use Rattle.std.proofs.Common.{ℕ, List, [], subst}
use Rattle.std.proofs.lemmas.Result.{on_ok_weaker}
use Rattle.row_page.specs.Views.{fields_in}
use Rattle.row_page.proofs.Parts.{one_list}
use Rattle.result_table.specs.Table.{IsInRow, text_in}
use Rattle.result_table.proofs.RowFields.{in_row}
use Rattle.result_table.proofs.telling.tell_view.Goals as goal

pub returns : goal.returns
returns c =
    let some = rw c.in-Some.is at c.in_ok-put_pieces.ensures.some in
    let fields = fields_in c.args.view.now in
    let start = text_in c.args.writer.now in
    let same = one_list c.bytes.result.now some.0 fields some.1 c.bytes.ensures.grammar.pieces in
    let all = subst (λ (fs : List (List ℕ)). IsInRow start fs c.put_pieces.new.writer) same (some.3 start [] (in_row c.args.writer.now c.requires.between)) in
    on_ok_weaker c.end_row.result (λ ends. ends start fields all) c.end_row.ensures
