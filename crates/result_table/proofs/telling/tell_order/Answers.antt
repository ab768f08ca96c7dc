use Rattle.std.proofs.Common.{◌≡◌, ◌∙◌, ℕ, List, [], sym, ap, subst, length, arith}
use Rattle.row_page.proofs.Parts.{one_list}
use Rattle.row_page.proofs.Shown.{fields_shown}
use Rattle.row_page.specs.Reading.{fields_of}
use Rattle.result_table.specs.Table.{IsInRow, text_in}
use Rattle.result_table.proofs.RowFields.{in_row}
use Rattle.result_table.proofs.telling.tell_order.Goals.{then-count-columns-via-else-count-columns+then-value, then-count-columns-via-then-count-columns}
use Rattle.result_table.proofs.telling.tell_order.Goals as goal

pub returns-then-count-columns-clause-untold : goal.returns-then-count-columns-clause-untold
returns-then-count-columns-clause-untold c refused key order =
    let some = rw c.in-Some.is at c.in_ok-count.ensures.some in
    let same = one_list c.args.value.now some.0 order.fields some.1 order.value.pieces in
    elim c.then-count-columns.branch [
      | then-count-columns-via-then-count-columns w ↦ w.if-count-columns.true (sym some.2 ∙ ap length same ∙ order.several)
      | then-count-columns-via-else-count-columns+then-value w ↦ absurd (omega (arith, w.if-value.true, order.value.short))
    ]

pub returns-clause-row : goal.returns-clause-row
returns-clause-row c told =
    let some = rw c.in-Some.is at c.in_ok-count.ensures.some in
    let start = text_in c.args.writer.now in
    let same : fields_of c.args.value.now ≡ some.0 = fields_shown c.args.value.now some.0 some.1 in
    c.in_ok-end_row.ensures start (fields_of c.args.value.now)
    (subst (λ (fs : List (List ℕ)). IsInRow start fs c.put_pieces.new.writer) (sym same) (some.3 start [] (in_row c.args.writer.now c.requires.between)))
