use Rattle.std.proofs.Common.{◌≡◌, ◌<◌, ◌+◌, true, false, [], length, get_or, Err, sym, ap, ◌∙◌, arith}
use Rattle.std.proofs.lemmas.Result.{err_from_is_err_and}
use Rattle.row_page.specs.Spelling.{page_length, row_length}
use Rattle.row_page.specs.Views.{fields_in}
use Rattle.row_filter.specs.Rows.{keeps_row}
use Rattle.row_filter.proofs.Selections.{fitting_taken, front_taken, none_more, room_passed, row_put}
use Rattle.row_filter.proofs.selecting.select.Goals as goal
use Rattle.row_filter.proofs.selecting.select.Goals.{then-keeps+in_ok-push, else-keeps}

pub returns-in_err-push-clause-err : goal.returns-in_err-push-clause-err
returns-in_err-push-clause-err c =
    let f = c.args.filter.now in
    let rows = c.args.from.now.rows in
    let i = c.loop-i.i in
    let lt : i < length rows = omega (arith, c.loop-i-test.true, c.rows-i-end.ensures) in
    let k : keeps_row f (get_or rows i []) ≡ true = ap (keeps_row f) (sym c.row-row.ensures ∙ ap fields_in (sym c.again.ensures)) ∙ sym c.keeps.ensures ∙ c.if-keeps.true in
    let put = c.in_err-push.ensures.err ∙ c.loop-i.invariant.put in
    let p = err_from_is_err_and c.from_residual.result c.from_residual.ensures.1 in
    rw p.1 (front_taken f rows i lt c.args.into.now c.push.new.self put k)

pub returns-in_err-push-clause-full : goal.returns-in_err-push-clause-full
returns-in_err-push-clause-full c = λ h.
    let f = c.args.filter.now in
    let rows = c.args.from.now.rows in
    let i = c.loop-i.i in
    let lt : i < length rows = omega (arith, c.loop-i-test.true, c.rows-i-end.ensures) in
    let k : keeps_row f (get_or rows i []) ≡ true = ap (keeps_row f) (sym c.row-row.ensures ∙ ap fields_in (sym c.again.ensures)) ∙ sym c.keeps.ensures ∙ c.if-keeps.true in
    let put = c.in_err-push.ensures.err ∙ c.loop-i.invariant.put in
    let p = err_from_is_err_and c.from_residual.result c.from_residual.ensures.1 in
    let past = c.in_err-push.ensures.full.0 (ap Err (sym p.2) ∙ sym p.1 ∙ h) in
    let full : c.push.new.self.room < page_length c.push.new.self.rows + (4 + row_length (get_or rows i [])) = rw (c.in_err-push.ensures.err, sym c.row-row.ensures) past in
    fitting_taken f rows i lt c.args.into.now c.push.new.self put k full

pub returns-in_err-push-clause-passes : goal.returns-in_err-push-clause-passes
returns-in_err-push-clause-passes c = λ h.
    let f = c.args.filter.now in
    let rows = c.args.from.now.rows in
    let i = c.loop-i.i in
    let lt : i < length rows = omega (arith, c.loop-i-test.true, c.rows-i-end.ensures) in
    let k : keeps_row f (get_or rows i []) ≡ true = ap (keeps_row f) (sym c.row-row.ensures ∙ ap fields_in (sym c.again.ensures)) ∙ sym c.keeps.ensures ∙ c.if-keeps.true in
    let put = c.in_err-push.ensures.err ∙ c.loop-i.invariant.put in
    let p = err_from_is_err_and c.from_residual.result c.from_residual.ensures.1 in
    let past = c.in_err-push.ensures.full.0 (ap Err (sym p.2) ∙ sym p.1 ∙ h) in
    let full : c.push.new.self.room < page_length c.push.new.self.rows + (4 + row_length (get_or rows i [])) = rw (c.in_err-push.ensures.err, sym c.row-row.ensures) past in
    room_passed f rows i lt c.args.into.now c.push.new.self put k full

pub loop-i-preserved : goal.loop-i-preserved
loop-i-preserved c =
    let f = c.args.filter.now in
    let rows = c.args.from.now.rows in
    let i = c.loop-i.i in
    let lt : i < length rows = omega (arith, c.loop-i-test.true, c.rows-i-end.ensures) in
    record {
      put = elim c.if-keeps.branch [
        | then-keeps+in_ok-push w ↦
            let k : keeps_row f (get_or rows i []) ≡ true = ap (keeps_row f) (sym c.row-row.ensures ∙ ap fields_in (sym c.again.ensures)) ∙ sym c.keeps.ensures ∙ w.if-keeps.true in
            w.into-is ∙ row_put f rows i lt c.args.into.now c.loop-i.into c.loop-i.invariant.put k w.push.new.self (fields_in c.row-row.result) c.row-row.ensures w.in_ok-push.ensures.ok
        | else-keeps w ↦
            let k : keeps_row f (get_or rows i []) ≡ false = ap (keeps_row f) (sym c.row-row.ensures ∙ ap fields_in (sym c.again.ensures)) ∙ sym c.keeps.ensures ∙ w.if-keeps.false in
            rw (none_more f rows i lt k) (w.into-is ∙ c.loop-i.invariant.put)
      ];
    }
