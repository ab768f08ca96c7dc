use Rattle.std.proofs.Common.{◌≡◌, ◌<◌, ◌∷◌, ◌∙◌, [], ℕ, List, false, true, map, refl, sym, subst, length}
use Rattle.aggregate.specs.Partial.{partial_at}
use Rattle.job_plan.specs.Telling.{leaves_i64, told_field, value_partials}
use Rattle.result_table.specs.Table.{PutsFields}
use Rattle.result_table.proofs.Decimals.{decimals_more}
use Rattle.result_table.proofs.RowFields.{puts_more}
use Rattle.result_table.proofs.WideKeys.{any_here, any_more, not_false, not_true}
use Rattle.result_table.proofs.row_fields.put_numbers.Goals as goal

pub returns-then-not-branch-clause-narrow : goal.returns-then-not-branch-clause-narrow
returns-then-not-branch-clause-narrow c =
    let partial = partial_at c.loop-place.place c.args.value.now in
    let lt : c.loop-place.place < length c.args.aggs.now = rw (← c.items-place-end.ensures.items) c.loop-place-test.true in
    let leaves : leaves_i64 partial ≡ true = not_false (leaves_i64 partial) (sym (c.in_ok-put_told.ensures.narrow partial c.finish.ensures) ∙ c.if-not-branch.true) in
    rw (any_here c.args.value.now c.loop-place.place (length c.args.aggs.now) lt leaves) refl

pub loop-place-preserved : goal.loop-place-preserved
loop-place-preserved c =
    let inv = c.loop-place.invariant in
    let partial = partial_at c.loop-place.place c.args.value.now in
    let before = map told_field (value_partials c.loop-place.place c.args.value.now) in
    let stays : leaves_i64 partial ≡ false = not_true (leaves_i64 partial) (sym (c.in_ok-put_told.ensures.narrow partial c.finish.ensures) ∙ c.if-not-branch.false) in
    record {
      puts = subst (λ (fields : List (List ℕ)). PutsFields c.args.writer.now c.put_told.new.writer fields) (sym (decimals_more c.args.value.now c.loop-place.place))
          (puts_more c.args.writer.now c.loop-place.writer c.put_told.new.writer before (told_field partial ∷ []) inv.puts (c.in_ok-put_told.ensures.row partial c.finish.ensures c.if-not-branch.false));
      narrow = any_more c.args.value.now c.loop-place.place inv.narrow stays;
    }
