use Rattle.std.proofs.Common.{◌<◌, ◌∙◌, sym, length}
use Rattle.aggregate.specs.Partial.{partial_at}
use Rattle.result_table.proofs.WideKeys.{any_here, any_more}
use Rattle.result_table.proofs.wide.has_wide.Goals as goal

pub returns-then-is_wide : goal.returns-then-is_wide
returns-then-is_wide c =
    let leaves = sym (c.is_wide.ensures (partial_at c.loop-place.place c.args.value.now) c.finish.ensures) ∙ c.if-is_wide.true in
    let lt : c.loop-place.place < length c.args.aggs.now = rw (← c.items-place-end.ensures.items) c.loop-place-test.true in
    sym (any_here c.args.value.now c.loop-place.place (length c.args.aggs.now) lt leaves)

pub loop-place-preserved : goal.loop-place-preserved
loop-place-preserved c =
    any_more c.args.value.now c.loop-place.place c.loop-place.invariant
    (sym (c.is_wide.ensures (partial_at c.loop-place.place c.args.value.now) c.finish.ensures) ∙ c.if-is_wide.false)
