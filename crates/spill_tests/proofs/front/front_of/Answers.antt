use Rattle.std.proofs.Common.{◌≡◌, ◌<◌, length, false, arith, rules}
use Rattle.std.specs.Ordering.{is_gt}
use Rattle.aggregate.specs.Totals.{key_cmp}
use Rattle.spill_tests.proofs.Fronts.{ascends_more}
use Rattle.spill_tests.proofs.front.front_of.Goals as goal

pub loop-i-preserved : goal.loop-i-preserved
loop-i-preserved c =
    let below : c.loop-i.i < length c.args.rows.now = search rules in
    let last : is_gt (key_cmp c.index-rows-i.result.key.items c.index-rows-i-in-loop-i.result.key.items) ≡ false = search rules in
    ascends_more c.args.rows.now c.loop-i.i c.index-rows-i.result c.index-rows-i-in-loop-i.result (omega (arith, c.loop-i.auto.i)) below c.index-rows-i.is c.index-rows-i-in-loop-i.is last c.loop-i.invariant
