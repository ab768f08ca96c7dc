use Rattle.std.proofs.Common.{arith}
use Rattle.std.proofs.Common.{◌≡◌, ◌+◌, ◌-◌, ◌*◌}
use Rattle.aggregate.proofs.Combining.{combine-step, slot_formed, slot_left}
use Rattle.aggregate.proofs.partial.combine_each.Goals as goal

pub loop-i-preserved : goal.loop-i-preserved
loop-i-preserved c =
    combine-step c.args.aggs.now c.loop-i.i _ c.args.into.now c.args.from.now c.loop-i.into c.join_bytes.new.into (omega arith) (omega arith) c.loop-i.invariant c.join_bytes.ensures

pub join_bytes-requires-clause-into : goal.join_bytes-requires-clause-into
join_bytes-requires-clause-into c =
    let i = c.loop-i.i in
    let k : 17 * i + 17 - 17 * i ≡ 17 = omega arith in
    let here = slot_left c.args.aggs.now i c.args.into.now c.args.from.now c.loop-i.into c.loop-i-test.true c.loop-i.invariant in
    rw (k, here) (slot_formed c.args.aggs.now i c.args.into.now c.loop-i-test.true c.requires.into)

pub join_bytes-requires-clause-from : goal.join_bytes-requires-clause-from
join_bytes-requires-clause-from c =
    let i = c.loop-i.i in
    let k : 17 * i + 17 - 17 * i ≡ 17 = omega arith in
    rw k (slot_formed c.args.aggs.now i c.args.from.now c.loop-i-test.true c.requires.from)
