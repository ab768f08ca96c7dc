use Rattle.std.proofs.Common.{arith}
use Rattle.block_store.proofs.Walks.{below_put}
use Rattle.block_store.proofs.slots.add_slots.Goals as goal

pub loop-slots-preserved : goal.loop-slots-preserved
loop-slots-preserved c =
    let kept = c.loop-slots.invariant in
    rw c.in_ok-add_slot.ensures.ok (omega (arith, kept.0), kept.1, below_put c.loop-slots.slots.entries kept.2, c.add_slot.ensures.unbounded)
