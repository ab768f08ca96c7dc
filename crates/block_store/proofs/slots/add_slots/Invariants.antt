use Rattle.std.proofs.Common.{◌≡◌, ◌≤◌, ◌-◌, ◌^◌, length}
use Rattle.block_store.specs.Slots.{blocks_in, AreBelow}
use Rattle.block_store.proofs.slots.add_slots.Given as goal

abbrev pub invariant-loop-slots : goal.invariant-loop-slots
invariant-loop-slots l =
    (length l.fn.slots.entries ≤ length l.slots.entries)
    × (blocks_in l.slots.entries ≡ blocks_in l.fn.slots.entries)
    × AreBelow (length l.slots.entries) l.slots.entries
    × (l.slots.cap ≡ 2 ^ 64 - 1)

abbrev pub decreases-loop-slots : goal.decreases-loop-slots
decreases-loop-slots l = l.wanted - length l.slots.entries
