use Rattle.std.proofs.Common.{◌≡◌}
use Rattle.block_store.proofs.Walks.{has_block, first_slot}
use Rattle.block_store.proofs.slots.find.Given as goal

abbrev pub invariant-loop-number : goal.invariant-loop-number
invariant-loop-number l =
    (goal.iterator-loop-number).can_next l.number-iterator
    × (goal.iterator-loop-number).is_finite l.number-iterator
    × (first_slot (has_block l.dataset l.part) l.number-iterator ≡ first_slot (has_block l.dataset l.part) l.slots.entries)
