use Rattle.std.proofs.Common.{◌≡◌}
use Rattle.block_store.proofs.Walks.{is_empty, first_slot}
use Rattle.block_store.proofs.slots.find_empty.Given as goal

abbrev pub invariant-loop-number : goal.invariant-loop-number
invariant-loop-number l =
    (goal.iterator-loop-number).can_next l.number-iterator
    × (goal.iterator-loop-number).is_finite l.number-iterator
    × (first_slot is_empty l.number-iterator ≡ first_slot is_empty l.slots.entries)
