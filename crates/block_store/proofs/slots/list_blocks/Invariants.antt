use Rattle.std.proofs.Common.{◌≡◌, ◌≤◌, ◌++◌, map, vec_capacity}
use Rattle.std.specs.Iterator.Adapters.{rev_source}
use Rattle.block_store.specs.Stores.{candidate_of}
use Rattle.block_store.specs.Slots.{blocks_in}
use Rattle.block_store.proofs.slots.list_blocks.Given as goal

abbrev pub invariant-loop-slot : goal.invariant-loop-slot
invariant-loop-slot l =
    (goal.iterator-loop-slot).can_next l.slot-iterator
    × (goal.iterator-loop-slot).is_finite l.slot-iterator
    × (l.list.items ++ map candidate_of (blocks_in (rev_source l.slot-iterator)) ≡ map candidate_of (blocks_in l.slots.entries))
    × (vec_capacity l.fn.list ≤ vec_capacity l.list)
