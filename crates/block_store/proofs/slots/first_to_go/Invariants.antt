use Rattle.std.proofs.Common.{◌≡◌, map}
use Rattle.std.specs.List.{find}
use Rattle.std.specs.Iterator.Adapters.{rev_source}
use Rattle.eviction.specs.Victims.{is_evictable}
use Rattle.block_store.specs.Stores.{candidate_of}
use Rattle.block_store.specs.Slots.{blocks_in}
use Rattle.block_store.proofs.slots.first_to_go.Given as goal

abbrev pub invariant-loop-slot : goal.invariant-loop-slot
invariant-loop-slot l =
    (goal.iterator-loop-slot).can_next l.slot-iterator
    × (goal.iterator-loop-slot).is_finite l.slot-iterator
    × (find (is_evictable l.except) (map candidate_of (blocks_in (rev_source l.slot-iterator))) ≡ find (is_evictable l.except) (map candidate_of (blocks_in l.slots.entries)))
