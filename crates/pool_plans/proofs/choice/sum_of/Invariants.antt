use Rattle.std.proofs.Common.{◌≡◌, ◌≤◌, length, take}
use Rattle.eviction.specs.Victims.{evictable, sizes}
use Rattle.pool_plans.proofs.choice.sum_of.Given as goal

-- the count and the bytes of those that may go among the blocks so far
abbrev pub invariant-loop-block : goal.invariant-loop-block
invariant-loop-block l =
    (l.count ≡ length (evictable l.except (take l.block-index l.list))) × (l.bytes ≡ sizes (evictable l.except (take l.block-index l.list))) × (l.count ≤ l.block-index)
