use Rattle.std.proofs.Common.{◌≡◌, ◌<◌, take}
use Rattle.eviction.specs.Victims.{evictable, sizes}
use Rattle.eviction.proofs.choice.victims.Given as goal

-- the bytes that may go among the blocks so far, which don't reach the need
abbrev pub invariant-loop-index : goal.invariant-loop-index
invariant-loop-index l = (l.reached ≡ sizes (evictable l.except (take l.index l.list))) × (l.reached < l.need)
