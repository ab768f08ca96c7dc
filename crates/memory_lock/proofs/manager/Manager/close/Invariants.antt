use Rattle.std.proofs.Common.{length}
use Rattle.memory_lock.proofs.Crews.{IsJoined}
use Rattle.memory_lock.proofs.manager.Manager.close.Given as goal

-- the workers that were taken out are joined into one
abbrev pub invariant-loop-worker : goal.invariant-loop-worker
invariant-loop-worker g l = IsJoined l.self l.fn.workers.items l.workers.items l.all

abbrev pub decreases-loop-worker : goal.decreases-loop-worker
decreases-loop-worker g l = length l.workers.items
