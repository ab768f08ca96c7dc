use Rattle.std.proofs.Common.{◌≡◌}
use Rattle.memory_lock.specs.Workers.{IsOpen}
use Rattle.rates.proofs.lock.serve.Given as goal

-- the worker is the manager's, and its task is open
abbrev pub invariant-loop : goal.invariant-loop
invariant-loop g l = (l.worker.lock ≡ l.manager) × IsOpen l.worker l.task

abbrev pub invariant-loop-part : goal.invariant-loop-part
invariant-loop-part g l = (l.worker.lock ≡ l.manager) × IsOpen l.worker l.task
