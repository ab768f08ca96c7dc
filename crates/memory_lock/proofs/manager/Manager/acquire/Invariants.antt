use Rattle.std.proofs.Common.{◌≡◌}
use Rattle.pool_ledger.specs.History.{held}
use Rattle.memory_lock.specs.Workers.{AddsWaits, IsOpen, KeepsPin, SeesMore, own_entries, own_of}
use Rattle.memory_lock.proofs.manager.Manager.acquire.Given as goal

-- so far the task was told to wait
abbrev pub invariant-loop : goal.invariant-loop
invariant-loop g l =
    (goal.iterator-loop g).can_next l.iterator' × (goal.iterator-loop g).is_finite l.iterator'
    × SeesMore l.fn.worker l.worker × AddsWaits l.fn.worker.number l.task l.asked (own_entries l.fn.worker) (own_entries l.worker) × IsOpen l.worker l.task × KeepsPin l.fn.worker l.worker
    × (held (own_of l.worker) l.task ≡ held (own_of l.fn.worker) l.task)
