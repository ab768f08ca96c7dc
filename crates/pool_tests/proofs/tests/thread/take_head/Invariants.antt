use Rattle.std.proofs.Common.{◌≡◌}
use Rattle.pool_ledger.specs.History.{grown_by, total}
use Rattle.memory_lock.specs.Workers.{own_of}
use Rattle.pool_tests.specs.Seats.{IsIdle}
use Rattle.pool_tests.proofs.tests.thread.take_head.Given as goal

-- the worker has no task, and has made the pools so much larger
abbrev pub invariant-loop-step : goal.invariant-loop-step
invariant-loop-step g l =
    (goal.iterator-loop-step g).can_next l.step-iterator ×
    (goal.iterator-loop-step g).is_finite l.step-iterator ×
    IsIdle l.seat.manager.now l.seat.count l.seat.number l.seat.next l.worker × (total grown_by (own_of l.worker) ≡ l.grown)
