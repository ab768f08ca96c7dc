-- What holds of a worker between two steps of its script.
-- This project's own.
use Rattle.std.specs.Prelude.{◌≡◌, ◌≤◌, ℕ, false, None}
use Rattle.pool_ledger.specs.History.{was_begun}
use Rattle.turn_lock.specs.Passes.{LockId, WorkerView}
use Rattle.memory_lock.specs.Crew.{IsWorker}
use Rattle.memory_lock.specs.Workers.{HasNoPin, IsFree, IsOpen, own_of}

-- the worker, once it rests
abbrev pub at_rest : WorkerView → WorkerView
at_rest worker = record { lock = worker.lock; number = worker.number; speaks = worker.speaks; spare = worker.spare; seen = worker.seen; base = None }

-- worker `number` of so many, which has no block pinned and has begun no task from `next` on
pub record IsSteady (lock : LockId) (count number next : ℕ) (worker : WorkerView) : Type 0 where
  pub its : IsWorker lock count number (at_rest worker)
  pub no_pin : HasNoPin worker
  pub fresh : (task : ℕ) → next ≤ task → was_begun (own_of worker) task ≡ false

-- the same without a task
pub record IsIdle (lock : LockId) (count number next : ℕ) (worker : WorkerView) : Type 0 where
  pub steady : IsSteady lock count number next worker
  pub no_task : IsFree worker

-- the same within this task
pub record IsPlaying (lock : LockId) (count number next task : ℕ) (worker : WorkerView) : Type 0 where
  pub steady : IsSteady lock count number next worker
  pub its_task : IsOpen worker task
