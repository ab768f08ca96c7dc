-- A task with its worker and its pool, and how a call goes on with them.
-- This project's own.
use Rattle.std.specs.Prelude.{ℕ, ◌≡◌, ◌≤◌}
use Rattle.turn_lock.specs.Passes.{LockId, WorkerView}
use Rattle.task_pool.specs.Accounts.{Held}
use Rattle.task_pool.specs.Asks.{AddsAsks}
use Rattle.task_pool.specs.Workers.{IsOpen, KeepsPin, KeepsTask, SeesMore, own_entries}

-- the pool's lock, the task, its worker, what the task holds, and what is lent to the account, by name
pub record PoolState : Type 0 where
  pub lock : LockId
  pub task : ℕ
  pub worker : WorkerView
  pub account : Held
  pub lent : ℕ

-- the worker is of this lock, and has this task open, which holds no more than it ever held
pub record IsAtWork (pool : PoolState) : Type 0 where
  pub lock_is : pool.worker.lock ≡ pool.lock
  pub has_task : IsOpen pool.worker pool.task
  pub peaked : pool.account.held ≤ pool.account.peak

-- the worker has seen more, its task is open and its pin as before, and it added asks alone
pub record Goes (old new : PoolState) : Type 0 where
  pub same_lock : new.lock ≡ old.lock
  pub same_task : new.task ≡ old.task
  pub lent : new.lent ≡ old.lent
  pub at_work : IsAtWork new
  pub floor : new.account.floor ≡ old.account.floor
  pub peak : old.account.peak ≤ new.account.peak
  pub sees : SeesMore old.worker new.worker
  pub keeps_task : KeepsTask old.worker new.worker
  pub keeps_pin : KeepsPin old.worker new.worker
  pub adds : AddsAsks old.worker.number old.task (own_entries old.worker) (own_entries new.worker)
