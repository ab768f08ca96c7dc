-- What a task's account shows to contracts.
-- This project's own.
use Rattle.std.specs.Prelude.{ℕ}
use Rattle.pool_ledger.specs.Sizes.{Sizes, floor_of}
use Rattle.turn_lock.specs.Passes.{LockId, WorkerView}
use Rattle.task_pool.specs.Pools.{PoolState}
use Rattle.task_account.specs.declared.account.Account.{Account}
use Rattle.task_account.specs.Attempts.{held_by}

-- a worker with its task, in a pool of these sizes; `lent` is the name under which the worker is lent
abbrev pub pool_at : Sizes → LockId → ℕ → WorkerView → ℕ → PoolState
pool_at sizes lock task worker lent = record {
  lock = lock;
  task = task;
  worker = worker;
  account = held_by (floor_of sizes) task worker;
  lent = lent;
}

-- what an account shows, in a pool of these sizes
abbrev pub state_of : {R K B : Type 0} → Sizes → Account R K B → PoolState
state_of sizes account = pool_at sizes account.manager.now account.task account.worker.now account.worker.ghost_name
