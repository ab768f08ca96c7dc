-- What a worker's own entries say of its task and its pin.
-- This project's own.
use Rattle.std.specs.Prelude.{ℕ, ◌≡◌, Some, None, List}
use mathlib.Core.List.{IsPrefix}
use Rattle.pool_ledger.specs.declared.entry.Entry.{Entry}
use Rattle.pool_ledger.specs.declared.entry.Event.TheVariants.{Evict}
use Rattle.pool_ledger.specs.declared.entry.Fate.{Fate}
use Rattle.pool_ledger.specs.History.{History, open_task}
use Rattle.pool_ledger.specs.Blocks.{worker_pin}
use Rattle.pool_ledger.specs.Journal.{history_of}
use Rattle.pool_ledger.specs.Workers.{entries_of}
use Rattle.pool_laws.specs.Growing.{entry_by}
use Rattle.turn_lock.specs.Passes.{WorkerView}

-- the worker has seen more, and nothing else of it changed
pub record SeesMore (before after : WorkerView) : Type 0 where
  pub lock_is : after.lock ≡ before.lock
  pub number_is : after.number ≡ before.number
  pub speaks_is : after.speaks ≡ before.speaks
  pub spare_is : after.spare ≡ before.spare
  pub begins : IsPrefix before.seen after.seen

-- the entry is an eviction by the worker
abbrev pub IsEviction : ℕ → Entry → Type 0
IsEviction worker entry = (dataset part size : ℕ) × (fate : Fate) × (entry ≡ entry_by worker (Evict dataset part size fate))

-- a worker's own entries
abbrev pub own_entries : WorkerView → List Entry
own_entries worker = entries_of worker.number worker.seen

-- the same, as a history
abbrev pub own_of : WorkerView → History
own_of worker = history_of (own_entries worker)

-- the worker has this task open
abbrev pub IsOpen : WorkerView → ℕ → Type 0
IsOpen worker task = open_task (own_of worker) worker.number ≡ Some task

-- the worker has no task
abbrev pub IsFree : WorkerView → Type 0
IsFree worker = open_task (own_of worker) worker.number ≡ None

-- its task is open as before, if it has one
abbrev pub KeepsTask : WorkerView → WorkerView → Type 0
KeepsTask before after = open_task (own_of after) after.number ≡ open_task (own_of before) before.number

-- its pin is as before, if it has one
abbrev pub KeepsPin : WorkerView → WorkerView → Type 0
KeepsPin before after = worker_pin (own_of after) after.number ≡ worker_pin (own_of before) before.number
