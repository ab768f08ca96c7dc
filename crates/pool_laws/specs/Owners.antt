-- What a worker's own entries tell, where each task belongs to one worker.
-- This project's own.
use Rattle.std.specs.Prelude.{ℕ, ◌≡◌, Option, Some, [], ◌∷◌}
use Rattle.pool_ledger.specs.declared.entry.Event.{Event}
use Rattle.pool_ledger.specs.declared.entry.Event.TheVariants.{Begin}
use Rattle.pool_ledger.specs.History.{History, grown_by, held, is_active, open_task, total, was_begun}
use Rattle.pool_ledger.specs.Blocks.{worker_pin}

-- a begin is by the task's owner
abbrev pub IsByOwner : (ℕ → Option ℕ) → ℕ → Event → Type 0
IsByOwner owner worker (Begin task) = owner task ≡ Some worker
IsByOwner owner worker _ = Unit {0}

-- each begin is by its task's owner
abbrev pub AreOwned : (ℕ → Option ℕ) → History → Type 0
AreOwned owner [] = Unit {0}
AreOwned owner (entry ∷ before) = AreOwned owner before × IsByOwner owner entry.worker entry.event

-- a history and a worker's own entries of it tell the same of the worker: its open task, and its pin
pub record TellsWorker (history own : History) (worker : ℕ) : Type 0 where
  pub task : open_task history worker ≡ open_task own worker
  pub pin : worker_pin history worker ≡ worker_pin own worker

-- a history and the entries of a task's owner tell the same of the task: what it holds in bytes, whether it is active,
-- and whether it was begun
pub record OwnerTells (history own : History) (task : ℕ) : Type 0 where
  pub holds : held history task ≡ held own task
  pub active : is_active history task ≡ is_active own task
  pub begun : was_begun history task ≡ was_begun own task

-- a history and the first worker's own entries of it tell the same of what the pools grew by, in bytes
abbrev pub TellsGrowths : History → History → Type 0
TellsGrowths history own = total grown_by history ≡ total grown_by own
