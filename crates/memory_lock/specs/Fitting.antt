-- What holds of the state whenever no thread has it, and what a worker's own entries tell of it.
-- This project's own.
use Rattle.std.specs.Prelude.{ℕ, ◌≡◌, ◌≤◌, ◌^◌, Option, Some, List}
use Rattle.pool_ledger.specs.declared.entry.Entry.{Entry}
use Rattle.pool_ledger.specs.Sizes.{Sizes, IsInRange}
use Rattle.pool_ledger.specs.History.{History, CanGrow, held, open_task, was_begun}
use Rattle.pool_ledger.specs.Journal.{history_of, journal_of}
use Rattle.pool_ledger.specs.Legal.{IsLegal}
use Rattle.pool_ledger.specs.Workers.{entries_of}
use Rattle.pool_laws.specs.Owners.{AreOwned}
use Rattle.pool_ledger.specs.Blocks.{worker_pin}
use Rattle.memory_core.specs.Caches.{FitsRows, Memory, RowsByName}

-- the state is of these sizes, its journal is legal, each task was begun by its owner, and each block has the rows that are
-- given for it
pub record FitsBasis (sizes : Sizes) (owner : ℕ → Option ℕ) (given : RowsByName) (memory : Memory) : Type 0 where
  pub setup_is : memory.setup ≡ sizes
  pub legal : IsLegal sizes memory.history
  pub owned : AreOwned owner memory.history
  pub rows : FitsRows given memory.cache

-- a worker's own entries, as a history
abbrev pub own_history : ℕ → List Entry → History
own_history worker journal = history_of (entries_of worker journal)

-- the same of a state
abbrev pub own_in : ℕ → Memory → History
own_in worker memory = own_history worker (journal_of memory.history)

-- what a state says of a worker and its task is what the worker's own entries say
pub record OwnDecides (memory : Memory) (worker : ℕ) : Type 0 where
  pub open_is : open_task memory.history worker ≡ open_task (own_in worker memory) worker
  pub pin_is : worker_pin memory.history worker ≡ worker_pin (own_in worker memory) worker

-- what a state says of a task is what its owner's entries say
pub record OwnerDecides (memory : Memory) (worker task : ℕ) : Type 0 where
  pub holds : held memory.history task ≡ held (own_in worker memory) task
  pub begun : was_begun memory.history task ≡ was_begun (own_in worker memory) task

-- what a state says of the worker's open task is what its own entries say
pub record OwnTaskDecides (memory : Memory) (worker task : ℕ) : Type 0 where
  pub open_is : open_task memory.history worker ≡ Some task
  pub holds : held memory.history task ≡ held (own_in worker memory) task

-- what a state says that a task holds is what its worker's own entries say, and no pool is larger than 2 ^ 41 bytes
pub record HoldsWithinPool (memory : Memory) (number task : ℕ) : Type 0 where
  pub holds : held memory.history task ≡ held (own_in number memory) task
  pub most : held (own_in number memory) task ≤ 2 ^ 41

-- the same of a worker's open task after a call
abbrev pub TasksFitPool : Type 0
TasksFitPool =
    (sizes : Sizes) (owner : ℕ → Option ℕ) (given : RowsByName) (before after : Memory) (number task : ℕ) → IsInRange sizes.maximum sizes.region sizes.workers
    → FitsBasis sizes owner given before → FitsBasis sizes owner given after → open_task (own_in number before) number ≡ Some task
    → HoldsWithinPool after number task

-- a worker's own entries decide
pub record OwnEntriesDecide : Type 0 where
  pub worker : (sizes : Sizes) (owner : ℕ → Option ℕ) (given : RowsByName) (memory : Memory) (number : ℕ) → FitsBasis sizes owner given memory → OwnDecides memory number
  pub task : (sizes : Sizes) (owner : ℕ → Option ℕ) (given : RowsByName) (memory : Memory) (number task : ℕ) → FitsBasis sizes owner given memory → owner task ≡ Some number → OwnerDecides memory number task
  pub own_task : (sizes : Sizes) (owner : ℕ → Option ℕ) (given : RowsByName) (memory : Memory) (number task : ℕ) → FitsBasis sizes owner given memory → open_task (own_in number memory) number ≡ Some task → OwnTaskDecides memory number task
  pub growths : (sizes : Sizes) (owner : ℕ → Option ℕ) (given : RowsByName) (memory : Memory) (number bytes : ℕ) → FitsBasis sizes owner given memory → CanGrow sizes (own_in number memory) number bytes → CanGrow sizes memory.history number bytes
