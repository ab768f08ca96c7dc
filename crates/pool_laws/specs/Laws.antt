-- Laws of the pool, in bytes, for every history that is permitted entry by entry.
-- After Spark: UnifiedMemoryManager and ExecutionMemoryPool. The floor, pins and the amounts evicted are this project's own.
use Rattle.std.specs.Prelude.{ℕ, ◌≡◌, ◌≢◌, ◌+◌, ◌≤◌, ◌<◌, true, false, cond, Option, Some, None, IsSome, [], ◌∷◌, filter}
use Rattle.std.specs.Bool.{MatchBool}
use Rattle.pool_ledger.specs.declared.entry.Entry.{Entry}
use Rattle.pool_ledger.specs.Sizes.{Sizes, floor_of}
use Rattle.pool_ledger.specs.History.{History, held, exec, is_active, active, open_task, maximum, execution_pool, storage_pool}
use Rattle.pool_ledger.specs.Blocks.{residents, is_pinned, sizes, stored, victims, worker_pin}
use Rattle.pool_ledger.specs.Answers.{growth, answer}
use Rattle.pool_ledger.specs.Legal.{is_eviction, AttemptIsRight, MayFollow}
use Rattle.pool_ledger.specs.Recorded.{CanFollow}
use Rattle.pool_laws.specs.UseOrder.{AreInUseOrder}

-- execution and storage never pass their pools, and the pools add up to what there is
pub record NeverPasses (setup : Sizes) (history : History) : Type 0 where
  pub exec_fits : exec history ≤ execution_pool setup history
  pub stored_fits : stored history ≤ storage_pool setup history
  pub pools_add_up : execution_pool setup history + storage_pool setup history ≡ maximum setup history

-- Tasks

-- how many tasks are active once this one is
abbrev pub active_with : History → ℕ → ℕ
active_with history task = active history + cond (is_active history task) 0 1

-- no more tasks are active than there are workers, also once a worker's task asks; each active task counts
pub record AreFewActive (setup : Sizes) (history : History) : Type 0 where
  pub now : active history ≤ setup.workers
  pub counted : (task : ℕ) → is_active history task ≡ true → 1 ≤ active history
  pub asking : (worker task : ℕ) → open_task history worker ≡ Some task → active_with history task ≤ setup.workers

-- the task holds nothing and isn't active
pub record IsIdle (history : History) (task : ℕ) : Type 0 where
  pub nothing : held history task ≡ 0
  pub idle : is_active history task ≡ false

-- a task that no worker has open, since it was ended or never begun, is idle
abbrev pub ClosedTasksAreIdle : History → Type 0
ClosedTasksAreIdle history = (task : ℕ) → ((worker : ℕ) → open_task history worker ≢ Some task) → IsIdle history task

-- what one task holds is part of what all hold
abbrev pub TasksFit : History → Type 0
TasksFit history = (task : ℕ) → held history task ≤ exec history

-- no active task holds more
abbrev pub HoldsMost : History → ℕ → Type 0
HoldsMost history task = (other : ℕ) → is_active history other ≡ true → held history other ≤ held history task

-- the greatest holder is never told to wait
abbrev pub GreatestNeverWaits : Sizes → History → Type 0
GreatestNeverWaits setup history = (task asked : ℕ) → HoldsMost history task → answer setup history task asked ≢ None

-- some other active task holds strictly more
abbrev pub IsPassed : History → ℕ → Type 0
IsPassed history task = (other : ℕ) × (is_active history other ≡ true) × (held history task < held history other)

-- where a task is told to wait, some other active task holds strictly more
abbrev pub WaitersArePassed : Sizes → History → Type 0
WaitersArePassed setup history = (task asked : ℕ) → answer setup history task asked ≡ None → IsPassed history task

-- a grant below what was asked leaves the task holding at least the floor
abbrev pub ShortGrantsKeepFloor : Sizes → History → Type 0
ShortGrantsKeepFloor setup history =
    (task asked granted : ℕ) → active_with history task ≤ setup.workers → answer setup history task asked ≡ Some granted
    → granted < asked → floor_of setup ≤ held history task + granted

-- Blocks

-- the bytes of the pinned blocks
abbrev pub pinned_bytes : History → ℕ
pinned_bytes history = sizes (filter (λ block. is_pinned history block.dataset block.part) (residents history))

-- a worker's pin keeps its block
abbrev pub PinsKeep : Sizes → History → Type 0
PinsKeep setup history =
    (worker dataset part : ℕ) → worker < setup.workers → worker_pin history worker ≡ Some (record { dataset = dataset; part = part })
    → is_pinned history dataset part ≡ true

-- where an attempt needs bytes that blocks have, there are victims that give them
abbrev pub VictimsExist : Sizes → History → Type 0
VictimsExist setup history =
    (asked : ℕ) → 0 < (growth setup history asked).need → IsSome (victims history (growth setup history asked).need None)

-- each eviction that no attempt or admission has followed yet came while storage was above its region
abbrev pub AreEvictedAboveRegion : Sizes → History → Type 0
AreEvictedAboveRegion setup [] = Unit {0}
AreEvictedAboveRegion setup (entry ∷ before) =
    MatchBool (is_eviction entry.event) ((setup.region < stored before) × AreEvictedAboveRegion setup before) (Unit {0})

-- each block that is evicted for an attempt is evicted while storage is above its region
abbrev pub EvictsAboveRegion : Sizes → History → Type 0
EvictsAboveRegion setup history =
    (task asked moved evictions : ℕ) (got : Option ℕ)
    → AttemptIsRight setup history task asked moved evictions got → AreEvictedAboveRegion setup history

-- Entries

-- an entry that may legally follow is one that a ledger takes
abbrev pub AreTaken : Sizes → History → Type 0
AreTaken setup history = (entry : Entry) → MayFollow setup history entry → CanFollow setup history entry

-- All of them
pub record KeepsLaws (setup : Sizes) (history : History) : Type 0 where
  pub never_passes : NeverPasses setup history
  pub tasks_fit : TasksFit history
  pub few_active : AreFewActive setup history
  pub closed_idle : ClosedTasksAreIdle history
  pub greatest : GreatestNeverWaits setup history
  pub passed : WaitersArePassed setup history
  pub floor : ShortGrantsKeepFloor setup history
  pub pins_fit : pinned_bytes history ≤ setup.region
  pub pins_keep : PinsKeep setup history
  pub victims_exist : VictimsExist setup history
  pub above_region : EvictsAboveRegion setup history
  pub taken : AreTaken setup history
  pub use_order : AreInUseOrder history
