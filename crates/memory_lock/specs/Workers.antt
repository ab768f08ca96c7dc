-- What a call adds to a worker's own entries.
-- This project's own.
use Rattle.std.specs.Prelude.{ℕ, ◌≡◌, ◌≤◌, ◌+◌, ◌⊎◌, true, false, Option, Some, None, List, [], ◌∷◌, ◌++◌, length}
use Rattle.std.specs.Arc.{arc_value}
use Rattle.std.specs.List.{AllByRecursion}
use Rattle.pool_ledger.specs.declared.entry.Entry.{Entry}
use Rattle.pool_ledger.specs.declared.entry.Event.TheVariants.{Attempt, Admit, Refused as RefusedEvent, Pin, Remove}
use Rattle.pool_ledger.specs.History.{History}
use Rattle.pool_ledger.specs.Blocks.{is_resident, worker_pin}
use Rattle.pool_ledger.specs.Journal.{history_of}
use Rattle.pool_laws.specs.Growing.{entry_by}
use Rattle.block_store.specs.declared.block.Block.{Block}
use Rattle.memory_core.specs.declared.admission.Admission.{Admission as Answer}
use Rattle.memory_core.specs.declared.admission.Admission.TheVariants.{Admitted, Refused, Resident as AlreadyResident}
use Rattle.memory_core.specs.declared.pinned.Pinned.{Pinned}
use Rattle.memory_core.specs.declared.pinned.Pinned.TheVariants.{Hit, OnDisk as ReadBack, Miss}
use Rattle.memory_core.specs.Caches.{AreGiven, RowsByName}
use Rattle.memory_core.specs.Changes.{HasPinnedAlone}
use Rattle.turn_lock.specs.Passes.{WorkerView}
pub use Rattle.task_pool.specs.Workers.{IsEviction, IsFree, IsOpen, KeepsPin, KeepsTask, SeesMore, own_entries, own_of}

-- Evictions

-- each of them is
abbrev pub AreEvictions : ℕ → List Entry → Type 0
AreEvictions worker entries = AllByRecursion (IsEviction worker) entries

-- Asks

-- these entries are those before, evictions by the worker, and an attempt of its task for so many bytes with this answer
abbrev pub AddsAttempt : ℕ → ℕ → ℕ → Option ℕ → List Entry → List Entry → Type 0
AddsAttempt worker task asked got before after =
    (evicted : List Entry) × (moved : ℕ) × AreEvictions worker evicted
    × (after ≡ before ++ (evicted ++ entry_by worker (Attempt task asked moved (length evicted) got) ∷ []))

-- the entry is an attempt of the worker's task that was told to wait
abbrev pub IsWait : ℕ → ℕ → ℕ → Entry → Type 0
IsWait worker task asked entry = (moved evictions : ℕ) × (entry ≡ entry_by worker (Attempt task asked moved evictions None))

-- a grant is at most what was asked
abbrev pub IsAtMost : ℕ → Option ℕ → Type 0
IsAtMost asked (Some granted) = granted ≤ asked
IsAtMost asked None = Unit {0}

-- these entries are those before, and attempts of the task that were told to wait, with their evictions
abbrev pub AddsWaits : ℕ → ℕ → ℕ → List Entry → List Entry → Type 0
AddsWaits worker task asked before after =
    (waits : List Entry) × (after ≡ before ++ waits) × AllByRecursion (λ entry. IsWait worker task asked entry ⊎ IsEviction worker entry) waits

-- these entries are those before, attempts that were told to wait, and one that was granted so much
abbrev pub AddsGrant : ℕ → ℕ → ℕ → ℕ → List Entry → List Entry → Type 0
AddsGrant worker task asked granted before after =
    (amid : List Entry) × AddsWaits worker task asked before amid × AddsAttempt worker task asked (Some granted) amid after

-- Blocks

-- a worker's entries before and after a pin, and the whole history after it
abbrev pub PinGrows : Pinned → ℕ → ℕ → ℕ → List Entry → List Entry → History → Type 0
PinGrows (Hit block) worker dataset part before after history = after ≡ before ++ entry_by worker (Pin dataset part false) ∷ []
PinGrows (ReadBack block) worker dataset part before after history = after ≡ before ++ entry_by worker (Pin dataset part true) ∷ []
PinGrows Miss worker dataset part before after history = (after ≡ before) × (is_resident history dataset part ≡ false)

-- the same of an admission, of a block of this size
abbrev pub AdmissionGrows : Answer → Block → ℕ → ℕ → List Entry → List Entry → History → Type 0
AdmissionGrows Admitted block size worker before after history =
    (evicted : List Entry) × (borrowed : ℕ) × AreEvictions worker evicted
    × (after ≡ before ++ (evicted ++ entry_by worker (Admit block.dataset block.part size block.level borrowed (length evicted)) ∷ []))
AdmissionGrows Refused block size worker before after history =
    (evicted : List Entry) × (borrowed : ℕ) × AreEvictions worker evicted
    × (after ≡ before ++ (evicted ++ entry_by worker (RefusedEvent block.dataset block.part size borrowed (length evicted)) ∷ []))
AdmissionGrows AlreadyResident block size worker before after history = (after ≡ before) × (is_resident history block.dataset block.part ≡ true)

-- removals of blocks of a dataset by the worker, ascending by part from this one on
abbrev pub AreRemovals : ℕ → ℕ → ℕ → List Entry → Type 0
AreRemovals worker dataset from [] = Unit {0}
AreRemovals worker dataset from (entry ∷ more) =
    (part size : ℕ) × (entry ≡ entry_by worker (Remove dataset part size)) × (from ≤ part) × AreRemovals worker dataset (part + 1) more

-- the same as above of a removal
abbrev pub RemovalGrows : ℕ → ℕ → List Entry → List Entry → History → Type 0
RemovalGrows dataset worker before after history =
    (gone : List Entry) × AreRemovals worker dataset 0 gone × (after ≡ before ++ gone) × HasPinnedAlone dataset history

-- what a pin hands out has the rows that are given for the block
abbrev pub HandsRows : RowsByName → Pinned → ℕ → ℕ → Type 0
HandsRows given (Hit block) dataset part = AreGiven given dataset part (arc_value block).page.rows
HandsRows given (ReadBack block) dataset part = AreGiven given dataset part (arc_value block).page.rows
HandsRows given Miss dataset part = Unit {0}

-- Workers

-- the worker has this block pinned
abbrev pub HasPin : WorkerView → ℕ → ℕ → Type 0
HasPin worker dataset part = worker_pin (own_of worker) worker.number ≡ Some (record { dataset = dataset; part = part })

-- the worker has no block pinned
abbrev pub HasNoPin : WorkerView → Type 0
HasNoPin worker = worker_pin (own_of worker) worker.number ≡ None

-- its own entries are those before and these
abbrev pub Adds : WorkerView → WorkerView → List Entry → Type 0
Adds before after added = own_entries after ≡ own_entries before ++ added

-- whether the worker has the block pinned after a pin: a block in memory alone
abbrev pub PinsFound : Pinned → ℕ → ℕ → WorkerView → Type 0
PinsFound (Hit block) dataset part after = HasPin after dataset part
PinsFound (ReadBack block) dataset part after = HasNoPin after
PinsFound Miss dataset part after = HasNoPin after

-- what a pin adds, and whether the worker then has it
abbrev pub AddsPin : Pinned → ℕ → ℕ → WorkerView → WorkerView → Type 0
AddsPin pinned dataset part before after =
    PinGrows pinned before.number dataset part (own_entries before) (own_entries after) (history_of after.seen) × PinsFound pinned dataset part after

-- what the admission of a block of this size adds: the evictions that it took, and itself or its refusal
abbrev pub AddsAdmission : Answer → Block → ℕ → WorkerView → WorkerView → Type 0
AddsAdmission answer block size before after =
    AdmissionGrows answer block size before.number (own_entries before) (own_entries after) (history_of after.seen)

-- what the removal of a dataset adds: its blocks went but for pinned ones
abbrev pub AddsRemovals : ℕ → WorkerView → WorkerView → Type 0
AddsRemovals dataset before after = RemovalGrows dataset before.number (own_entries before) (own_entries after) (history_of after.seen)
