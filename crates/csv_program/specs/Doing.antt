-- What each worker of a run does, in its own entries.
-- This project's own.
use Rattle.std.specs.Prelude.{◌≡◌, ℕ, ◌+◌, ◌≤◌, ◌<◌, ◌++◌, AllPairs, Contains, List, Option, Some, slice_index_or}
use Rattle.std.specs.List.{AllByRecursion}
use Rattle.pool_ledger.specs.History.{begins, ends}
use Rattle.pool_ledger.specs.Journal.{history_of}
use Rattle.pool_ledger.specs.declared.entry.Entry.{Entry}
use Rattle.pool_ledger.specs.declared.entry.Event.TheVariants.{Remove}
use Rattle.pool_laws.specs.Growing.{entry_by}
use Rattle.pool_laws.specs.Owners.{IsByOwner}
use Rattle.turn_lock.specs.Passes.{LockId, WorkerView}
use Rattle.memory_core.specs.Changes.{HasPinnedAlone}
use Rattle.memory_lock.specs.Crew.{AreWorkers}
use Rattle.memory_lock.specs.Workers.{HasNoPin, IsFree, KeepsPin, KeepsTask, SeesMore, own_entries}
use Rattle.job_ending.specs.Removals.{IfRemoves, RemovesBehind}
use Rattle.job_ending.specs.Tasks.{begun_in, worker_at}

-- a worker's own entries: each begin is of a task of its own, below a limit; its tasks ascend; and each that was begun
-- was ended
pub record DoesOwn (owner : ℕ → Option ℕ) (worker limit : ℕ) (entries : List Entry) : Type 0 where
  pub owned : AllByRecursion (λ entry. IsByOwner owner worker entry.event) entries
  pub below : AllByRecursion (λ task. task < limit) (begun_in entries)
  pub ascend : AllPairs (λ earlier later. earlier < later) (begun_in entries)
  pub ended : (task : ℕ) → ends (history_of entries) task ≡ begins (history_of entries) task

-- they begin each task of the worker below the limit
abbrev pub BeginsOwn : (ℕ → Option ℕ) → ℕ → ℕ → List Entry → Type 0
BeginsOwn owner worker limit entries =
    (task : ℕ) → task < limit → owner task ≡ Some worker → 1 ≤ begins (history_of entries) task

-- each of so many workers does so
abbrev pub EachDoes : (ℕ → Option ℕ) → ℕ → ℕ → List WorkerView → Type 0
EachDoes owner count limit workers =
    (worker : ℕ) (any : WorkerView) → worker < count
    → DoesOwn owner worker limit (own_entries (slice_index_or workers worker any))

-- each begins so
abbrev pub EachBegins : (ℕ → Option ℕ) → ℕ → ℕ → List WorkerView → Type 0
EachBegins owner count limit workers =
    (worker : ℕ) (any : WorkerView) → worker < count
    → BeginsOwn owner worker limit (own_entries (slice_index_or workers worker any))

-- a worker whose tasks are below a limit removes blocks behind the last of its tasks that may need them, by the number from which
-- on no task needs a dataset; and none of these numbers passes the limit
pub record RemovesOwn (first : ℕ → ℕ) (limit : ℕ) (entries : List Entry) : Type 0 where
  pub behind : RemovesBehind first entries
  pub free : AllByRecursion (λ entry. IfRemoves entry.event (λ dataset. first dataset ≤ limit)) entries

-- each does so
abbrev pub EachRemoves : (ℕ → ℕ) → ℕ → ℕ → List WorkerView → Type 0
EachRemoves first count limit workers =
    (worker : ℕ) (any : WorkerView) → worker < count → RemovesOwn first limit (own_entries (slice_index_or workers worker any))

-- the workers of a manager between two tasks: none has one, or a pin, and each did its own below a limit
pub record AreBetween (lock : LockId) (owner : ℕ → Option ℕ) (count limit : ℕ) (workers : List WorkerView) : Type 0 where
  pub workers_are : AreWorkers lock count workers
  pub free : (worker : ℕ) (any : WorkerView) → worker < count → IsFree (slice_index_or workers worker any)
  pub unpinned : (worker : ℕ) (any : WorkerView) → worker < count → HasNoPin (slice_index_or workers worker any)
  pub does : EachDoes owner count limit workers

-- each of so many workers has seen more, if anything
abbrev pub EachSees : ℕ → List WorkerView → List WorkerView → Type 0
EachSees count before after =
    (worker : ℕ) (any : WorkerView) → worker < count → SeesMore (slice_index_or before worker any) (slice_index_or after worker any)

-- the entry is the removal of a block of one of these datasets by the worker
abbrev pub IsRemovalOf : ℕ → List ℕ → Entry → Type 0
IsRemovalOf worker datasets entry =
    (dataset part size : ℕ) × Contains datasets dataset × (entry ≡ entry_by worker (Remove dataset part size))

-- a worker between two tasks removed blocks of these datasets, if there were any, and did nothing else
pub record Clears (datasets : List ℕ) (before after : WorkerView) : Type 0 where
  pub task : KeepsTask before after
  pub pin : KeepsPin before after
  pub sees : SeesMore before after
  pub removed : List Entry
  pub adds : own_entries after ≡ own_entries before ++ removed
  pub all : AllByRecursion (IsRemovalOf before.number datasets) removed

-- at one moment since, the worker saw no block of the dataset in memory but pinned ones
pub record SawGone (dataset : ℕ) (before after : WorkerView) : Type 0 where
  pub moment : WorkerView
  pub since : SeesMore before moment
  pub until : SeesMore moment after
  pub gone : HasPinnedAlone dataset (history_of moment.seen)

-- the tasks of a pass over so many partitions, from a first one on, are their workers'
abbrev pub OwnsPass : (ℕ → Option ℕ) → ℕ → ℕ → ℕ → Type 0
OwnsPass owner count partitions first =
    (place : ℕ) → place ≤ partitions → owner (place + first) ≡ Some (worker_at count partitions place)
