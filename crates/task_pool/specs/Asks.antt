-- What asks for bytes add to a worker's own entries.
-- This project's own.
use Rattle.std.specs.Prelude.{ℕ, ◌≡◌, ◌⊎◌, Option, Some, None, List, [], ◌∷◌, ◌++◌}
use Rattle.std.specs.List.{AllByRecursion}
use Rattle.pool_ledger.specs.declared.entry.Entry.{Entry}
use Rattle.pool_ledger.specs.declared.entry.Event.{Event}
use Rattle.pool_ledger.specs.declared.entry.Event.TheVariants.{Attempt, Release}
use Rattle.pool_laws.specs.Growing.{entry_by}
use Rattle.turn_lock.specs.Passes.{WorkerView}
use Rattle.task_pool.specs.Workers.{IsEviction, own_entries}

-- the entry is an attempt of the worker's task
abbrev pub IsAttempt : ℕ → ℕ → Entry → Type 0
IsAttempt worker task entry = (asked moved evictions : ℕ) × (got : Option ℕ) × (entry ≡ entry_by worker (Attempt task asked moved evictions got))

-- the entry is a release of the worker's task
abbrev pub IsRelease : ℕ → ℕ → Entry → Type 0
IsRelease worker task entry = (freed : ℕ) × (entry ≡ entry_by worker (Release task freed))

-- the entry is one of an ask: an attempt, an eviction for it, or a release
abbrev pub IsOfTask : ℕ → ℕ → Entry → Type 0
IsOfTask worker task entry = IsAttempt worker task entry ⊎ IsEviction worker entry ⊎ IsRelease worker task entry

-- these entries are those before, and attempts and releases of the task, with their evictions
abbrev pub AddsAsks : ℕ → ℕ → List Entry → List Entry → Type 0
AddsAsks worker task before after = (added : List Entry) × (after ≡ before ++ added) × AllByRecursion (IsOfTask worker task) added

-- the bytes that the first attempt of an event and those behind it asks
abbrev pub first_ask_of : Event → Option ℕ → Option ℕ
first_ask_of (Attempt task asked moved evictions got) later = Some asked
first_ask_of _ later = later

-- the bytes that the first attempt among these entries asks, if there is one
abbrev pub first_asked : List Entry → Option ℕ
first_asked [] = None
first_asked (entry ∷ more) = first_ask_of entry.event (first_asked more)

-- attempts were added, of which the first asks so many bytes
abbrev pub FirstAsks : ℕ → WorkerView → WorkerView → Type 0
FirstAsks asked before after = (added : List Entry) × (own_entries after ≡ own_entries before ++ added) × (first_asked added ≡ Some asked)
