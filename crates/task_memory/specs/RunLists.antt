-- The runs that consumers spilled, a list for each consumer, and the entries in them.
-- This project's own; Spark's UnsafeExternalSorter keeps such lists.
use Rattle.std.specs.Prelude.{◌≡◌, ℕ, ◌≤◌, ◌<◌, List, [], ◌∷◌, ◌++◌, Option, IsSome, All, length, map, slice_index_or, sum_by}
use Rattle.std.specs.Global.{Vec}
use Rattle.aggregate.specs.declared.kind.Kind.{Kind}
use Rattle.aggregate.specs.Totals.{Entry}
use Rattle.spill_disk.specs.Files.{Files}
use Rattle.run_file.specs.declared.run.Run.{Run}
use Rattle.run_file.specs.Runs.{Stands}
use Rattle.consumer_trait.specs.States.{State, total_by}
use Rattle.consumer_trait.specs.Calls.{IsEntryRow, Ascends, entries_of}
use Rattle.consumer_trait.specs.Members.{state_at}

-- it stands for a run that isn't there
abbrev pub no_run : Run
no_run = record { disk = 0; file = 0; bytes = 0; count = 0; greatest = 0 }

-- vectors of runs as lists
abbrev pub lists_of : List (Vec Run) → List (List Run)
lists_of vectors = map (λ vector. vector.items) vectors

-- a consumer's runs, in the order in which they were written
abbrev pub runs_at : List (List Run) → ℕ → List Run
runs_at runs i = slice_index_or runs i []

-- one of them
abbrev pub run_at : List (List Run) → ℕ → ℕ → Run
run_at runs i k = slice_index_or (runs_at runs i) k no_run

-- how many runs there are
abbrev pub runs_in : List (List Run) → ℕ
runs_in runs = sum_by length runs

-- the entries that a consumer spilled
abbrev pub spilled_at : List (List Entry) → ℕ → List Entry
spilled_at spilled i = slice_index_or spilled i []

-- the most that an entry of a task costs in a run's file, in bytes: 24, and the row's two lengths, its key and its value
abbrev pub most_entry_cost : ℕ
most_entry_cost = 196752

-- a run of a task: it is on the task's one disk, and no entry of it costs more
abbrev pub IsTaskRun : Run → Type 0
IsTaskRun run = (run.disk ≡ 0) × (run.greatest ≤ most_entry_cost)

-- all runs are so
abbrev pub AreTaskRuns : List (List Run) → Type 0
AreTaskRuns runs = (i : ℕ) → All IsTaskRun (runs_at runs i)

-- the run stands on the disk with these entries: they ascend by key, and each is well formed for the kind
pub record IsRunOf (files : Option Files) (kind : Option Kind) (run : Run) (entries : List Entry) : Type 0 where
  pub rows : List (List (List ℕ))
  pub stands : Stands files run rows
  pub formed : All (IsEntryRow kind) rows
  pub are : entries ≡ entries_of rows
  pub ascends : Ascends kind entries

-- the runs stand with these entries, one after another
abbrev pub HaveEntries : Option Files → Option Kind → List Run → List Entry → Type 0
HaveEntries files kind [] entries = entries ≡ []
HaveEntries files kind (run ∷ runs) entries =
    (first rest : List Entry) × IsRunOf files kind run first × HaveEntries files kind runs rest × (entries ≡ first ++ rest)

-- no two of all runs are in one file
abbrev pub AreApart : List (List Run) → Type 0
AreApart runs =
    (i j k l : ℕ) → k < length (runs_at runs i) → l < length (runs_at runs j) → (run_at runs i k).file ≡ (run_at runs j l).file
    → (i ≡ j) × (k ≡ l)

-- the disk shows its bytes, and the consumers' runs stand on it with these entries
pub record HoldRuns (files : Option Files) (states : List State) (runs : List (List Run)) (spilled : List (List Entry)) : Type 0 where
  pub shown : IsSome files
  pub lists : length runs ≡ length states
  pub lengths : length spilled ≡ length states
  pub each : (i : ℕ) → i < length states → HaveEntries files (state_at states i).kind (runs_at runs i) (spilled_at spilled i)
  pub apart : AreApart runs

-- what a consumer was fed and nobody has taken: the entries of its runs, in order, followed by its entries in memory
abbrev pub gathered : List State → List (List Entry) → ℕ → List Entry
gathered states spilled i = spilled_at spilled i ++ (state_at states i).entries

-- the total of that, by its kind
abbrev pub gathered_total : List State → List (List Entry) → ℕ → List Entry
gathered_total states spilled i = total_by (state_at states i).kind (gathered states spilled i)

-- where the runs stood before, they stand, and the total of what each consumer was fed is what it was
abbrev pub KeepTotals : Option Files → Option Files → List State → List State → List (List Run) → List (List Run) → Type 0
KeepTotals files files' states states' runs runs' =
    (spilled : List (List Entry)) → HoldRuns files states runs spilled
    → (spilled' : List (List Entry)) × HoldRuns files' states' runs' spilled'
    × ((i : ℕ) → i < length states → gathered_total states' spilled' i ≡ gathered_total states spilled i)
