-- What the journal of a run tells of cached blocks.
-- This project's own.
use Rattle.std.specs.Prelude.{◌≡◌, ℕ, ◌+◌, ◌*◌, ◌%◌, ◌<◌, ◌≤◌, Contains, IfSome, List, [], length, slice_index_or}
use mathlib.Core.List.{IsPrefix}
use Rattle.pool_ledger.specs.History.{ends}
use Rattle.pool_ledger.specs.Journal.{history_of}
use Rattle.pool_ledger.specs.declared.entry.Entry.{Entry}
use Rattle.memory_core.specs.Changes.{HasPinnedAlone}
use Rattle.job_plan.specs.Columns.{Fields}
use Rattle.job_plan.specs.Plans.{IsPlanOf, chain_in, passes_in, removed_in}
use Rattle.job_plan.specs.declared.query_plan.Plan.{Plan}
use Rattle.job_text.specs.declared.job.Job.{Job}
use Rattle.turn_lock.specs.Passes.{WorkerView}
use Rattle.lineage.specs.LineageViews.{name_for}
use Rattle.lineage.specs.Telling.{nearest}
use Rattle.task_runner.specs.Blocks.{TellsBlock}
use Rattle.job_ending.specs.Removals.{RemovesLate}
use Rattle.job_ending.specs.Tasks.{BeginsAll, FollowsPlan, owner_of, passes_of}
use Rattle.job_ending.specs.declared.status.Status.{Status}
use Rattle.job_ending.specs.declared.status.Status.TheVariants as status

-- the task of a partition in a pass of a plan, over so many partitions, has an entry of the block of the nearest kept dataset on the
-- way from the pass's dataset to the input, if there is one: its pin, its admission or its refusal
abbrev pub TellsAt : Plan → ℕ → ℕ → ℕ → ℕ → List Entry → Type 0
TellsAt plan workers partitions pass part entries =
    IfSome (nearest (chain_in plan) (slice_index_or (passes_in plan) pass 0))
    (λ kept. TellsBlock (part % workers) (part + pass * (partitions + 1)) (name_for (chain_in plan) kept) part entries)

-- the same of each partition in the first passes
abbrev pub TellsPasses : Plan → ℕ → ℕ → ℕ → List Entry → Type 0
TellsPasses plan workers partitions passes entries =
    (pass part : ℕ) → pass < passes → part < partitions → TellsAt plan workers partitions pass part entries

-- the same by what the partition's worker has seen
abbrev pub EachTells : Plan → ℕ → ℕ → ℕ → List WorkerView → Type 0
EachTells plan count partitions passes workers =
    (pass part : ℕ) (any : WorkerView) → pass < passes → part < partitions
    → TellsAt plan count partitions pass part (slice_index_or workers (part % count) any).seen

-- at one moment behind the end of a task, no block of the dataset was in memory but pinned ones
pub record IsGoneBehind (task dataset : ℕ) (entries : List Entry) : Type 0 where
  pub moment : List Entry
  pub begins : IsPrefix moment entries
  pub ended : 1 ≤ ends (history_of moment) task
  pub gone : HasPinnedAlone dataset (history_of moment)

-- so it was with each dataset that a plan removes behind one of the first passes, behind the final task of that pass
abbrev pub GoesBehind : Plan → ℕ → ℕ → List Entry → Type 0
GoesBehind plan partitions passes entries =
    (pass dataset : ℕ) → pass < passes → Contains (slice_index_or (removed_in plan) pass []) dataset
    → IsGoneBehind (partitions + pass * (partitions + 1)) dataset entries

-- the same of a job, by its plan for a header; a worker that has removed a block begins no task that needs its dataset, and blocks
-- that no later pass needs are removed
pub record HasCached (job : Job) (workers partitions : ℕ) (entries : List Entry) : Type 0 where
  pub header : Fields
  pub plan : Plan
  pub planned : IsPlanOf job header plan
  pub tells : TellsPasses plan workers partitions (length (passes_in plan)) entries
  pub removes : RemovesLate plan workers partitions entries
  pub goes : GoesBehind plan partitions (length (passes_in plan)) entries

-- the journal has the tasks of a job's passes over so many partitions; after `Done` it has all of them, and what they tell of the
-- blocks of kept datasets
pub record HasTasks (workers partitions : ℕ) (job : Job) (ended : Status) (journal : List Entry) : Type 0 where
  pub follows : FollowsPlan (owner_of 0 0 workers partitions (passes_of job)) journal
  pub all : ended ≡ status.Done → BeginsAll 0 partitions (passes_of job) journal
  pub cached : ended ≡ status.Done → HasCached job workers partitions journal
