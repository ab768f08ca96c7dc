-- The tasks of a job in a journal.
-- This project's own.
use Rattle.std.specs.Prelude.{◌≡◌, ℕ, zero, suc, ◌+◌, ◌*◌, ◌%◌, ◌<◌, List, [], ◌∷◌, AllPairs, Option, Some, None, length, nat_lt, if◌then◌else◌}
use Rattle.pool_ledger.specs.History.{begins, begun_after, ends}
use Rattle.pool_ledger.specs.Journal.{history_of}
use Rattle.pool_ledger.specs.Workers.{entries_of}
use Rattle.pool_ledger.specs.declared.entry.Entry.{Entry}
use Rattle.pool_laws.specs.Owners.{AreOwned}
use Rattle.job_plan.specs.Passes.{pass_datasets}
use Rattle.job_plan.specs.Plans.{datasets_of}
use Rattle.job_text.specs.declared.job.Job.{Job}

-- the worker of a task by its place in its pass, among the job's own workers: the task of partition `p` is of worker `p % workers`,
-- and the final task, which stands behind those of the partitions, of worker 0
abbrev pub worker_at : ℕ → ℕ → ℕ → ℕ
worker_at workers partitions place = if nat_lt place partitions then place % workers else 0

-- which one of a job's tasks this is, whose first task has a number; none where it comes before
unfoldable pub behind : ℕ → ℕ → Option ℕ
behind zero task = Some task
behind (suc first) zero = None
behind (suc first) (suc task) = behind first task

-- the worker of one of a job's tasks, in so many passes over so many partitions: each pass has the tasks behind those of the pass
-- before it
abbrev pub owner_among : ℕ → ℕ → ℕ → ℕ → Option ℕ → Option ℕ
owner_among worker workers partitions passes None = None
owner_among worker workers partitions passes (Some task) =
    if nat_lt task (passes * (partitions + 1)) then Some (worker_at workers partitions (task % (partitions + 1)) + worker) else None

-- the worker of a task, where the job's first worker and its first task have these numbers
abbrev pub owner_of : ℕ → ℕ → ℕ → ℕ → ℕ → ℕ → Option ℕ
owner_of worker first workers partitions passes task = owner_among worker workers partitions passes (behind first task)

-- how many passes the queries of a job make
abbrev pub passes_of : Job → ℕ
passes_of job = length (pass_datasets (datasets_of job))

-- the tasks that entries begin, in their order
unfoldable pub begun_in : List Entry → List ℕ
begun_in [] = []
begun_in (entry ∷ entries) = begun_after entry.event (begun_in entries)

-- each begin is of a task that has an owner, by that worker; a worker's tasks ascend; and each task that was begun was ended
pub record FollowsPlan (owner : ℕ → Option ℕ) (journal : List Entry) : Type 0 where
  pub owned : AreOwned owner (history_of journal)
  pub ascend : (worker : ℕ) → AllPairs (λ earlier later. earlier < later) (begun_in (entries_of worker journal))
  pub ended : (task : ℕ) → ends (history_of journal) task ≡ begins (history_of journal) task

-- each task of so many passes was begun, from the job's first one on
abbrev pub BeginsAll : ℕ → ℕ → ℕ → List Entry → Type 0
BeginsAll first partitions passes journal =
    (task : ℕ) → task < passes * (partitions + 1) → begins (history_of journal) (task + first) ≡ 1
