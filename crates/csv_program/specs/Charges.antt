-- What each task of a run once held of the pool: its consumers' leasts and, beside them, the cost of each single entry that it was fed.
-- This project's own.
use Rattle.std.specs.Prelude.{ℕ, ◌+◌, ◌*◌, ◌%◌, ◌<◌, List, [], length, slice_index_or, ⊤}
use Rattle.consumer_trait.specs.States.{State}
use Rattle.job_plan.specs.Columns.{Fields}
use Rattle.job_plan.specs.Plans.{IsPlanOf, chain_in, passes_in, places_in, queries_in}
use Rattle.job_plan.specs.Rows.{landed_rows}
use Rattle.job_plan.specs.declared.query_plan.Plan.{Plan}
use Rattle.job_text.specs.declared.job.Job.{Job}
use Rattle.landing.specs.Checks.{Checked, Refused, Rows}
use Rattle.landing.specs.Landed.{partition_count, partition_of}
use Rattle.pool_ledger.specs.Journal.{history_of}
use Rattle.pool_ledger.specs.Workers.{entries_of}
use Rattle.pool_ledger.specs.declared.entry.Entry.{Entry}
use Rattle.row_filter.specs.Derived.{derived}
use Rattle.task_account.specs.Attempts.{most_held}
use Rattle.task_pool.specs.Workers.{own_of}
use Rattle.task_runner.specs.Charging.{leasts_in}
use Rattle.task_runner.specs.Queries.{made_in}
use Rattle.task_runner.specs.Spilling.{AreAllCharged}
use Rattle.turn_lock.specs.Passes.{WorkerView}
use Rattle.job_ending.specs.declared.call.RunCall.{RunCall}

-- the dataset of a pass of a plan, and its queries, by its number
abbrev pub dataset_at : Plan → ℕ → ℕ
dataset_at plan pass = slice_index_or (passes_in plan) pass 0

-- the numbers of the queries of a pass, by the pass's number; none where there is no such pass
abbrev pub queries_at : Plan → ℕ → List ℕ
queries_at plan pass = slice_index_or (queries_in plan) pass []

-- so many bytes are enough for the leasts of a pass's consumers and, beside them, for each entry that its queries make of landed rows
abbrev pub AreEnough : List State → Plan → ℕ → List Fields → ℕ → Type 0
AreEnough states plan pass rows bytes =
    AreAllCharged (leasts_in states plan (queries_at plan pass)) bytes (queries_at plan pass)
    (made_in plan (queries_at plan pass) (derived (chain_in plan) (dataset_at plan pass) rows))

-- the task of each partition in the first passes once held so much, by the entries that its worker has seen of its own
abbrev pub EachCharges : (ℕ → List State) → Plan → ℕ → (ℕ → List Fields) → ℕ → ℕ → List WorkerView → Type 0
EachCharges states plan partitions rows count passes workers =
    (pass part : ℕ) (any : WorkerView) → pass < passes → part < partitions
    → AreEnough (states (part % count)) plan pass (rows part)
    (most_held (own_of (slice_index_or workers (part % count) any)) (part + pass * (partitions + 1)))

-- the same of all passes, by the worker's entries in the journal
abbrev pub ChargesPlan : (ℕ → List State) → Plan → ℕ → (ℕ → List Fields) → ℕ → List Entry → Type 0
ChargesPlan states plan partitions rows workers journal =
    (pass part : ℕ) → pass < length (passes_in plan) → part < partitions
    → AreEnough (states (part % workers)) plan pass (rows part)
    (most_held (history_of (entries_of (part % workers) journal)) (part + pass * (partitions + 1)))

-- the same of a job over an input's rows, in partitions of so many, by its plan for the header
pub record ChargesJob (states : ℕ → List State) (job : Job) (header : Fields) (part_rows : ℕ) (rows : List Fields) (workers : ℕ)
    (journal : List Entry) : Type 0 where
  pub plan : Plan
  pub planned : IsPlanOf job header plan
  pub charges : ChargesPlan states plan (partition_count (length rows) part_rows)
      (λ part. partition_of part_rows part (landed_rows (places_in plan) 1 rows)) workers journal

-- the same of a run, by what its job makes of the input
abbrev pub ChargesRun : RunCall → Checked → (ℕ → List State) → List Entry → Type 0
ChargesRun asked (Refused why) states journal = ⊤
ChargesRun asked (Rows header rows) states journal =
    ChargesJob states asked.job header asked.part_rows rows asked.pool.workers journal
