-- How often the consumers of a worker's post are fed in a run: once for each row of a pass's dataset in the worker's partitions.
-- This project's own.
use Rattle.std.specs.Prelude.{◌≡◌, ℕ, zero, suc, ◌+◌, ◌==◌, Bool, List, length, slice_index_or, sum_by, if◌then◌else◌, ⊤}
use Rattle.std.specs.List.{list_any, range_with_len}
use Rattle.consumer_trait.specs.Members.{state_at}
use Rattle.consumer_trait.specs.States.{State}
use Rattle.job_answer.specs.Derived.{derived as derived_of}
use Rattle.job_answer.specs.Laws.{query_at}
use Rattle.job_plan.specs.Columns.{Fields}
use Rattle.job_plan.specs.Passes.{pass_datasets, queries_over}
use Rattle.job_plan.specs.Plans.{chain_in, datasets_in, datasets_of, kept_at}
use Rattle.job_plan.specs.declared.query_plan.Plan.{Plan}
use Rattle.job_text.specs.declared.job.Job.{Job}
use Rattle.job_text.specs.declared.job.Shape.{Shape}
use Rattle.job_text.specs.declared.job.Shape.TheVariants.{Group, Order}
use Rattle.landing.specs.Checks.{Checked, Refused, Rows}
use Rattle.landing.specs.Landed.{partition_count, partition_of}
use Rattle.row_filter.specs.Derived.{derived}
use Rattle.task_runner.specs.Consumers.{fed_after}
use Rattle.task_runner.specs.Workers.{IsCount, part_at}
use Rattle.job_ending.specs.declared.call.RunCall.{RunCall}

-- the place of the consumer that serves a query of a shape, by the query's place in its pass
abbrev pub place_of_shape : Shape → ℕ → ℕ
place_of_shape (Group columns parts) i = i
place_of_shape (Order keys columns) i = 8 + i

-- whether one of the queries of a pass has its consumer at a place
abbrev pub is_used : (ℕ → Shape) → List ℕ → ℕ → Bool
is_used shape queries place =
    list_any (λ i. place_of_shape (shape (slice_index_or queries i 0)) i == place) (range_with_len 0 (length queries))

-- how often the consumer at a place is fed, where the queries with these shapes are over these datasets of so many rows each
abbrev pub fed_by : (ℕ → Shape) → List ℕ → (ℕ → ℕ) → ℕ → ℕ
fed_by shape datasets rows place =
    sum_by (λ dataset. if is_used shape (queries_over datasets dataset) place then rows dataset else 0)
    (pass_datasets datasets)

-- how many rows the first of a worker's partitions have
unfoldable pub rows_in : (ℕ → List Fields) → ℕ → ℕ → ℕ → ℕ
rows_in rows workers worker zero = 0
rows_in rows workers worker (suc k) = rows_in rows workers worker k + length (rows (part_at workers worker k))

-- each consumer was fed so often
abbrev pub AreFedBy : List State → List State → (ℕ → ℕ) → Type 0
AreFedBy states states' feeds =
    (place : ℕ) → (state_at states' place).fed ≡ fed_after (state_at states place).fed (feeds place)

-- the consumers of a worker were fed the rows of its partitions, in each pass those of the pass's dataset, by the queries of a plan
pub record FeedsPlan (states states' : List State) (plan : Plan) (partitions : ℕ) (rows : ℕ → List Fields)
    (workers worker : ℕ) : Type 0 where
  pub count : ℕ
  pub all : IsCount workers worker partitions count
  pub feeds : AreFedBy states states' (fed_by (kept_at plan) (datasets_in plan)
      (λ dataset. rows_in (λ part. derived (chain_in plan) dataset (rows part)) workers worker count))

-- the same by the queries of a job over an input's rows, in partitions of so many
pub record FeedsJob (states states' : List State) (job : Job) (header : Fields) (part_rows : ℕ) (rows : List Fields)
    (workers worker : ℕ) : Type 0 where
  pub count : ℕ
  pub all : IsCount workers worker (partition_count (length rows) part_rows) count
  pub feeds : AreFedBy states states' (fed_by (λ query. (query_at job query).shape) (datasets_of job)
      (λ dataset. rows_in (λ part. derived_of job header dataset (partition_of part_rows part rows)) workers worker count))

-- the same of a run, by what its job makes of the input
abbrev pub FeedsRun : RunCall → Checked → ℕ → List State → List State → Type 0
FeedsRun asked (Refused why) worker states states' = ⊤
FeedsRun asked (Rows header rows) worker states states' =
    FeedsJob states states' asked.job header asked.part_rows rows asked.pool.workers worker
