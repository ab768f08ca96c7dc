-- What the totals of a query's entries tell is its plain answer.
-- This project's own.
use Rattle.std.specs.Prelude.{◌≡◌, ℕ, ◌≤◌, ◌<◌, ◌^◌, List, [], ◌∷◌, All, None, Option, length, map, option_map, slice_index_or}
use Rattle.std.specs.List.{AllByRecursion, find}
use Rattle.aggregate.specs.Totals.{Entry, total}
use Rattle.row_form.specs.Forms.{HasForm}
use Rattle.job_text.specs.Jobs.{IsJob}
use Rattle.job_text.specs.declared.job.Job.{Job}
use Rattle.job_text.specs.declared.job.Query.{Query}
use Rattle.job_text.specs.declared.job.Shape.{Shape}
use Rattle.job_text.specs.declared.job.Shape.TheVariants.{Group, Order}
use Rattle.job_plan.specs.Columns.{Fields}
use Rattle.job_plan.specs.Entries.{entry_of, field_bytes}
use Rattle.job_plan.specs.Plans.{IsPlanOf, form_in, heading_at, kept_at, kept_in, kind_at, no_shape, places_in, shape_at}
use Rattle.job_plan.specs.Rows.{AreBytes, landed_rows}
use Rattle.job_plan.specs.Telling.{IsTold, is_wide, row_of}
use Rattle.job_plan.specs.declared.query_plan.Plan.{Plan}
use Rattle.job_answer.specs.Derived.{derived_each}
use Rattle.job_answer.specs.Numbered.{AreNumbered, Numbered, landed_each, numbered, rows_in}
use Rattle.job_answer.specs.Output.{shape_table, shape_wide, table_rows, wide_key}

-- the first total with a number outside `i64`
abbrev pub wide_total : Shape → List Entry → Option Entry
wide_total (Group columns parts) totals = find (is_wide (length parts)) totals
wide_total (Order keys columns) totals = None

-- ---- a query's shape over any rows with their numbers

-- the entries of a query over these rows, in their order
abbrev pub entries_each : Plan → ℕ → List Numbered → List Entry
entries_each plan query input = map (entry_of (kept_at plan query)) (landed_each (places_in plan) input)

-- what they come to
abbrev pub totals_each : Plan → ℕ → List Numbered → List Entry
totals_each plan query input = total (kind_at plan query) (entries_each plan query input)

-- a plan of a job over rows whose numbers ascend: their landed rows are bytes and short
pub record IsOverEach (job : Job) (header : Fields) (plan : Plan) (input : List Numbered) : Type 0 where
  pub whole : IsJob job
  pub made : IsPlanOf job header plan
  pub numbers : AreNumbered input
  pub bytes : AllByRecursion AreBytes (landed_each (places_in plan) input)
  pub short : AllByRecursion (λ row. field_bytes row ≤ 65536) (landed_each (places_in plan) input)

-- these totals tell the table of a query's shape over these rows; the first of them that is too wide has the key of the
-- first such group; and where none is, each can be told
pub record TellsTable (job : Job) (header : Fields) (plan : Plan) (rows : List Fields) (query : ℕ)
    (totals : List Entry) : Type 0 where
  pub table : heading_at plan query ∷ map (row_of (kept_at plan query)) totals
      ≡ shape_table job header rows (shape_at plan query)
  pub wide : option_map (λ entry. entry.key) (wide_total (kept_at plan query) totals)
      ≡ shape_wide job header rows (shape_at plan query)
  pub told : shape_wide job header rows (shape_at plan query) ≡ None → All (IsTold (kept_at plan query)) totals

-- so it is for each query of each job
abbrev pub TotalsTellTables : Type 0
TotalsTellTables =
    (job : Job) (header : Fields) (plan : Plan) (input : List Numbered) (query : ℕ)
    → IsOverEach job header plan input → query < length (kept_in plan)
    → TellsTable job header plan (rows_in input) query (totals_each plan query input)

-- ---- a query over its dataset

-- a query of a job, from 0
abbrev pub query_at : Job → ℕ → Query
query_at job query = slice_index_or job.queries query (record { dataset = 0; shape = no_shape })

-- of an input's rows, numbered from 1, those of a query's dataset
abbrev pub input_of : Job → Fields → ℕ → List Fields → List Numbered
input_of job header query rows = derived_each job header (query_at job query).dataset (numbered 1 rows)

-- a plan of a job over the rows of an input that passed its checks: their landed rows are bytes and short, and at most
-- 2 ^ 32
pub record IsOverInput (job : Job) (header : Fields) (plan : Plan) (rows : List Fields) : Type 0 where
  pub whole : IsJob job
  pub made : IsPlanOf job header plan
  pub bytes : AllByRecursion AreBytes (landed_rows (places_in plan) 1 rows)
  pub short : AllByRecursion (λ row. field_bytes row ≤ 65536) (landed_rows (places_in plan) 1 rows)
  pub few : length rows ≤ 2 ^ 32

-- these totals tell the table of a query over an input's rows; the first of them that is too wide has the key of the first
-- such group; and where none is, each can be told
pub record TellsAnswer (job : Job) (header : Fields) (plan : Plan) (rows : List Fields) (query : ℕ)
    (totals : List Entry) : Type 0 where
  pub table : heading_at plan query ∷ map (row_of (kept_at plan query)) totals
      ≡ table_rows job header rows (query_at job query)
  pub wide : option_map (λ entry. entry.key) (wide_total (kept_at plan query) totals)
      ≡ wide_key job header rows (query_at job query)
  pub told : wide_key job header rows (query_at job query) ≡ None → All (IsTold (kept_at plan query)) totals

-- so it is for each query of each job, of what the rows of its dataset come to
abbrev pub TotalsTellQueries : Type 0
TotalsTellQueries =
    (job : Job) (header : Fields) (plan : Plan) (rows : List Fields) (query : ℕ)
    → IsOverInput job header plan rows → query < length (kept_in plan)
    → TellsAnswer job header plan rows query (totals_each plan query (input_of job header query rows))

-- ---- a job without datasets, whose queries are over all rows

-- the entries of a query, in the order of the rows
abbrev pub entries_in : Plan → ℕ → List Fields → List Entry
entries_in plan query rows = map (entry_of (kept_at plan query)) (landed_rows (places_in plan) 1 rows)

-- what they come to
abbrev pub totals_in : Plan → ℕ → List Fields → List Entry
totals_in plan query rows = total (kind_at plan query) (entries_in plan query rows)

-- a plan of such a job over the rows of an input that passed its checks: its landed rows are short and of its form, and
-- at most 2 ^ 32
pub record IsOver (job : Job) (header : Fields) (plan : Plan) (rows : List Fields) : Type 0 where
  pub whole : IsJob job
  pub plain : job.datasets ≡ []
  pub made : IsPlanOf job header plan
  pub formed : AllByRecursion (HasForm (form_in plan)) (landed_rows (places_in plan) 1 rows)
  pub bytes : AllByRecursion AreBytes (landed_rows (places_in plan) 1 rows)
  pub short : AllByRecursion (λ row. field_bytes row ≤ 65536) (landed_rows (places_in plan) 1 rows)
  pub few : length rows ≤ 2 ^ 32

-- so it is for each query of each such job
abbrev pub TotalsTellAnswers : Type 0
TotalsTellAnswers =
    (job : Job) (header : Fields) (plan : Plan) (rows : List Fields) (query : ℕ)
    → IsOver job header plan rows → query < length (kept_in plan)
    → TellsAnswer job header plan rows query (totals_in plan query rows)
