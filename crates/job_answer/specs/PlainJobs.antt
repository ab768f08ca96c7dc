-- What is printed for a job whose queries are all over the input.
-- This project's own.
use Rattle.std.specs.Prelude.{◌≡◌, [], All, List, map}
use Rattle.job_text.specs.Jobs.{IsJob}
use Rattle.job_text.specs.declared.job.Job.{Job}
use Rattle.job_text.specs.declared.job.Query.{Query}
use Rattle.job_plan.specs.Columns.{Fields}
use Rattle.job_answer.specs.Output.{tables_text, output, shape_table, shape_wide, table_rows, text_of, wide_key}

-- each query is over the input, as it is in a job without datasets
abbrev pub GoesOverInput : Job → Type 0
GoesOverInput job = All (λ query. query.dataset ≡ 0) job.queries

-- a job without datasets is one
abbrev pub PlainJobsGoOverInput : Type 0
PlainJobsGoOverInput = (job : Job) → IsJob job → job.datasets ≡ [] → GoesOverInput job

-- the table of a query and its first group that is too wide are those of all rows
pub record TellsAll (job : Job) (header : Fields) (rows : List Fields) (query : Query) : Type 0 where
  pub table : table_rows job header rows query ≡ shape_table job header rows query.shape
  pub wide : wide_key job header rows query ≡ shape_wide job header rows query.shape

-- so it is for each query over the input
abbrev pub QueriesOverInputTellAll : Type 0
QueriesOverInputTellAll =
    (job : Job) (header : Fields) (rows : List Fields) (query : Query)
    → query.dataset ≡ 0 → TellsAll job header rows query

-- the tables of such a job are over all rows
abbrev pub PlainJobsDeriveAll : Type 0
PlainJobsDeriveAll =
    (job : Job) (header : Fields) (rows : List Fields) → GoesOverInput job
    → output job header rows ≡ tables_text (map (λ query. text_of (shape_table job header rows query.shape)) job.queries)
