-- The rows of a dataset of a job, of an input's rows.
-- This project's own; after the lineage of Spark's resilient distributed datasets.
use Rattle.std.specs.Prelude.{ℕ, zero, suc, Bool, true, List, [], ◌∷◌, Option, None, option_and_then, slice_get}
use Rattle.std.specs.List.{filter, list_all}
use Rattle.std.specs.Option.{option_map_or}
use Rattle.row_filter.specs.Meaning.{keeps}
use Rattle.row_filter.specs.declared.filter.Filter.{Filter}
use Rattle.job_text.specs.declared.job.Dataset.{Dataset}
use Rattle.job_text.specs.declared.job.Job.{Job}
use Rattle.job_plan.specs.Columns.{Fields}
use Rattle.job_answer.specs.Answer.{field_of}
use Rattle.job_answer.specs.Numbered.{Numbered}

-- a dataset of a job, by its number; the input, 0, isn't made from another one
abbrev pub dataset_at : Job → ℕ → Option Dataset
dataset_at job zero = None
dataset_at job (suc before) = slice_get job.datasets before

-- the dataset that it is made from
abbrev pub parent_of : Job → ℕ → ℕ
parent_of job dataset = option_map_or (λ made. made.parent) (dataset_at job dataset) 0

-- a dataset, the one that it is made from, and so on up to the input, which ends them; in at most so many steps
abbrev pub line_within : (ℕ → ℕ) → ℕ → ℕ → List ℕ
line_within parent zero dataset = dataset ∷ []
line_within parent (suc steps) zero = 0 ∷ []
line_within parent (suc steps) (suc before) = suc before ∷ line_within parent steps (parent (suc before))

-- as many steps as its number suffice, since each dataset is made from one with a lower number
abbrev pub line_of : Job → ℕ → List ℕ
line_of job dataset = line_within (parent_of job) dataset dataset

-- a dataset's own filter, if it has one; the input has none
abbrev pub own_filter : Job → ℕ → Option Filter
own_filter job dataset = option_and_then (λ made. made.filter) (dataset_at job dataset)

-- whether it keeps a row of the input; where there is none, all are kept
abbrev pub passes : Job → Fields → Fields → ℕ → Bool
passes job header row dataset =
    option_map_or (keeps (field_of job header row)) (own_filter job dataset) true

-- whether each filter from a dataset up to the input keeps a row
abbrev pub is_in : Job → Fields → ℕ → Fields → Bool
is_in job header dataset row = list_all (passes job header row) (line_of job dataset)

-- a dataset's rows: those of the input that each of these filters keeps, in their order
abbrev pub derived : Job → Fields → ℕ → List Fields → List Fields
derived job header dataset rows = filter (is_in job header dataset) rows

-- the same of rows with their numbers, which each row keeps
abbrev pub derived_each : Job → Fields → ℕ → List Numbered → List Numbered
derived_each job header dataset input = filter (λ row. is_in job header dataset row.1) input
