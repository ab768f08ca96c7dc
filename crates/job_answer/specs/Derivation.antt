-- What a dataset's rows are, of those of the dataset that it is made from.
-- This project's own.
use Rattle.std.specs.Prelude.{◌≡◌, ℕ, ◌<◌, List}
use Rattle.std.specs.List.{filter}
use Rattle.job_text.specs.Jobs.{IsJob}
use Rattle.job_text.specs.declared.job.Job.{Job}
use Rattle.job_plan.specs.Columns.{Fields}
use Rattle.job_answer.specs.Derived.{derived, parent_of, passes}

-- the input's rows are all rows
abbrev pub InputHasAll : Type 0
InputHasAll = (job : Job) (header : Fields) (rows : List Fields) → derived job header 0 rows ≡ rows

-- a dataset's rows are those of the dataset that it is made from which its own filter keeps
abbrev pub DatasetsFilterParents : Type 0
DatasetsFilterParents =
    (job : Job) (header : Fields) (dataset : ℕ) (rows : List Fields) → IsJob job → 0 < dataset
    → derived job header dataset rows
    ≡ filter (λ row. passes job header row dataset) (derived job header (parent_of job dataset) rows)
