-- How a job is printed: its tokens, and their text.
-- This project's own.
use Rattle.std.specs.Prelude.{ℕ, zero, suc, List, [], ◌∷◌, ◌++◌, Option, Some, None, slice_index_or}
use Rattle.row_filter.specs.declared.filter.Filter.{Filter}
use Rattle.job_text.specs.declared.mark.Mark.TheVariants as marks
use Rattle.job_text.specs.declared.token.Token.{Token}
use Rattle.job_text.specs.declared.token.Token.TheVariants.{Fixed, Word}
use Rattle.job_text.specs.declared.job.Dataset.{Dataset}
use Rattle.job_text.specs.declared.job.Job.{Job}
use Rattle.job_text.specs.declared.job.Query.{Query}
use Rattle.job_text.specs.Columns.{dataset_names}
use Rattle.job_text.specs.Grammar.{separated, ended_by, keep_written}
use Rattle.job_text.specs.Printing.{shape_tokens, tokens_text}
use Rattle.job_text.specs.FilterPrinting.{filter_tokens}

-- the dataset with this number, from 1 on; 0 is the input
abbrev pub source_token : List (List ℕ) → ℕ → Token
source_token datasets zero = Fixed marks.Input
source_token datasets (suc place) = Word (slice_index_or datasets place [])

-- a filter that is there
abbrev pub where_tokens : List (List ℕ) → Option Filter → List Token
where_tokens names None = []
where_tokens names (Some filter) = Fixed marks.Where ∷ filter_tokens names filter

-- a dataset
abbrev pub dataset_tokens : List (List ℕ) → List (List ℕ) → Dataset → List Token
dataset_tokens names datasets dataset =
    Fixed marks.Let ∷ Word dataset.name ∷ Fixed marks.Equal ∷ source_token datasets dataset.parent
    ∷ where_tokens names dataset.filter ++ keep_written dataset.level

-- the source of a query, which isn't printed where it is the input
abbrev pub from_tokens : List (List ℕ) → ℕ → List Token
from_tokens datasets zero = []
from_tokens datasets (suc place) = Fixed marks.From ∷ source_token datasets (suc place) ∷ []

-- a query
abbrev pub query_tokens : List (List ℕ) → List (List ℕ) → Query → List Token
query_tokens names datasets query = shape_tokens names query.shape ++ from_tokens datasets query.dataset

-- a job
abbrev pub job_tokens : Job → List Token
job_tokens job =
    let datasets = dataset_names job.datasets in
    ended_by marks.Semicolon (dataset_tokens job.names datasets) job.datasets
    ++ separated marks.Semicolon (query_tokens job.names datasets) job.queries

-- a job's text
unfoldable pub printed : Job → List ℕ
printed job = tokens_text (job_tokens job)
