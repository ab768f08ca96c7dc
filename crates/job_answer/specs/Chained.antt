-- The rows of a job's dataset, landed, are what the filters of a plan's chain keep of the landed rows.
-- This project's own.
use Rattle.std.specs.Prelude.{◌≡◌, ℕ, Bool, true, List, None, map, option_map}
use Rattle.std.specs.List.{filter, list_all}
use Rattle.std.specs.Option.{option_map_or}
use Rattle.row_filter.specs.Chains.{filter_at, links_of, parent_at}
use Rattle.row_filter.specs.Meaning.{keeps}
use Rattle.row_filter.specs.Rows.{keeps_row}
use Rattle.row_filter.specs.declared.chain.Chain.{Chain}
use Rattle.row_filter.specs.declared.chain.Link.{Link}
use Rattle.row_filter.specs.declared.filter.Filter.{Filter}
use Rattle.job_text.specs.Jobs.{IsJob}
use Rattle.job_text.specs.declared.job.Dataset.{Dataset}
use Rattle.job_text.specs.declared.job.Job.{Job}
use Rattle.job_plan.specs.Columns.{Fields, kept, kept_place, missing}
use Rattle.job_plan.specs.Rows.{landed_row}
use Rattle.job_answer.specs.Derived.{derived_each, line_within, parent_of, passes}
use Rattle.job_answer.specs.Numbered.{Numbered, landed_each}

-- whether the filter of one of a chain's datasets keeps a landed row; where it has none, all are kept
abbrev pub keeps_own : Chain → Fields → ℕ → Bool
keeps_own chain landed dataset = option_map_or (λ filter. keeps_row filter landed) (filter_at chain dataset) true

-- a dataset of a chain, the one that it is made from, and so on up to the input, which ends them
abbrev pub chain_line : Chain → ℕ → List ℕ
chain_line chain dataset = line_within (parent_at chain) dataset dataset

-- a chain has a job's datasets: each is made from the same one, and keeps the landed rows of those that the job's keeps
pub record HasDatasetsOf (job : Job) (header : Fields) (chain : Chain) : Type 0 where
  pub parents : (dataset : ℕ) → parent_at chain dataset ≡ parent_of job dataset
  pub filters : (dataset n : ℕ) (row : Fields)
      → keeps_own chain (landed_row (kept job.names header) n row) dataset ≡ passes job header row dataset

-- then a dataset's rows, landed each with its own number, are those that each filter from the dataset up to the input
-- keeps of the landed rows
abbrev pub LandedRowsAreDerived : Type 0
LandedRowsAreDerived =
    (job : Job) (header : Fields) (chain : Chain) (dataset : ℕ) (input : List Numbered) → HasDatasetsOf job header chain
    → landed_each (kept job.names header) (derived_each job header dataset input)
    ≡ filter (λ landed. list_all (keeps_own chain landed) (chain_line chain dataset))
    (landed_each (kept job.names header) input)

-- filters are moved to the kept columns: a moved one keeps a row by each column's field at the place among them
abbrev pub IsMovedToKept : Job → Fields → (Filter → Filter) → Type 0
IsMovedToKept job header move =
    (field_at : ℕ → List ℕ) (filter : Filter)
    → keeps field_at (move filter) ≡ keeps (λ column. field_at (kept_place job header column)) filter

-- a dataset of a job as a link of a chain, with its filter moved
abbrev pub link_of : (Filter → Filter) → Dataset → Link
link_of move made = record { parent = made.parent; filter = option_map move made.filter; level = made.level }

-- a chain of a job's datasets with their filters so moved has the job's datasets
abbrev pub MovedChainsHaveDatasets : Type 0
MovedChainsHaveDatasets =
    (job : Job) (header : Fields) (chain : Chain) (move : Filter → Filter) → IsJob job → missing job.names header ≡ None
    → IsMovedToKept job header move → links_of chain ≡ map (link_of move) job.datasets → HasDatasetsOf job header chain
