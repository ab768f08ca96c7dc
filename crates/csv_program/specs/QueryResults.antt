-- What the answers to the queries of a plan tell, where all partitions' rows are known.
-- This project's own.
use Rattle.std.specs.Prelude.{◌≡◌, ℕ, ◌%◌, ◌<◌, List, Option, length, map}
use Rattle.std.specs.List.{range_with_len}
use Rattle.aggregate.specs.Totals.{Entry, total}
use Rattle.spill_disk.specs.Files.{Files}
use Rattle.run_file.specs.declared.run.Run.{Run}
use Rattle.run_file.specs.Several.{concatenated}
use Rattle.row_filter.specs.Chains.{base_of}
use Rattle.job_plan.specs.Columns.{Fields}
use Rattle.job_plan.specs.Passes.{pass_datasets, queries_over}
use Rattle.job_plan.specs.Plans.{chain_in, datasets_in, kept_in, kind_at, passes_in, queries_in}
use Rattle.job_plan.specs.declared.query_plan.Plan.{Plan}
use Rattle.result_table.specs.Results.{HasResult}
use Rattle.memory_core.specs.Caches.{RowsByName}
use Rattle.lineage.specs.LineageViews.{LineageView}
use Rattle.lineage.specs.Standing.{HoldsInput, SaysDerived, SaysKept}
use Rattle.task_runner.specs.Workers.{answer_at}
use Rattle.job_ending.specs.Endings.{entries_over}

-- the passes of a plan are those of its queries' datasets, each with the queries over its dataset; and blocks name the input by 0
pub record HasPasses (plan : Plan) : Type 0 where
  pub passes : passes_in plan ≡ pass_datasets (datasets_in plan)
  pub queries : queries_in plan ≡ map (queries_over (datasets_in plan)) (pass_datasets (datasets_in plan))
  pub based : base_of (chain_in plan) ≡ 0

-- a plan's datasets over landed partitions of so many rows
abbrev pub lineage_in : Plan → List Run → ℕ → LineageView
lineage_in plan parts part_rows = record { chain = chain_in plan; landed = parts; part_rows = part_rows }

-- the landed runs of the partitions stand with these rows, each on the disk of its worker, and the rows of each kept dataset's blocks
-- are said
abbrev pub HoldsParts : (ℕ → Option Files) → RowsByName → Plan → List Run → ℕ → ℕ → (ℕ → List Fields) → Type 0
HoldsParts files given plan parts part_rows workers rows =
    (part : ℕ) → part < length parts
    → HoldsInput (files (part % workers)) (lineage_in plan parts part_rows) part (rows part) × SaysKept given (chain_in plan) part

-- what is said of the rows of blocks is so in each partition
abbrev pub SaysParts : (ℕ → Option Files) → RowsByName → Plan → List Run → ℕ → ℕ → Type 0
SaysParts files given plan parts part_rows workers =
    (part : ℕ) → part < length parts → SaysDerived given (files (part % workers)) (lineage_in plan parts part_rows) part

-- what those of so many partitions come to, the partitions in order
abbrev pub totals_of_parts : Plan → ℕ → (ℕ → List Fields) → ℕ → List Entry
totals_of_parts plan partitions rows query =
    total (kind_at plan query)
    (concatenated (map (λ part. entries_over plan query (rows part)) (range_with_len 0 partitions)))

-- the answer to each query is the run of its totals, where there are any
abbrev pub HaveResults : (ℕ → Option Files) → Plan → (ℕ → List Entry) → List (Option Run) → Type 0
HaveResults files plan totals answers =
    (query : ℕ) → query < length (kept_in plan)
    → HasResult files (kind_at plan query) (answer_at answers query) (totals query)
