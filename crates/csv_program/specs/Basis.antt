-- What a run says of the rows of cached blocks: those of their datasets, of the rows that landed.
-- This project's own.
use Rattle.std.specs.Prelude.{ℕ, ◌-◌, ◌%◌, ◌<◌, IsSome, List, length, take, Option, Some, None}
use Rattle.std.specs.Option.{option_map}
use Rattle.row_page.specs.Reading.{rows_of}
use Rattle.spill_disk.specs.Files.{Files, bytes_of}
use Rattle.run_file.specs.declared.run.Run.{Run}
use Rattle.run_file.specs.Several.{run_at}
use Rattle.row_filter.specs.Chains.{base_of}
use Rattle.row_filter.specs.Derived.{derived}
use Rattle.job_plan.specs.Columns.{Fields}
use Rattle.job_plan.specs.Plans.{chain_in, form_in}
use Rattle.job_plan.specs.declared.query_plan.Plan.{Plan}
use Rattle.landing.specs.Landed.{AreChecked, AreLanded}
use Rattle.memory_core.specs.Caches.{RowsByName}
use Rattle.lineage.specs.Standing.{SaysKept}
use Rattle.job_ending.specs.declared.call.RunCall.{RunCall}

-- the rows that a run's bytes are, where its disk tells
abbrev pub rows_on : Option Files → Run → Option (List Fields)
rows_on None run = None
rows_on (Some files) run = Some (rows_of (take run.bytes (bytes_of files run.file)))

-- where the store disk tells: the rows of a dataset in a partition, of those that landed on its worker's disk
abbrev pub said_by : Option Files → (ℕ → Option Files) → Plan → List Run → ℕ → RowsByName
said_by None files plan parts workers name part = None
said_by (Some store) files plan parts workers name part =
    option_map (derived (chain_in plan) (name - base_of (chain_in plan))) (rows_on (files (part % workers)) (run_at parts part))

-- at the posts of a run its partitions stand with these rows, which were checked; their disks tell, and so is said what the rows of
-- each kept dataset's blocks are
pub record StandAs (given : RowsByName) (files : ℕ → Option Files) (asked : RunCall) (plan : Plan) (parts : List Run)
    (rows : List Fields) : Type 0 where
  pub tell : (place : ℕ) → place < asked.pool.workers → IsSome (files place)
  pub landed : AreLanded files asked.part_rows asked.pool.workers parts rows
  pub checked : AreChecked (form_in plan) rows
  pub says : (part : ℕ) → part < length parts → SaysKept given (chain_in plan) part
