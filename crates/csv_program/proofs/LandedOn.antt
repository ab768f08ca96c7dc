-- What was landed on disks, in words of posts that have the same disks.
use Rattle.std.proofs.Common.{◌≡◌, ◌%◌, ℕ, List, Option, Result, Ok, Err, sym, subst}
use Rattle.std.specs.Prelude.{IfErr, IfOk, IsSome}
use Rattle.spill_disk.specs.Files.{Files}
use Rattle.run_file.specs.Runs.{Stands}
use Rattle.run_file.specs.declared.run.Run.{Run}
use Rattle.run_file.specs.Several.{run_at}
use Rattle.job_plan.specs.Columns.{Fields}
use Rattle.job_text.specs.declared.job.Job.{Job}
use Rattle.landing.specs.Landed.{AreLanded, HasCauseAmong, Lands, partition_of}
use Rattle.landing.specs.declared.fault.LandFault.{LandFault}
use Rattle.landing.specs.declared.fault.LandFault.TheVariants.{DiskFault}
use Rattle.landing.specs.declared.landing.Landed.{Landed}
use Rattle.csv_program.proofs.PostDisks.{rose_as}

module _ (before after : ℕ → Option Files) (same : (place : ℕ) → after place ≡ before place) where
  pub landed_as : (part_rows workers : ℕ) (parts : List Run) (rows : List Fields) → AreLanded before part_rows workers parts rows → AreLanded after part_rows workers parts rows
  landed_as part_rows workers parts rows are = record {
    count = are.count;
    disks = are.disks;
    stand = λ part below tells.
        subst (λ (files : Option Files). Stands files (run_at parts part) (partition_of part_rows part rows)) (sym (same (part % workers)))
        (are.stand part below (subst (λ (files : Option Files). IsSome files) (same (part % workers)) tells));
  }

  pub lands_as : {E : Type 0} (result : Result Landed E) (job : Job) (max_rows part_rows workers : ℕ) (records : Option (List Fields))
      → IfOk result (λ landed. Lands before job max_rows part_rows workers landed.plan landed.parts.items landed.rows records)
      → IfOk result (λ landed. Lands after job max_rows part_rows workers landed.plan landed.parts.items landed.rows records)
  lands_as (Ok landed) job max_rows part_rows workers records is = record {
    header = is.header;
    planned = is.planned;
    rows = is.rows;
    counts = is.counts;
    few = is.few;
    are_checked = is.are_checked;
    are_landed = landed_as part_rows workers landed.parts.items is.rows is.are_landed;
    are_short = is.are_short;
    are_known = is.are_known;
  }
  lands_as (Err e) job max_rows part_rows workers records is = tt

-- why it couldn't be landed
fault_as : (workers : ℕ) (a b c d : ℕ → ℕ) (fault : LandFault) → ((place : ℕ) → a place ≡ c place) → ((place : ℕ) → b place ≡ d place) → HasCauseAmong workers a b fault → HasCauseAmong workers c d fault
fault_as workers a b c d (DiskFault disk) first last is = (is.0, rose_as (a disk) (b disk) (c disk) (d disk) (first disk) (last disk) is.1)
fault_as workers a b c d _ first last is = _

pub cause_as : {T : Type 0} (result : Result T LandFault) (workers : ℕ) (a b c d : ℕ → ℕ) → ((place : ℕ) → a place ≡ c place) → ((place : ℕ) → b place ≡ d place)
    → IfErr result (HasCauseAmong workers a b) → IfErr result (HasCauseAmong workers c d)
cause_as (Ok x) workers a b c d first last is = tt
cause_as (Err fault) workers a b c d first last is = fault_as workers a b c d fault first last is
