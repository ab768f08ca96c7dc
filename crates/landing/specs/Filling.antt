-- A partition that is being written, and one that was.
-- This project's own.
use Rattle.std.specs.Prelude.{◌≡◌, ℕ, ◌+◌, ◌*◌, ◌≤◌, Bool, true, List, Option, IsSome, IfSome, length}
use Rattle.spill_disk.specs.Files.{Files}
use Rattle.run_file.specs.declared.run.Run.{Run}
use Rattle.run_file.specs.Runs.{CountsRows, Stands}
use Rattle.run_file.specs.Writing.{IsSoFar, WriterView}
use Rattle.job_plan.specs.Columns.{Fields}
use Rattle.job_plan.specs.Plans.{form_in}
use Rattle.landing.specs.Landed.{AreChecked, AreLanded, AreShort}
use Rattle.landing.specs.Ruling.{ArePassed, Follows}
use Rattle.landing.specs.declared.rules.Rules.{Rules}

-- so many rows of a partition, behind `first` rows of others, were put
pub record IsFilling (files : Option Files) (rules : Rules) (first count : ℕ) (writer : WriterView) (before after : Option (List Fields)) : Type 0 where
  pub rows : List Fields
  pub so_far : IsSoFar files writer rows
  pub counts : count ≡ length rows
  pub few : first + count ≤ rules.max_rows
  pub are_checked : AreChecked (form_in rules.plan) rows
  pub follows : Follows rules (first + 1) rows before after

-- a partition's rows: it is full, unless the records ended
pub record AreOfPart (rules : Rules) (first part_rows : ℕ) (more : Bool) (before after : Option (List Fields)) (rows : List Fields) : Type 0 where
  pub few : first + length rows ≤ rules.max_rows
  pub some : 1 ≤ length rows
  pub most : length rows ≤ part_rows
  pub full : more ≡ true → length rows ≡ part_rows
  pub are_checked : AreChecked (form_in rules.plan) rows
  pub follows : Follows rules (first + 1) rows before after

-- they were all put
pub record Fills (files : Option Files) (rules : Rules) (first part_rows : ℕ) (writer : WriterView) (more : Bool) (before after : Option (List Fields)) : Type 0 where
  pub rows : List Fields
  pub so_far : IsSoFar files writer rows
  pub are : AreOfPart rules first part_rows more before after rows

-- a run stands with them, where the disk tells
pub record LandsPart (files : Option Files) (rules : Rules) (first part_rows : ℕ) (run : Run) (more : Bool) (before after : Option (List Fields)) : Type 0 where
  pub rows : List Fields
  pub counts : CountsRows run rows
  pub stands : IsSome files → Stands files run rows
  pub are : AreOfPart rules first part_rows more before after rows

-- the partitions so far: all are full, unless the records ended
pub record AreLandedSoFar (files : ℕ → Option Files) (rules : Rules) (part_rows workers : ℕ) (parts : List Run) (count : ℕ) (more : Bool) (before after : Option (List Fields)) : Type 0 where
  pub rows : List Fields
  pub counts : count ≡ length rows
  pub few : count ≤ rules.max_rows
  pub full : more ≡ true → length rows ≡ length parts * part_rows
  pub are_checked : AreChecked (form_in rules.plan) rows
  pub are_landed : AreLanded files part_rows workers parts rows
  pub are_short : AreShort (form_in rules.plan) parts
  pub follows : Follows rules 1 rows before after

-- all rows stand in runs, one for each partition
pub record LandsRows (files : ℕ → Option Files) (rules : Rules) (part_rows workers : ℕ) (parts : List Run) (count : ℕ) (records : Option (List Fields)) : Type 0 where
  pub rows : List Fields
  pub counts : count ≡ length rows
  pub few : length rows ≤ rules.max_rows
  pub are_checked : AreChecked (form_in rules.plan) rows
  pub are_landed : AreLanded files part_rows workers parts rows
  pub are_short : AreShort (form_in rules.plan) parts
  pub are_known : IfSome records (ArePassed rules 1 rows)
