-- The landed rows of an input, as runs on the disks of a shelf: one for each partition.
-- This project's own.
use Rattle.std.specs.Prelude.{◌≡◌, ℕ, ◌+◌, ◌-◌, ◌*◌, ◌/◌, ◌%◌, ◌≤◌, ◌<◌, List, All, Option, IfSome, IsSome, length, take, drop, ⊤}
use Rattle.std.specs.List.{AllByRecursion}
use Rattle.fault_count.specs.Faults.{Rose}
use Rattle.spill_disk.specs.Files.{Files}
use Rattle.row_form.specs.Forms.{HasForm, columns_of}
use Rattle.run_file.specs.Runs.{Stands}
use Rattle.row_form.specs.declared.form.Form.{Form}
use Rattle.run_file.specs.declared.run.Run.{Run}
use Rattle.run_file.specs.Several.{AreApart, run_at}
use Rattle.run_file.specs.Shelved.{IsNotThereOn}
use Rattle.job_text.specs.declared.job.Job.{Job}
use Rattle.job_plan.specs.Columns.{Fields}
use Rattle.job_plan.specs.Entries.{field_bytes}
use Rattle.job_plan.specs.Plans.{IsPlanOf, form_in, places_in}
use Rattle.job_plan.specs.Rows.{AreBytes, landed_rows}
use Rattle.job_plan.specs.declared.query_plan.Plan.{Plan}
use Rattle.landing.specs.Checks.{Rows, checked}
use Rattle.landing.specs.declared.fault.LandFault.{LandFault}
use Rattle.landing.specs.declared.fault.LandFault.TheVariants.{ReadFault, DiskFault, NoMemory}

-- how many partitions of so many rows there are: the last one may have fewer
abbrev pub partition_count : ℕ → ℕ → ℕ
partition_count rows part_rows = (rows + (part_rows - 1)) / part_rows

-- the rows of a partition, from 0
abbrev pub partition_of : ℕ → ℕ → List Fields → List Fields
partition_of part_rows part rows = take part_rows (drop (part * part_rows) rows)

-- the rows stand in runs, each partition's on the disk of its worker where that tells
pub record AreLanded (files : ℕ → Option Files) (part_rows workers : ℕ) (parts : List Run) (rows : List Fields) : Type 0 where
  pub count : length parts ≡ partition_count (length rows) part_rows
  pub disks : (part : ℕ) → part < length parts → (run_at parts part).disk ≡ part % workers
  pub stand : (part : ℕ) → part < length parts → IsSome (files (part % workers))
      → Stands (files (part % workers)) (run_at parts part) (partition_of part_rows part rows)

-- landed rows: of the form, of at most 65,536 bytes beside the number, and bytes
pub record AreChecked (form : Form) (rows : List Fields) : Type 0 where
  pub formed : AllByRecursion (HasForm form) rows
  pub short : AllByRecursion (λ row. field_bytes row ≤ 65536) rows
  pub bytes : AllByRecursion AreBytes rows

-- on every disk a row that costs at most the greatest of one of these runs has at most 65,536 bytes beside its number
abbrev pub AreShort : Form → List Run → Type 0
AreShort form parts = All (λ run. run.greatest ≤ 36 + 4 * columns_of form + 65536) parts

-- records that pass the job's checks: the plan is that of their header, and these are their landed rows
pub record PassChecks (job : Job) (max_rows : ℕ) (plan : Plan) (landed : List Fields) (records : List Fields) : Type 0 where
  pub header : Fields
  pub rows : List Fields
  pub passed : checked job max_rows records ≡ Rows header rows
  pub planned : IsPlanOf job header plan
  pub landed_are : landed ≡ landed_rows (places_in plan) 1 rows

-- what was landed: the plan is that of a header, rows that were checked stand in runs, and they are those of the
-- records, where these are known
pub record Lands (files : ℕ → Option Files) (job : Job) (max_rows part_rows workers : ℕ) (plan : Plan) (parts : List Run) (count : ℕ) (records : Option (List Fields)) : Type 0 where
  pub header : Fields
  pub planned : IsPlanOf job header plan
  pub rows : List Fields
  pub counts : count ≡ length rows
  pub few : length rows ≤ max_rows
  pub are_checked : AreChecked (form_in plan) rows
  pub are_landed : AreLanded files part_rows workers parts rows
  pub are_short : AreShort (form_in plan) parts
  pub are_known : IfSome records (PassChecks job max_rows plan rows)

-- the runs' files are new: none was on its disk before, and no two are one where their disks tell
pub record AreMade (named : ℕ → ℕ) (before : ℕ → Option Files) (parts : List Run) : Type 0 where
  pub fresh : (part : ℕ) → part < length parts → IsNotThereOn named before (run_at parts part).disk (run_at parts part).file
  pub apart : ((part : ℕ) → part < length parts → IsSome (before (run_at parts part).disk)) → AreApart named parts

-- ---- refusals

-- the input calls for it
abbrev pub IsOfInput : LandFault → Type 0
IsOfInput ReadFault = ⊥
IsOfInput (DiskFault disk) = ⊥
IsOfInput NoMemory = ⊥
IsOfInput _ = ⊤

-- a fault of a disk names one of the workers' disks, and came only where its count rose
abbrev pub HasCauseAmong : ℕ → (ℕ → ℕ) → (ℕ → ℕ) → LandFault → Type 0
HasCauseAmong workers before now (DiskFault disk) = (disk < workers) × Rose (before disk) (now disk)
HasCauseAmong workers before now _ = ⊤
