-- A run that is read whole, into a page.
-- This project's own.
use Rattle.std.specs.Prelude.{◌≡◌, ◌<◌, ℕ, List, length, take, drop, Option, Some, None, Result, Ok, Err, ⊤, option_map}
use Rattle.std.specs.List.{AllByRecursion}
use Rattle.row_page.specs.Grammar.{IsPage}
use Rattle.row_page.specs.Pages.{PageView}
use Rattle.spill_disk.specs.Files.{Files, bytes_of}
use Rattle.run_file.specs.declared.run.Run.{Run}
use Rattle.row_form.specs.declared.form.Form.{Form}
use Rattle.run_file.specs.declared.run.RunFault.{RunFault}
use Rattle.run_file.specs.declared.run.RunFault.TheVariants.{DiskFault, Damaged, NoMemory}
use Rattle.run_file.specs.Causes.{NotDamaged, damage_in}
use Rattle.run_file.specs.Reading.{BeginsDamaged}
use Rattle.row_form.specs.Forms.{IsWellFormed}

-- what was read of a file: its first bytes, as many as the run has
abbrev pub ReadsRun : Option Files → Run → List ℕ → Type 0
ReadsRun None run bytes = ⊤
ReadsRun (Some files) run bytes = bytes ≡ take run.bytes (bytes_of files run.file)

-- the page has these rows; and no damage is found
abbrev pub GivesPage : List (List (List ℕ)) → Result PageView RunFault → Type 0
GivesPage rows (Ok page) = page.rows ≡ rows
GivesPage rows (Err fault) = NotDamaged {T = PageView} (Err fault)

-- damage is told of this run, of which fewer rows were found than it has
abbrev pub TellsDamageOf : {T : Type 0} → Run → Result T RunFault → Type 0
TellsDamageOf run (Ok x) = ⊤
TellsDamageOf run (Err (DiskFault disk)) = ⊤
TellsDamageOf run (Err (Damaged damage)) = (damage ≡ damage_in run damage.found) × (damage.found < run.count)
TellsDamageOf run (Err NoMemory) = ⊤

-- so many well-formed rows stand at the front, in so many bytes
pub record BeginsRows (form : Form) (greatest : ℕ) (bytes : List ℕ) (used count : ℕ) : Type 0 where
  pub rows : List (List (List ℕ))
  pub page : IsPage (take used bytes) rows
  pub count_is : length rows ≡ count
  pub formed : AllByRecursion (IsWellFormed form greatest) rows

-- so many rows stand at the front, well formed, and behind them none that is
abbrev pub IsDamagedAfter : Form → ℕ → List ℕ → ℕ → Type 0
IsDamagedAfter form greatest bytes found =
    (used : ℕ) × BeginsRows form greatest bytes used found × BeginsDamaged form greatest (drop used bytes)

-- damage is told with the number of the rows in front of the first one that isn't well formed
abbrev pub FindsDamage : {T : Type 0} → Form → ℕ → List ℕ → Result T RunFault → Type 0
FindsDamage form greatest bytes (Ok x) = ⊤
FindsDamage form greatest bytes (Err (DiskFault disk)) = ⊤
FindsDamage form greatest bytes (Err (Damaged damage)) = IsDamagedAfter form greatest bytes damage.found
FindsDamage form greatest bytes (Err NoMemory) = ⊤

-- the first bytes of a run's file, as many as the run has, where its disk tells
abbrev pub bytes_in : Option Files → Run → Option (List ℕ)
bytes_in files run = option_map (λ known. take run.bytes (bytes_of known run.file)) files

-- all bytes are the rows of the run, well formed
pub record AreRowsOf (form : Form) (run : Run) (bytes : List ℕ) (rows : List (List (List ℕ))) : Type 0 where
  pub page : IsPage bytes rows
  pub count : length rows ≡ run.count
  pub formed : AllByRecursion (IsWellFormed form run.greatest) rows

-- of such bytes all are used, and none is damaged
abbrev pub UsesAll : List ℕ → Result ℕ RunFault → Type 0
UsesAll bytes (Ok used) = used ≡ length bytes
UsesAll bytes (Err fault) = ⊥
