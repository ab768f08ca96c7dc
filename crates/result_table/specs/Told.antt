-- Entries that were read one after the other and are told as rows, and where telling stops.
-- This project's own.
use Rattle.std.specs.Prelude.{◌≡◌, ℕ, ◌+◌, ◌<◌, ◌≤◌, All, List, ◌∷◌, ◌++◌, Option, Result, Ok, Err, length, map, ⊤}
use Rattle.std.specs.List.{flat_map}
use Rattle.aggregate.specs.Spelling.{spelled}
use Rattle.aggregate.specs.Totals.{Entry}
use Rattle.byte_io.specs.Sinks.{AppendsPrefix}
use Rattle.spill_disk.specs.Files.{Files}
use Rattle.job_text.specs.declared.job.Shape.{Shape}
use Rattle.job_plan.specs.Telling.{IsTold, row_of}
use Rattle.run_file.specs.Causes.{damage_in}
use Rattle.run_file.specs.Readers.{ReaderView}
use Rattle.result_table.specs.Ahead.{AreAhead}
use Rattle.result_table.specs.Table.{table}
use Rattle.result_table.specs.declared.print_fault.PrintFault.{PrintFault}
use Rattle.result_table.specs.declared.print_fault.PrintFault.TheVariants.{WriteFault, DiskFault, Damaged, NoMemory}

-- a key is the spelling of these fields, so many of them
abbrev pub IsSpelling : ℕ → List (List ℕ) → List ℕ → Type 0
IsSpelling columns fields key = (length fields ≡ columns) × (key ≡ flat_map spelled fields)

-- the rows that some entries tell, as bytes
abbrev pub rows_told : Shape → List Entry → List ℕ
rows_told shape entries = table (map (row_of shape) entries)

-- these entries are the first of some that were ahead, and the others are ahead now
pub record AreFirst (told : List Entry) (now : Option Files) (after : ReaderView) (entries : List Entry) : Type 0 where
  pub rest : List Entry
  pub are : entries ≡ told ++ rest
  pub ahead : AreAhead now after rest

-- these are the entries that were read from one place of a run to another: each can be told, and where the disk tells,
-- they are the first of those that were ahead
pub record TellsEntries (shape : Shape) (was now : Option Files) (before after : ReaderView) (told : List Entry)
    : Type 0 where
  pub can : All (IsTold shape) told
  pub counted : before.found + length told ≡ after.found
  pub behind : (entries : List Entry) → AreAhead was before entries → AreFirst told now after entries

-- these entries are the first of some, and the next one can't be told
pub record IsUntoldBehind (shape : Shape) (told entries : List Entry) : Type 0 where
  pub entry : Entry
  pub rest : List Entry
  pub are : entries ≡ told ++ entry ∷ rest
  pub untold : IsTold shape entry → ⊥

-- these entries were read, and so many of the run were found by then: each can be told, and where the disk tells, the
-- next one can't
pub record StopsBehind (shape : Shape) (was : Option Files) (before : ReaderView) (found : ℕ) (told : List Entry)
    : Type 0 where
  pub can : All (IsTold shape) told
  pub counted : before.found + length told ≡ found
  pub untold : (entries : List Entry) → AreAhead was before entries → IsUntoldBehind shape told entries

-- damage is told of the reader's run, with how many of its entries were found, each of which can be told
abbrev pub StopsIn : {T : Type 0} → Shape → Option Files → ReaderView → Result T PrintFault → Type 0
StopsIn shape was before (Ok x) = ⊤
StopsIn shape was before (Err WriteFault) = ⊤
StopsIn shape was before (Err (DiskFault disk)) = ⊤
StopsIn shape was before (Err (Damaged damage)) =
    (damage ≡ damage_in before.run damage.found) × (damage.found < before.run.count)
    × ((told : List Entry) × StopsBehind shape was before damage.found told)
StopsIn shape was before (Err NoMemory) = ⊤

-- where damage is told, so many entries were found
abbrev pub HasFound : {T : Type 0} → ℕ → Result T PrintFault → Type 0
HasFound count (Ok x) = ⊤
HasFound count (Err WriteFault) = ⊤
HasFound count (Err (DiskFault disk)) = ⊤
HasFound count (Err (Damaged damage)) = damage.found ≡ count
HasFound count (Err NoMemory) = ⊤

-- what was written is a front of a text and the rows of some entries: each can be told, they are the first of those
-- that the run has, at most so many behind those that were given before, and where damage is told, so many were found
pub record WritesFront {T : Type 0} (shape : Shape) (Has : List Entry → Type 0) (given count : ℕ) (text : List ℕ)
    (before after : Option (List ℕ)) (result : Result T PrintFault) : Type 0 where
  pub told : List Entry
  pub can : All (IsTold shape) told
  pub few : given + length told ≤ count
  pub found : HasFound (given + length told) result
  pub first : (entries : List Entry) → Has entries → (rest : List Entry) × (entries ≡ told ++ rest)
  pub front : AppendsPrefix before after (text ++ rows_told shape told)
