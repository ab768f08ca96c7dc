-- Why a merge gave up, and what must have happened outside.
-- This project's own.
use Rattle.std.specs.Prelude.{◌≡◌, ℕ, ◌<◌, ◌==◌, ◌&&◌, ◌||◌, Bool, true, false, List, [], ◌∷◌, Option, Result, Ok, Err, ⊤}
use Rattle.fault_count.specs.Faults.{Rose}
use Rattle.spill_disk.specs.Files.{Files}
use Rattle.run_file.specs.declared.run.Run.{Run}
use Rattle.run_file.specs.declared.run.RunFault.{RunFault}
use Rattle.run_file.specs.declared.run.RunFault.TheVariants.{DiskFault, Damaged, NoMemory}
use Rattle.run_file.specs.Several.{IsFileAmong}
use Rattle.run_file.specs.Shelved.{IsNotThere}

-- a fault of a disk is told only where its count rose
abbrev pub HasCauseAmong : {T : Type 0} → (ℕ → ℕ) → (ℕ → ℕ) → Result T RunFault → Type 0
HasCauseAmong before now (Ok x) = ⊤
HasCauseAmong before now (Err (DiskFault disk)) = Rose (before disk) (now disk)
HasCauseAmong before now (Err (Damaged damage)) = ⊤
HasCauseAmong before now (Err NoMemory) = ⊤

-- whether a run is this file of this disk, with so many rows; and whether one of several is
abbrev pub is_run : Run → ℕ → ℕ → ℕ → Bool
is_run run disk file count = run.disk == disk && run.file == file && run.count == count

-- whether one of several runs is this file of this disk, with so many rows
abbrev pub is_run_in : List Run → ℕ → ℕ → ℕ → Bool
is_run_in [] disk file count = false
is_run_in (run ∷ runs) disk file count = is_run run disk file count || is_run_in runs disk file count

-- damage is told of one of these runs, of which fewer rows were found than it has
abbrev pub IsDamageIn : {T : Type 0} → List Run → Result T RunFault → Type 0
IsDamageIn runs (Ok x) = ⊤
IsDamageIn runs (Err (DiskFault disk)) = ⊤
IsDamageIn runs (Err (Damaged damage)) = (is_run_in runs damage.disk damage.file damage.kept ≡ true) × (damage.found < damage.kept)
IsDamageIn runs (Err NoMemory) = ⊤

-- damage is told of one of these runs, or of one that was made of them on the disk `to`, whose file is one of theirs or wasn't
-- there before
abbrev pub IsDamageAmong : {T : Type 0} → (ℕ → ℕ) → (ℕ → Option Files) → List Run → ℕ → Result T RunFault → Type 0
IsDamageAmong named before runs to (Ok x) = ⊤
IsDamageAmong named before runs to (Err (DiskFault disk)) = ⊤
IsDamageAmong named before runs to (Err (Damaged damage)) =
    (is_run_in runs damage.disk damage.file damage.kept ≡ false → damage.disk ≡ to)
    × ((IsFileAmong named runs damage.disk damage.file → ⊥) → IsNotThere (before damage.disk) damage.file) × (damage.found < damage.kept)
IsDamageAmong named before runs to (Err NoMemory) = ⊤
