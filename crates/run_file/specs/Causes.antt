-- Why a call on runs gave up, and what must have happened outside.
-- This project's own.
use Rattle.std.specs.Prelude.{◌≡◌, ℕ, Result, Ok, Err, ⊤}
use Rattle.fault_count.specs.Faults.{Rose}
use Rattle.spill_disk.specs.declared.disk.DiskError.{DiskError}
use Rattle.spill_disk.specs.declared.disk.DiskError.TheVariants as disk_error
use Rattle.run_file.specs.declared.run.Damage.{Damage}
use Rattle.run_file.specs.declared.run.Run.{Run}
use Rattle.run_file.specs.declared.run.RunFault.{RunFault}
use Rattle.run_file.specs.declared.run.RunFault.TheVariants.{DiskFault, Damaged, NoMemory}

-- what a disk's error is to the layer above
abbrev pub fault_by : ℕ → DiskError → RunFault
fault_by disk disk_error.Failed = DiskFault disk
fault_by disk disk_error.NoMemory = NoMemory

-- the damage of a run of which so many rows were found
abbrev pub damage_in : Run → ℕ → Damage
damage_in run found = record { disk = run.disk; file = run.file; kept = run.count; found = found }

-- the fault by which this is told
abbrev pub damage_by : Run → ℕ → RunFault
damage_by run found = Damaged (damage_in run found)

-- a fault of a disk names it, and came only where its count rose
abbrev pub HasCauseOn : {T : Type 0} → ℕ → ℕ → ℕ → Result T RunFault → Type 0
HasCauseOn disk before now (Ok x) = ⊤
HasCauseOn disk before now (Err (DiskFault named)) = (named ≡ disk) × Rose before now
HasCauseOn disk before now (Err (Damaged damage)) = ⊤
HasCauseOn disk before now (Err NoMemory) = ⊤

-- nothing was found damaged
abbrev pub NotDamaged : {T : Type 0} → Result T RunFault → Type 0
NotDamaged (Ok x) = ⊤
NotDamaged (Err (DiskFault named)) = ⊤
NotDamaged (Err (Damaged damage)) = ⊥
NotDamaged (Err NoMemory) = ⊤

-- no fault of a disk is told
abbrev pub NoDiskFault : {T : Type 0} → Result T RunFault → Type 0
NoDiskFault (Ok x) = ⊤
NoDiskFault (Err (DiskFault named)) = ⊥
NoDiskFault (Err (Damaged damage)) = ⊤
NoDiskFault (Err NoMemory) = ⊤
