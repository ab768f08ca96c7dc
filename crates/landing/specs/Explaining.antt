-- Why a call of a landing gave up, by where the fault comes from.
-- This project's own.
use Rattle.std.specs.Prelude.{◌≡◌, ℕ, ◌<◌, ⊤}
use Rattle.fault_count.specs.Faults.{Rose}
use Rattle.run_file.specs.declared.run.RunFault.{RunFault}
use Rattle.run_file.specs.declared.run.RunFault.TheVariants as run_fault
use Rattle.landing.specs.declared.fault.LandFault.{LandFault}
use Rattle.landing.specs.declared.fault.LandFault.TheVariants.{ReadFault, DiskFault, NoMemory}

-- what holds of a fault: of one that the input calls for, of a failed read, and of a failed call of a disk
abbrev pub Explains : (LandFault → Type 0) → Type 0 → (ℕ → Type 0) → LandFault → Type 0
Explains refused read called ReadFault = read
Explains refused read called (DiskFault disk) = called disk
Explains refused read called NoMemory = ⊤
Explains refused read called why = refused why

-- no such fault comes
abbrev pub Never : {A : Type 0} → A → Type 0
Never fault = ⊥

-- the disk that was called, whose count of faults rose
abbrev pub FailsOn : ℕ → (ℕ → ℕ) → (ℕ → ℕ) → ℕ → Type 0
FailsOn to before now disk = (disk ≡ to) × Rose (before disk) (now disk)

-- one of the workers' disks, whose count of faults rose
abbrev pub FailsAmong : ℕ → (ℕ → ℕ) → (ℕ → ℕ) → ℕ → Type 0
FailsAmong workers before now disk = (disk < workers) × Rose (before disk) (now disk)

-- a writer's fault as one of a landing
abbrev pub fault_by : RunFault → LandFault
fault_by (run_fault.DiskFault disk) = DiskFault disk
fault_by (run_fault.Damaged damage) = NoMemory
fault_by run_fault.NoMemory = NoMemory

-- a fault that a writer of rows tells: it finds no damage
abbrev pub IsOfWriter : RunFault → Type 0
IsOfWriter (run_fault.DiskFault disk) = ⊤
IsOfWriter (run_fault.Damaged damage) = ⊥
IsOfWriter run_fault.NoMemory = ⊤
