-- Why the printing of a table ended early: faults of runs, and what the calls below may tell.
-- This project's own.
use Rattle.std.specs.Prelude.{◌≡◌, ℕ, ◌<◌, Result, Ok, Err, ⊤}
use Rattle.fault_count.specs.Faults.{Rose}
use Rattle.run_file.specs.Causes.{damage_in}
use Rattle.run_file.specs.declared.run.Run.{Run}
use Rattle.run_file.specs.declared.run.RunFault.{RunFault}
use Rattle.run_file.specs.declared.run.RunFault.TheVariants as run_fault
use Rattle.result_table.specs.declared.print_fault.PrintFault.{PrintFault}
use Rattle.result_table.specs.declared.print_fault.PrintFault.TheVariants.{WriteFault, DiskFault, Damaged, NoMemory}

-- what a run's fault is to a table
abbrev pub fault_of : RunFault → PrintFault
fault_of (run_fault.DiskFault disk) = DiskFault disk
fault_of (run_fault.Damaged damage) = Damaged damage
fault_of run_fault.NoMemory = NoMemory

-- damage is told of this run, of which fewer entries were found than it has
abbrev pub TellsRun : {T : Type 0} → Run → Result T PrintFault → Type 0
TellsRun run (Ok x) = ⊤
TellsRun run (Err WriteFault) = ⊤
TellsRun run (Err (DiskFault disk)) = ⊤
TellsRun run (Err (Damaged damage)) = (damage ≡ damage_in run damage.found) × (damage.found < run.count)
TellsRun run (Err NoMemory) = ⊤

-- what a call that reads and doesn't write may tell: a fault of a disk where its count rose, and fewer entries than were
-- kept
abbrev pub HasCauseRead : {T : Type 0} → (ℕ → ℕ) → (ℕ → ℕ) → Result T PrintFault → Type 0
HasCauseRead before now (Ok x) = ⊤
HasCauseRead before now (Err WriteFault) = ⊥
HasCauseRead before now (Err (DiskFault disk)) = Rose (before disk) (now disk)
HasCauseRead before now (Err (Damaged damage)) = damage.found < damage.kept
HasCauseRead before now (Err NoMemory) = ⊤

-- what a call that writes and doesn't read may tell: a fault of the output where its count rose
abbrev pub HasCauseWritten : {T : Type 0} → ℕ → ℕ → Result T PrintFault → Type 0
HasCauseWritten before now (Ok x) = ⊤
HasCauseWritten before now (Err WriteFault) = Rose before now
HasCauseWritten before now (Err (DiskFault disk)) = ⊥
HasCauseWritten before now (Err (Damaged damage)) = ⊥
HasCauseWritten before now (Err NoMemory) = ⊤
