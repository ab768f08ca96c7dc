-- The statuses that tell faults of runs and of tables.
-- This project's own.
use Rattle.result_table.specs.declared.print_fault.PrintFault.{PrintFault}
use Rattle.result_table.specs.declared.print_fault.PrintFault.TheVariants as print_fault
use Rattle.run_file.specs.declared.run.Damage.{Damage}
use Rattle.run_file.specs.declared.run.RunFault.{RunFault}
use Rattle.run_file.specs.declared.run.RunFault.TheVariants as run_fault
use Rattle.job_ending.specs.declared.status.Status.{Status}
use Rattle.job_ending.specs.declared.status.Status.TheVariants as status

-- that of damage: its disk is the number of a post
abbrev pub status_of_damage : Damage → Status
status_of_damage damage = status.Damaged damage.disk damage.file damage.kept damage.found

-- that of a fault of a run
abbrev pub status_of_run : RunFault → Status
status_of_run (run_fault.DiskFault disk) = status.DiskFault disk
status_of_run (run_fault.Damaged damage) = status_of_damage damage
status_of_run run_fault.NoMemory = status.NoMemory

-- that of a fault of a table
abbrev pub status_of_print : PrintFault → Status
status_of_print print_fault.WriteFault = status.WriteFault
status_of_print (print_fault.DiskFault disk) = status.DiskFault disk
status_of_print (print_fault.Damaged damage) = status_of_damage damage
status_of_print print_fault.NoMemory = status.NoMemory
