-- What a run's fault is to spilling, and a fault of spilling to an ask.
-- This project's own.
use Rattle.run_file.specs.declared.run.RunFault.{RunFault}
use Rattle.run_file.specs.declared.run.RunFault.TheVariants as run_fault
use Rattle.task_memory.specs.declared.fault.Fault.{Fault}
use Rattle.task_memory.specs.declared.fault.Fault.TheVariants as fault
use Rattle.task_memory.specs.declared.fault.TaskFault.{TaskFault}
use Rattle.task_memory.specs.declared.fault.TaskFault.TheVariants.{DiskFault, NoMemory}

-- a writer finds nothing damaged
abbrev pub fault_by : RunFault → Fault
fault_by (run_fault.DiskFault disk) = fault.DiskFault
fault_by (run_fault.Damaged damage) = fault.NoMemory
fault_by run_fault.NoMemory = fault.NoMemory

-- what a fault of spilling is to an ask
abbrev pub task_fault_by : Fault → TaskFault
task_fault_by fault.DiskFault = DiskFault
task_fault_by fault.NoMemory = NoMemory
