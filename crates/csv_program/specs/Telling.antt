-- The statuses that tell faults of tasks.
-- This project's own.
use Rattle.task_runner.specs.declared.work_fault.WorkFault.{WorkFault}
use Rattle.task_runner.specs.declared.work_fault.WorkFault.TheVariants as work_fault
use Rattle.job_ending.specs.Telling.{status_of_damage}
use Rattle.job_ending.specs.declared.status.Status.{Status}
use Rattle.job_ending.specs.declared.status.Status.TheVariants as status

-- that of a fault of a task
abbrev pub status_of_work : WorkFault → Status
status_of_work (work_fault.NoRoom asked held floor) = status.NoRoom asked held floor
status_of_work (work_fault.DiskFault post) = status.DiskFault post
status_of_work (work_fault.Damaged damage) = status_of_damage damage
status_of_work work_fault.NoMemory = status.NoMemory
