-- The numbers of faults of the folder `spill/`.
-- This project's own.
use Rattle.std.specs.Prelude.{ℕ}
use Rattle.spill_folder.specs.declared.fault.SpillFault.{SpillFault}
use Rattle.spill_folder.specs.declared.fault.SpillFault.TheVariants as spill_fault

-- the number that a process ends with where it can't use the folder `spill/`
abbrev pub number_of_spill : SpillFault → ℕ
number_of_spill spill_fault.InUse = 16
number_of_spill (spill_fault.Failed path reason) = 16
number_of_spill (spill_fault.Strange path what) = 16
number_of_spill spill_fault.NoMemory = 18
