-- What contracts see of a disk in memory.
-- This project's own.
use Rattle.std.specs.Prelude.{◌≡◌, ℕ, ◌+◌, ◌-◌, ◌^◌, Bool, List, ◌==◌, if◌then◌else◌, min, vec_len}
use Rattle.std.specs.List.{list_any}
use Rattle.spill_disk.specs.Files.{Files}
use Rattle.spill_disk.specs.Kept.{files_from}
use Rattle.spill_disk.specs.declared.memory_disk.MemoryDisk.{MemoryDisk}

-- its files
abbrev pub memory_files : MemoryDisk → Files
memory_files disk = files_from 0 disk.slots.items

-- how many files were made
abbrev pub created_of : MemoryDisk → ℕ
created_of disk = vec_len disk.slots

-- the numbers of the calls that fail
abbrev pub fails_of : MemoryDisk → List ℕ
fails_of disk = disk.fails.items

-- how many calls there were
abbrev pub calls_of : MemoryDisk → ℕ
calls_of disk = disk.calls

-- how many of them failed, as far as a `u64` counts
abbrev pub faults_of : MemoryDisk → ℕ
faults_of disk = disk.faults

-- the next call is one of those that fail
abbrev pub next_fails : MemoryDisk → Bool
next_fails disk = list_any (λ call. call == disk.calls) disk.fails.items

-- there was one call more, and one fault more where it is one of those that fail, both as far as a `u64` counts; the
-- calls that fail are the same
pub record CountsCall (before after : MemoryDisk) : Type 0 where
  pub calls : calls_of after ≡ min (calls_of before + 1) (2 ^ 64 - 1)
  pub fails : fails_of after ≡ fails_of before
  pub faults : faults_of after ≡ min (faults_of before + (if next_fails before then 1 else 0)) (2 ^ 64 - 1)
