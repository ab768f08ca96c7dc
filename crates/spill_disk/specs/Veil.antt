-- What contracts see of a disk in memory that tells nothing, and hides the last bytes of some files from reads.
-- This project's own.
use Rattle.std.specs.Prelude.{◌≡◌, ℕ, ◌+◌, ◌-◌, ◌^◌, Bool, List, ◌++◌, ◌==◌, Option, drop, length, min, take}
use Rattle.std.specs.List.{find}
use Rattle.std.specs.Option.{option_map_or}
use Rattle.spill_disk.specs.Files.{Files, bytes_of, read_of}
use Rattle.spill_disk.specs.Memory.{memory_files, created_of, fails_of, calls_of, faults_of, next_fails}
use Rattle.spill_disk.specs.declared.veil_disk.VeilDisk.{VeilDisk}

-- the files that it really has
abbrev pub veil_files : VeilDisk → Files
veil_files veil = memory_files veil.disk

-- how many files were made
abbrev pub veil_created : VeilDisk → ℕ
veil_created veil = created_of veil.disk

-- the numbers of the calls that fail
abbrev pub veil_fails : VeilDisk → List ℕ
veil_fails veil = fails_of veil.disk

-- how many calls there were, as far as a `u64` counts
abbrev pub veil_calls : VeilDisk → ℕ
veil_calls veil = calls_of veil.disk

-- how many of them failed, as far as a `u64` counts
abbrev pub veil_faults : VeilDisk → ℕ
veil_faults veil = faults_of veil.disk

-- the next call is one of those that fail
abbrev pub veil_next_fails : VeilDisk → Bool
veil_next_fails veil = next_fails veil.disk

-- the first of these pairs that names the file
abbrev pub pair_of : List (ℕ × ℕ) → ℕ → Option (ℕ × ℕ)
pair_of short file = find (λ pair. pair.0 == file) short

-- how many bytes of the file it hides; none where no pair names the file
abbrev pub hidden_in : List (ℕ × ℕ) → ℕ → ℕ
hidden_in short file = option_map_or (λ pair. pair.1) (pair_of short file) 0

-- how many of a file's last bytes no read sees
abbrev pub hidden : VeilDisk → ℕ → ℕ
hidden veil file = hidden_in veil.short.items file

-- all bytes but so many of the last
abbrev pub without_last : List ℕ → ℕ → List ℕ
without_last bytes count = take (length bytes - count) bytes

-- the bytes of a file that reads see
abbrev pub seen_of : VeilDisk → ℕ → List ℕ
seen_of veil file = without_last (bytes_of (veil_files veil) file) (hidden veil file)

-- the front of the buffer is filled with what is seen at the place, as far as there is something
pub record GivesSeen (veil : VeilDisk) (file place : ℕ) (before after : List ℕ) (count : ℕ) : Type 0 where
  pub counted : count ≡ length (read_of (seen_of veil file) place (length before))
  pub filled : after ≡ read_of (seen_of veil file) place (length before) ++ drop count before

-- there was one call more, as far as a `u64` counts; the calls that fail are the same, and what is hidden
pub record CountsVeiled (before after : VeilDisk) : Type 0 where
  pub calls : veil_calls after ≡ min (veil_calls before + 1) (2 ^ 64 - 1)
  pub fails : veil_fails after ≡ veil_fails before
  pub hidden_same : (file : ℕ) → hidden after file ≡ hidden before file
