-- Calls on a shelf one after another that leave all files.
use Rattle.std.proofs.Common.{ℕ, Option, refl, ◌∙◌, arith}
use Rattle.spill_disk.specs.Files.{Files}
use Rattle.run_file.specs.Shelved.{LeavesFiles}

pub leaves_self : {H D : Type 0} (count_of : H → ℕ) (named : H → ℕ → ℕ) (disk_of : H → ℕ → Option D) (files : D → Option Files) (faults : D → ℕ) (shelf : H) → LeavesFiles count_of named disk_of files faults shelf shelf
leaves_self count_of named disk_of files faults shelf = record { count = refl; names = λ j. refl; same = λ j. refl; later = λ j. omega arith }

pub leaves_trans : {H D : Type 0} (count_of : H → ℕ) (named : H → ℕ → ℕ) (disk_of : H → ℕ → Option D) (files : D → Option Files) (faults : D → ℕ) (old middle new : H) → LeavesFiles count_of named disk_of files faults old middle → LeavesFiles count_of named disk_of files faults middle new → LeavesFiles count_of named disk_of files faults old new
leaves_trans count_of named disk_of files faults old middle new first next = record {
  count = next.count ∙ first.count;
  names = λ j. next.names j ∙ first.names j;
  same = λ j. next.same j ∙ first.same j;
  later = λ j. omega (arith, first.later j, next.later j);
}
