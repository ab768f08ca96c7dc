-- Calls on a shelf one after another: what they keep.
use Rattle.std.proofs.Common.{◌≡◌, ℕ, Option, Ok, Err, refl, sym, ap, ◌∙◌, arith}
use Rattle.std.specs.Prelude.{Result, OnOk, is_some}
use Rattle.spill_disk.specs.Files.{Files}
use Rattle.run_file.specs.Shelved.{LeavesFiles, KeepsShelf, file_in, SameBut}

pub keeps_self : {H D : Type 0} (count_of : H → ℕ) (named : H → ℕ → ℕ) (disk_of : H → ℕ → Option D) (files : D → Option Files) (faults : D → ℕ) (shelf : H) → KeepsShelf count_of named disk_of files faults shelf shelf
keeps_self count_of named disk_of files faults shelf = record { count = refl; names = λ j. refl; tells = λ j. refl; later = λ j. omega arith }

pub keeps_trans : {H D : Type 0} (count_of : H → ℕ) (named : H → ℕ → ℕ) (disk_of : H → ℕ → Option D) (files : D → Option Files) (faults : D → ℕ) (old middle new : H) → KeepsShelf count_of named disk_of files faults old middle → KeepsShelf count_of named disk_of files faults middle new → KeepsShelf count_of named disk_of files faults old new
keeps_trans count_of named disk_of files faults old middle new first next = record {
  count = next.count ∙ first.count;
  names = λ j. next.names j ∙ first.names j;
  tells = λ j. next.tells j ∙ first.tells j;
  later = λ j. omega (arith, first.later j, next.later j);
}

pub keeps_left : {H D : Type 0} (count_of : H → ℕ) (named : H → ℕ → ℕ) (disk_of : H → ℕ → Option D) (files : D → Option Files) (faults : D → ℕ) (old new : H) → LeavesFiles count_of named disk_of files faults old new → KeepsShelf count_of named disk_of files faults old new
keeps_left count_of named disk_of files faults old new left = record {
  count = left.count;
  names = left.names;
  tells = λ j. ap is_some (left.same j);
  later = left.later;
}

-- a call that leaves all files, and one that may change one file
pub same_left : (named : ℕ → ℕ) (before middle after : ℕ → Option Files) (disk file : ℕ) → SameBut named before middle disk file → ((j : ℕ) → after j ≡ middle j) → SameBut named before after disk file
same_left named before middle after disk file first left j g apart = ap (λ (files : Option Files). file_in files g) (left j) ∙ first j g apart

pub same_more : (named named' : ℕ → ℕ) (before middle after : ℕ → Option Files) (disk file : ℕ) → ((j : ℕ) → named' j ≡ named j) → SameBut named before middle disk file → SameBut named' middle after disk file → SameBut named before after disk file
same_more named named' before middle after disk file each first next j g apart =
    next j g (λ here. apart (sym (each j) ∙ here.0 ∙ each disk, here.1)) ∙ first j g apart

-- two facts of a call's success
pub both_ok : {T E P Q R : Type 0} (r : Result T E) → OnOk r P → OnOk r Q → (P → Q → R) → OnOk r R
both_ok (Ok x) first next both = both first next
both_ok (Err e) first next both = tt
