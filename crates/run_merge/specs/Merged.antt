-- What merging runs into one leaves on a shelf's disks.
-- This project's own.
use Rattle.std.specs.Prelude.{◌≡◌, ℕ, List, [], ◌∷◌, Option, Some, None, Result, Ok, Err}
use Rattle.aggregate.specs.declared.kind.Kind.{Kind}
use Rattle.aggregate.specs.Totals.{Entry, total}
use Rattle.spill_disk.specs.Files.{Files}
use Rattle.run_file.specs.declared.run.Run.{Run}
use Rattle.run_file.specs.declared.run.RunFault.{RunFault}
use Rattle.run_file.specs.Causes.{NotDamaged}
use Rattle.run_file.specs.Several.{HasEntries, IsFileAmong, SameFile, concatenated}
use Rattle.run_file.specs.Shelved.{IsNotThere}

-- the answer is a run of all their entries; and no damage is found
abbrev pub Merges : (ℕ → Option Files) → Kind → List (List Entry) → Result (Option Run) RunFault → Type 0
Merges files kind lists (Ok None) = lists ≡ []
Merges files kind lists (Ok (Some run)) = HasEntries (files run.disk) kind run (total kind (concatenated lists))
Merges files kind lists (Err fault) = NotDamaged {T = Option Run} (Err fault)

-- the files of the runs are gone, but that of the answer, and each file that is neither is as before, there or not
pub record LeavesOnly (named : ℕ → ℕ) (before after : ℕ → Option Files) (runs answer : List Run) : Type 0 where
  pub gone : (disk file : ℕ) → IsFileAmong named runs disk file → (IsFileAmong named answer disk file → ⊥) → IsNotThere (after disk) file
  pub others : (disk file : ℕ) → (IsFileAmong named runs disk file → ⊥) → (IsFileAmong named answer disk file → ⊥) → SameFile (before disk) (after disk) file

-- a file of the answer is one of the runs', or wasn't there before
abbrev pub IsFresh : (ℕ → ℕ) → (ℕ → Option Files) → List Run → List Run → Type 0
IsFresh named before runs answer =
    (disk file : ℕ) → IsFileAmong named answer disk file → (IsFileAmong named runs disk file → ⊥) → IsNotThere (before disk) file

-- the answer as a list
abbrev pub answered : Option Run → List Run
answered None = []
answered (Some run) = run ∷ []
