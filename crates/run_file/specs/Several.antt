-- Several runs on a shelf's disks: their entries, and which files are theirs.
-- This project's own.
use Rattle.std.specs.Prelude.{◌≡◌, ℕ, ◌<◌, max, List, [], ◌∷◌, ◌++◌, Option, Some, None, IsSome, ⊤, slice_index_or, length}
use Rattle.std.specs.FinMap as map
use Rattle.std.specs.List.{AllByRecursion}
use Rattle.aggregate.specs.declared.kind.Kind.{Kind}
use Rattle.aggregate.specs.Totals.{Entry}
use Rattle.aggregate.specs.Rows.{Ascends, entries_of}
use Rattle.spill_disk.specs.Files.{Files}
use Rattle.row_form.specs.declared.form.Form.TheVariants.{Entries}
use Rattle.run_file.specs.declared.run.Run.{Run}
use Rattle.row_form.specs.Forms.{HasForm}
use Rattle.run_file.specs.Runs.{Stands}
use Rattle.run_file.specs.Shelved.{file_in}

-- it stands for a run that isn't there
abbrev pub no_run : Run
no_run = record { disk = 0; file = 0; bytes = 0; count = 0; greatest = 0 }

-- the run at a place of a list
abbrev pub run_at : List Run → ℕ → Run
run_at runs i = slice_index_or runs i no_run

-- the run stands on the disk with these entries: each is of the kind, and they ascend
pub record HasEntries (files : Option Files) (kind : Kind) (run : Run) (entries : List Entry) : Type 0 where
  pub rows : List (List (List ℕ))
  pub stands : Stands files run rows
  pub formed : AllByRecursion (HasForm (Entries kind)) rows
  pub are : entries ≡ entries_of rows
  pub ascends : Ascends (Some kind) entries

-- each run stands with its entries on the disk that it names
abbrev pub HaveEntries : (ℕ → Option Files) → Kind → List Run → List (List Entry) → Type 0
HaveEntries files kind [] [] = ⊤
HaveEntries files kind (run ∷ runs) (entries ∷ lists) = HasEntries (files run.disk) kind run entries × HaveEntries files kind runs lists
HaveEntries files kind runs lists = ⊥

-- each run is on a disk of the shelf
abbrev pub AreOn : ℕ → List Run → Type 0
AreOn count runs = AllByRecursion (λ run. run.disk < count) runs

-- no two runs are one file of one disk; `named` says which disk a number names
abbrev pub AreApart : (ℕ → ℕ) → List Run → Type 0
AreApart named runs =
    (i j : ℕ) → i < length runs → j < length runs → named (run_at runs i).disk ≡ named (run_at runs j).disk
    → (run_at runs i).file ≡ (run_at runs j).file → i ≡ j

-- the greatest cost of a row in any of them, in bytes
abbrev pub greatest_of : List Run → ℕ
greatest_of [] = 0
greatest_of (run ∷ runs) = max run.greatest (greatest_of runs)

-- the lists one after another
abbrev pub concatenated : {A : Type 0} → List (List A) → List A
concatenated [] = []
concatenated (list ∷ lists) = list ++ concatenated lists

-- one of these runs is this file of this disk; `named` says which disk a number names
abbrev pub IsFileAmong : (ℕ → ℕ) → List Run → ℕ → ℕ → Type 0
IsFileAmong named runs disk file =
    (i : ℕ) × (i < length runs) × (named (run_at runs i).disk ≡ named disk) × ((run_at runs i).file ≡ file)

-- a file that was there is as it was, where the disk tells; and it still does
abbrev pub KeepsFile : Option Files → Option Files → ℕ → Type 0
KeepsFile None None file = ⊤
KeepsFile (Some before) (Some after) file = IsSome (map.get before file) → map.get after file ≡ map.get before file
KeepsFile before after file = ⊥

-- all files that were there are as they were
abbrev pub KeepsAll : (ℕ → Option Files) → (ℕ → Option Files) → Type 0
KeepsAll before after = (disk file : ℕ) → KeepsFile (before disk) (after disk) file

-- a file is as it was, there or not, where the disk tells
abbrev pub SameFile : Option Files → Option Files → ℕ → Type 0
SameFile (Some before) (Some after) file = map.get after file ≡ map.get before file
SameFile before after file = ⊤

-- all files that were there are as they were, but those of these runs
abbrev pub KeepsOthers : (ℕ → ℕ) → (ℕ → Option Files) → (ℕ → Option Files) → List Run → Type 0
KeepsOthers named before after runs =
    (disk file : ℕ) → (IsFileAmong named runs disk file → ⊥) → KeepsFile (before disk) (after disk) file

-- all other files are as before
abbrev pub SameOthers : (ℕ → ℕ) → (ℕ → Option Files) → (ℕ → Option Files) → List Run → Type 0
SameOthers named before after runs =
    (disk file : ℕ) → (IsFileAmong named runs disk file → ⊥) → file_in (after disk) file ≡ file_in (before disk) file
