-- The copies of evicted blocks: which there are, and what their files have on a disk that tells.
-- This project's own.
use Rattle.std.specs.Prelude.{◌≡◌, ◌<◌, ◌≤◌, ◌^◌, ℕ, Bool, false, ◌==◌, ◌&&◌, not, List, [], ◌∷◌, length, filter, Option, Some, None, ⊤}
use Rattle.std.specs.List.{find, list_any}
use Rattle.std.specs.Option.{option_map, option_and_then}
use Rattle.std.specs.FinMap as map
use Rattle.row_page.specs.Grammar.{HasRows}
use Rattle.row_page.specs.Reading.{rows_of}
use Rattle.spill_disk.specs.Files.{Files}
use Rattle.block_store.specs.declared.block_copy.BlockCopy.{BlockCopy}
use Rattle.block_store.specs.Stores.{Rows}

-- whether it is the copy of the block of this dataset and part
abbrev pub is_copy : ℕ → ℕ → BlockCopy → Bool
is_copy dataset part copy = copy.dataset == dataset && copy.part == part

-- the block's copy, if there is one
abbrev pub copy_at : List BlockCopy → ℕ → ℕ → Option BlockCopy
copy_at copies dataset part = find (is_copy dataset part) copies

-- whether there is a copy of the block
abbrev pub has_copy : List BlockCopy → ℕ → ℕ → Bool
has_copy copies dataset part = list_any (is_copy dataset part) copies

-- whether the file is that of a copy
abbrev pub has_file : List BlockCopy → ℕ → Bool
has_file copies file = list_any (λ copy. copy.file == file) copies

-- the copies but for those of a dataset
abbrev pub of_others : ℕ → List BlockCopy → List BlockCopy
of_others dataset copies = filter (λ copy. not (copy.dataset == dataset)) copies

-- the copies of a dataset
abbrev pub only_of : ℕ → List BlockCopy → List BlockCopy
only_of dataset copies = filter (λ copy. copy.dataset == dataset) copies

-- the rows of the block's copy, on a disk that tells: those of its file's bytes
abbrev pub copy_rows : Option Files → List BlockCopy → ℕ → ℕ → Option Rows
copy_rows None copies dataset part = None
copy_rows (Some files) copies dataset part =
    option_and_then (λ copy. option_map rows_of (map.get files copy.file)) (copy_at copies dataset part)

-- a file is there, with a page's bytes, as many as the copy says
abbrev pub HasPage : Option (List ℕ) → ℕ → Type 0
HasPage None count = ⊥
HasPage (Some bytes) count = (length bytes ≡ count) × ∥ HasRows bytes ∥₁

-- where the disk tells, the copy's file is there, with a page's bytes
abbrev pub IsStored : Option Files → BlockCopy → Type 0
IsStored None copy = ⊤
IsStored (Some files) copy = HasPage (map.get files copy.file) copy.bytes

-- each copy is stored in a file below the next number, with at most 2^40 bytes, as a page's room;
-- no two have one name or one file
abbrev pub AreStored : Option Files → ℕ → List BlockCopy → Type 0
AreStored files next [] = ⊤
AreStored files next (copy ∷ others) =
    (copy.file < next) × (((copy.bytes ≤ 2 ^ 40) × IsStored files copy)
    × ((has_copy others copy.dataset copy.part ≡ false)
    × ((has_file others copy.file ≡ false) × AreStored files next others)))

-- the copies, and for how many more there is room
pub record CopiesView : Type 0 where
  pub list : List BlockCopy
  pub room : ℕ
