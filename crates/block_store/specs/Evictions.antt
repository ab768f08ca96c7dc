-- What the writing of a copy leaves on the disk.
-- This project's own.
use Rattle.std.specs.Prelude.{◌≡◌, ◌⊎◌, ◌<◌, ℕ, Bool, false, ◌==◌, ◌&&◌, List, take, Option, Some, None, ⊤}
use Rattle.std.specs.Option.{option_and_then}
use Rattle.std.specs.FinMap as map
use Rattle.spill_disk.specs.Files.{Files, bytes_of}
use Rattle.block_store.specs.declared.block_copy.BlockCopy.{BlockCopy}
use Rattle.row_page.specs.Spelling.{page_bytes}
use Rattle.block_store.specs.Stores.{Rows}
use Rattle.block_store.specs.Copies.{has_copy, copy_rows}

-- the file of a number, on a disk that tells
abbrev pub file_at : Option Files → ℕ → Option (List ℕ)
file_at files file = option_and_then (λ known. map.get known file) files

-- the file wasn't there; all others are as before
abbrev pub OnlyFile : Files → Files → ℕ → Type 0
OnlyFile before after file =
    (map.get before file ≡ None) × ((other : ℕ) → (other ≡ file → ⊥) → map.get after other ≡ map.get before other)

-- one file was made and has these bytes, and all others are as before
abbrev pub WritesCopy : Option Files → Option Files → ℕ → List ℕ → Type 0
WritesCopy (Some before) (Some after) file bytes = (map.get after file ≡ Some bytes) × OnlyFile before after file
WritesCopy None after file bytes = ⊤
WritesCopy (Some before) None file bytes = ⊥

-- one file was made and has the page's bytes of these rows, and all others are as before
abbrev pub WritesRows : Option Files → Option Files → Option Rows → Type 0
WritesRows before after None = ⊥
WritesRows before after (Some rows) = (file : ℕ) × WritesCopy before after file (page_bytes rows)

-- all files are as before, but for at most one that was begun
abbrev pub BeginsAtMost : Option Files → Option Files → Type 0
BeginsAtMost (Some before) (Some after) = (after ≡ before) ⊎ ((file : ℕ) × OnlyFile before after file)
BeginsAtMost None after = ⊤
BeginsAtMost (Some before) None = ⊥

-- the files below this number are as before
abbrev pub SameBelow : ℕ → Option Files → Option Files → Type 0
SameBelow next before after = (file : ℕ) → file < next → file_at after file ≡ file_at before file

-- the first bytes of a file, on a disk that tells
abbrev pub IsFront : Option Files → ℕ → ℕ → List ℕ → Type 0
IsFront None file count bytes = ⊤
IsFront (Some files) file count bytes = bytes ≡ take count (bytes_of files file)

-- whether the two names are one
abbrev pub is_name : ℕ → ℕ → ℕ → ℕ → Bool
is_name dataset part d p = d == dataset && p == part

-- each other block has a copy where it had one, with the same rows
abbrev pub KeepsOthers : ℕ → ℕ → Option Files → List BlockCopy → Option Files → List BlockCopy → Type 0
KeepsOthers dataset part before old after new =
    (d p : ℕ) → is_name dataset part d p ≡ false →
    (has_copy new d p ≡ has_copy old d p) × (copy_rows after new d p ≡ copy_rows before old d p)

-- each block of another dataset has a copy where it had one, with the same rows
abbrev pub KeepsDatasets : ℕ → Option Files → List BlockCopy → Option Files → List BlockCopy → Type 0
KeepsDatasets dataset before old after new =
    (d p : ℕ) → (d == dataset) ≡ false →
    (has_copy new d p ≡ has_copy old d p) × (copy_rows after new d p ≡ copy_rows before old d p)
