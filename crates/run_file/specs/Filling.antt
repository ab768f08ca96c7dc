-- How what is kept of a file is filled up, and what stands at its front.
-- This project's own.
use Rattle.std.specs.Prelude.{◌≡◌, ◌+◌, ◌++◌, ℕ, List, length, take, drop, Option, Some, None, ⊤}
use Rattle.spill_disk.specs.Files.{Files, bytes_of, read_of}
use Rattle.row_page.specs.Grammar.{IsPieceThen, IsRow}
use Rattle.run_file.specs.declared.run.Run.{Run}
use Rattle.row_form.specs.declared.form.Form.{Form}
use Rattle.row_form.specs.Forms.{IsWellFormed}
use Rattle.run_file.specs.Readers.{ReaderView, most_kept}

-- the bytes of a well-formed row stand at the front, behind their length; so many bytes they are
pub record BeginsRow (form : Form) (greatest : ℕ) (bytes : List ℕ) (size : ℕ) : Type 0 where
  pub piece : List ℕ
  pub behind : List ℕ
  pub row : List (List ℕ)
  pub front : IsPieceThen bytes piece behind
  pub size_is : length piece ≡ size
  pub is : IsRow piece row
  pub formed : IsWellFormed form greatest row

-- a reader went on to the row that stands at the front
pub record TakesAhead (before after : ReaderView) : Type 0 where
  pub size : ℕ
  pub begins : BeginsRow before.form before.run.greatest before.kept.rest size
  pub row : after.kept.row ≡ take size (drop 4 before.kept.rest)
  pub rest : after.kept.rest ≡ drop (4 + size) before.kept.rest
  pub at : after.kept.at ≡ before.kept.at

-- some piece stands at the front
abbrev pub BeginsPiece : List ℕ → Type 0
BeginsPiece bytes = (piece behind : List ℕ) × IsPieceThen bytes piece behind

-- these bytes are the front of those: enough for a whole piece, or for each row of the run
pub data ShowsFront (run : Run) (front all : List ℕ) : Type 0 where
  has_piece : (more : List ℕ) → all ≡ front ++ more → BeginsPiece front → ShowsFront run front all
  is_full : front ≡ take (most_kept run) all → ShowsFront run front all

-- so many bytes were read of a file, behind `before`, where the disk tells
abbrev pub ReadsMore : Option Files → ℕ → ℕ → ℕ → List ℕ → List ℕ → Type 0
ReadsMore None file place wanted before after = ⊤
ReadsMore (Some files) file place wanted before after = after ≡ before ++ read_of (bytes_of files file) place wanted
