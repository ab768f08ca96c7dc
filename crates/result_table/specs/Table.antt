-- The bytes of a printed table: rows as csv writes them with default settings.
-- This project's own.
use Rattle.std.specs.Prelude.{◌≡◌, ℕ, ◌-◌, ◌^◌, ◌==◌, ◌&&◌, ◌||◌, false, min, not, List, ◌++◌, length, Vec}
use Rattle.std.specs.Global.{Global}
use Rattle.std.specs.List.{flat_map}
use Rattle.csv.specs.Writing.{default_writer, fields_written, has_written, is_blank, row_body, row_text, writer_pending, writer_setup, writer_under}
use Rattle.csv.specs.declared.writer.Writer.{Writer}

-- rows as csv writes them, one after the other
abbrev pub table : List (List (List ℕ)) → List ℕ
table rows = flat_map (row_text default_writer) rows

-- the text that a writer has put
abbrev pub text_in : Writer (Vec ℕ Global) → List ℕ
text_in writer = (writer_under writer).items ++ writer_pending writer

-- a writer that stands between two rows
pub record IsBetweenRows (writer : Writer (Vec ℕ Global)) : Type 0 where
  pub setup : writer_setup writer ≡ default_writer
  pub fields : fields_written writer ≡ 0
  pub wrote : has_written writer ≡ false

-- a writer that put these fields of a row behind a text, and stands in this row
pub record IsInRow (start : List ℕ) (fields : List (List ℕ)) (writer : Writer (Vec ℕ Global)) : Type 0 where
  pub setup : writer_setup writer ≡ default_writer
  pub count : fields_written writer ≡ min (length fields) (2 ^ 64 - 1)
  pub blank : is_blank default_writer fields
      ≡ (not (has_written writer) && ((length fields == 0) || (length fields == 1)))
  pub text : text_in writer ≡ start ++ row_body default_writer fields

-- these fields were put behind those of the row before them
abbrev pub PutsFields : Writer (Vec ℕ Global) → Writer (Vec ℕ Global) → List (List ℕ) → Type 0
PutsFields before after fields =
    (start : List ℕ) (front : List (List ℕ)) → IsInRow start front before → IsInRow start (front ++ fields) after

-- a writer that put the row of these fields behind a text
pub record EndsRow (start : List ℕ) (fields : List (List ℕ)) (writer : Writer (Vec ℕ Global)) : Type 0 where
  pub text : text_in writer ≡ start ++ row_text default_writer fields
  pub between : IsBetweenRows writer
