-- Which rows a reader takes: entries of a query, or landed rows.
-- This project's own.
use Rattle.std.specs.Prelude.{◌≡◌, ℕ, ◌+◌, ◌<◌, ◌≤◌, Bool, true, false, IsTrue, List, [], length, slice_index_or, All}
use Rattle.row_page.specs.Grammar.{ArePieces, IsRow}
use Rattle.row_page.specs.Spelling.{row_length}
pub use Rattle.aggregate.specs.Values.{IsValueOf}
use Rattle.row_form.specs.Numbers.{may_be}
use Rattle.row_form.specs.declared.number_list.NumberPlace.{NumberPlace}
use Rattle.row_form.specs.declared.form.Form.{Form}
use Rattle.row_form.specs.declared.form.Form.TheVariants.{Entries, Landed}

-- whether a form is one of landed rows
abbrev pub is_landed : Form → Bool
is_landed (Landed columns numbers) = true
is_landed (Entries kind) = false

-- how many columns landed rows have beside their number
abbrev pub columns_of : Form → ℕ
columns_of (Landed columns numbers) = columns
columns_of (Entries kind) = 0

-- the place is one of the kept columns, and the field there, behind the row's number, may stand where numbers do
abbrev pub IsNumberAt : ℕ → List (List ℕ) → NumberPlace → Type 0
IsNumberAt columns row place = (place.column < columns) × IsTrue (may_be place (slice_index_or row (place.column + 1) []))

-- the fields are those of the form: a key and a value, or a number of 8 bytes and the kept columns
abbrev pub HasForm : Form → List (List ℕ) → Type 0
HasForm (Entries kind) row = (length row ≡ 2) × IsValueOf kind (slice_index_or row 1 [])
HasForm (Landed columns numbers) row =
    (length row ≡ columns + 1) × (length (slice_index_or row 0 []) ≡ 8) × All (IsNumberAt columns row) numbers

-- the row is well formed for the form, and costs at most so much
pub record IsWellFormed (form : Form) (greatest : ℕ) (row : List (List ℕ)) : Type 0 where
  pub has_form : HasForm form row
  pub cost : 24 + row_length row ≤ greatest

-- the bytes are those of a row whose fields are of the form
abbrev pub IsOfForm : Form → List ℕ → Type 0
IsOfForm form bytes = (row : List (List ℕ)) × ArePieces bytes row × HasForm form row

-- the bytes are those of a row that is well formed for the form, and costs at most so much
abbrev pub IsFormed : Form → ℕ → List ℕ → Type 0
IsFormed form greatest bytes = (row : List (List ℕ)) × IsRow bytes row × IsWellFormed form greatest row
