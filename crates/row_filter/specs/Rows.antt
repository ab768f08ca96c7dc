-- The landed rows that a filter keeps: a row has its number of 8 bytes first, then the kept columns.
-- This project's own.
use Rattle.std.specs.Prelude.{◌≡◌, ℕ, ◌+◌, ◌<◌, All, Bool, List, [], ◌∷◌, ◌++◌, slice_index_or}
use Rattle.std.specs.List.{filter}
use Rattle.row_page.specs.Pages.{PageView}
use Rattle.row_page.specs.Spelling.{page_length, row_length}
use Rattle.row_filter.specs.declared.filter.Filter.{Filter}
use Rattle.row_filter.specs.Meaning.{columns_of, keeps}

-- the field of a kept column, behind the row's number
abbrev pub column_in : List (List ℕ) → ℕ → List ℕ
column_in row column = slice_index_or row (column + 1) []

-- each column of the filter's tests is a kept column of a row of so many fields
abbrev pub HasTestedColumns : ℕ → Filter → Type 0
HasTestedColumns fields filter = All (λ column. column + 1 < fields) (columns_of filter)

-- whether a filter keeps a landed row
abbrev pub keeps_row : Filter → List (List ℕ) → Bool
keeps_row filter row = keeps (column_in row) filter

-- of landed rows those that a filter keeps, in their order
abbrev pub kept_rows : Filter → List (List (List ℕ)) → List (List (List ℕ))
kept_rows kept = filter (keeps_row kept)

-- the page took rows from the front of these, and no others
abbrev pub TakesFront : PageView → PageView → List (List (List ℕ)) → Type 0
TakesFront old new rows =
    (taken left : List (List (List ℕ))) × (rows ≡ taken ++ left) × (new ≡ record old { rows = old.rows ++ taken })

-- the page took rows from the front of these until the next one would have passed its room
abbrev pub TakesWhatFits : PageView → PageView → List (List (List ℕ)) → Type 0
TakesWhatFits old new rows =
    (taken left : List (List (List ℕ))) × (next : List (List ℕ)) × (rows ≡ taken ++ next ∷ left)
    × (new ≡ record old { rows = old.rows ++ taken }) × (new.room < page_length new.rows + (4 + row_length next))
