-- Rows as entries, and as what stands on a page.
-- This project's own.
use Rattle.std.specs.Prelude.{◌≡◌, ℕ, ◌≤◌, List, [], ◌∷◌, map, take}
use Rattle.aggregate.specs.Totals.{Entry}
use Rattle.spill_tests.specs.declared.row.Row.{Row}

-- the entry that is kept as a row
abbrev pub entry_of_row : Row → Entry
entry_of_row row = record { key = row.key.items; value = row.value.items }

-- the entries that are kept as rows
abbrev pub entries_of_rows : List Row → List Entry
entries_of_rows rows = map entry_of_row rows

-- the fields that a row has on a page
abbrev pub fields_of_row : Row → List (List ℕ)
fields_of_row row = row.key.items ∷ (row.value.items ∷ [])

-- a page has the first rows, so many and some
pub record Puts (rows : List Row) (most count : ℕ) (page : List (List (List ℕ))) : Type 0 where
  pub some : 1 ≤ count
  pub most_fits : count ≤ most
  pub are : page ≡ map fields_of_row (take count rows)
