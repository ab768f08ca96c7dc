-- The bytes of rows and pages as functions of their fields, and what they cost, in bytes.
-- This project's own.
use Rattle.std.specs.Prelude.{ℕ, ◌+◌, List, ◌++◌, length, map, sum_by}
use Rattle.std.specs.Int.{w32, to_be_bytes}
use Rattle.std.specs.List.{flat_map}

-- a length as four bytes, the greatest first
unfoldable pub length_bytes : ℕ → List ℕ
length_bytes n = to_be_bytes w32 n

-- a piece behind its length
abbrev pub with_length : List ℕ → List ℕ
with_length piece = length_bytes (length piece) ++ piece

-- the encoding of a row with these fields
abbrev pub row_bytes : List (List ℕ) → List ℕ
row_bytes fields = flat_map with_length fields

-- the bytes of a page with these rows, which are those of a run file too
abbrev pub page_bytes : List (List (List ℕ)) → List ℕ
page_bytes rows = flat_map with_length (map row_bytes rows)

-- the length of the encoding of a row, in bytes
abbrev pub row_length : List (List ℕ) → ℕ
row_length fields = sum_by (λ field. 4 + length field) fields

-- the length of a page's bytes
abbrev pub page_length : List (List (List ℕ)) → ℕ
page_length rows = sum_by (λ row. 4 + row_length row) rows

-- what a page costs as a block in memory, in bytes
abbrev pub page_cost : List (List (List ℕ)) → ℕ
page_cost rows = 64 + sum_by (λ row. 32 + row_length row) rows
