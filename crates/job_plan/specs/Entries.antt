-- The key and the value that a query makes of a landed row.
-- This project's own.
use Rattle.std.specs.Prelude.{ℕ, ◌+◌, List, [], ◌++◌, Option, Some, None, drop, length, map, sum_by, unwrap_or, slice_index_or, ℤ, pos, if◌then◌else◌}
use Rattle.std.specs.List.{flat_map}
use Rattle.aggregate.specs.Partial.{partial_of}
use Rattle.aggregate.specs.Spelling.{number_spelling, spelled, spelling}
use Rattle.aggregate.specs.Totals.{Entry}
use Rattle.aggregate.specs.declared.kind.Kind.{Kind}
use Rattle.aggregate.specs.declared.kind.Kind.TheVariants as kinds
use Rattle.row_page.specs.Spelling.{row_bytes}
use Rattle.row_form.specs.Numbers.{number}
use Rattle.job_text.specs.declared.job.KeyItem.{KeyItem}
use Rattle.job_text.specs.declared.job.Shape.{Shape}
use Rattle.job_text.specs.declared.job.Shape.TheVariants.{Group, Order}

-- the field of a kept column, behind the row's number
abbrev pub field : List (List ℕ) → ℕ → List ℕ
field row k = slice_index_or row (k + 1) []

-- the number that it is; 0 where it is none
abbrev pub number_in : List (List ℕ) → ℕ → ℤ
number_in row k = unwrap_or (number (field row k)) (pos 0)

-- what a row adds to an aggregate: the field's number, none where it is none, or 1 where rows are counted
abbrev pub told_by : List (List ℕ) → Option ℕ → Option ℤ
told_by row None = Some (pos 1)
told_by row (Some k) = number (field row k)

-- a field or a number as a key has it
abbrev pub item_bytes : List (List ℕ) → KeyItem → List ℕ
item_bytes row item =
    if item.number then number_spelling (number_in row item.column) item.down else spelling (field row item.column) item.down

-- the key that a shape over kept columns makes: the groups' fields, or the keys of the order and the row's number
unfoldable pub key_of : Shape → List (List ℕ) → List ℕ
key_of (Group columns parts) row = flat_map (λ k. spelled (field row k)) columns
key_of (Order keys columns) row = flat_map (item_bytes row) keys ++ slice_index_or row 0 []

-- its value: a partial value for each aggregate, or the encoding of the columns that are told
unfoldable pub value_of : Shape → List (List ℕ) → List ℕ
value_of (Group columns parts) row = flat_map (λ part. partial_of (told_by row part.column)) parts
value_of (Order keys columns) row = row_bytes (map (field row) columns)

-- the entry
abbrev pub entry_of : Shape → List (List ℕ) → Entry
entry_of shape row = record { key = key_of shape row; value = value_of shape row }

-- how a shape's entries are combined
abbrev pub kind_of : Shape → Kind
kind_of (Group columns parts) = kinds.Group (map (λ part. part.agg) parts)
kind_of (Order keys columns) = kinds.Order

-- the bytes of a landed row's fields, without its number
abbrev pub field_bytes : List (List ℕ) → ℕ
field_bytes row = sum_by length (drop 1 row)
