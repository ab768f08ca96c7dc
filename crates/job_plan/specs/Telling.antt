-- What an entry tells: the row of a table that its key and its value are.
-- This project's own.
use Rattle.std.specs.Prelude.{◌≡◌, ℕ, zero, suc, ◌*◌, not, false, Bool, List, [], ◌∷◌, ◌++◌, Option, Some, None, drop, length, map, ℤ}
use Rattle.std.specs.Fmt.{signed_decimal}
use Rattle.std.specs.List.{flat_map, list_any, range_with_len}
use Rattle.aggregate.specs.Partial.{fits_i64, partial_at, slot_bytes}
use Rattle.aggregate.specs.Spelling.{spelled, unspelled}
use Rattle.aggregate.specs.Totals.{Entry}
use Rattle.row_page.specs.Grammar.{IsRow}
use Rattle.row_page.specs.Reading.{fields_of}
use Rattle.job_text.specs.declared.job.Shape.{Shape}
use Rattle.job_text.specs.declared.job.Shape.TheVariants.{Group, Order}
use Rattle.job_plan.specs.Columns.{Fields}

-- a field that a key begins with, in front of those behind it
abbrev pub field_before : Option (List ℕ × ℕ) → (ℕ → Fields) → Fields
field_before None behind = []
field_before (Some found) behind = found.0 ∷ behind found.1

-- the first fields of which a key is the spelling, so many of them
unfoldable pub key_fields : ℕ → List ℕ → Fields
key_fields zero key = []
key_fields (suc n) key = field_before (unspelled key) (λ size. key_fields n (drop size key))

-- the partial values of a group's value, so many of them
abbrev pub value_partials : ℕ → List ℕ → List (Option ℤ)
value_partials count value = map (λ place. partial_at place value) (range_with_len 0 count)

-- the field that tells one: its decimal, or nothing where it is missing
abbrev pub told_field : Option ℤ → List ℕ
told_field None = []
told_field (Some n) = signed_decimal n

-- the row of the table: the group's fields and what is told of its value, or the columns of an ordered row
abbrev pub row_of : Shape → Entry → Fields
row_of (Group columns parts) entry =
    key_fields (length columns) entry.key ++ map told_field (value_partials (length parts) entry.value)
row_of (Order keys columns) entry = fields_of entry.value

-- whether a partial value is a number that leaves `i64`
abbrev pub leaves_i64 : Option ℤ → Bool
leaves_i64 None = false
leaves_i64 (Some n) = not (fits_i64 n)

-- one of a group's numbers leaves `i64`
abbrev pub is_wide : ℕ → Entry → Bool
is_wide count entry = list_any leaves_i64 (value_partials count entry.value)

-- a group's entry: its key spells so many fields, and its value is as long as so many partial values, no number of which leaves `i64`
pub record IsGroupEntry (columns count : ℕ) (entry : Entry) : Type 0 where
  pub fields : Fields
  pub several : length fields ≡ columns
  pub key : entry.key ≡ flat_map spelled fields
  pub value : length entry.value ≡ slot_bytes * count
  pub narrow : is_wide count entry ≡ false

-- an ordered row's entry: its value is the encoding of so many fields
pub record IsOrderEntry (columns : ℕ) (entry : Entry) : Type 0 where
  pub fields : Fields
  pub several : length fields ≡ columns
  pub value : IsRow entry.value fields

-- an entry that can be told as a row of the shape's table
abbrev pub IsTold : Shape → Entry → Type 0
IsTold (Group columns parts) entry = IsGroupEntry (length columns) (length parts) entry
IsTold (Order keys columns) entry = IsOrderEntry (length columns) entry
