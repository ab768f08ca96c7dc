-- Which fields are numbers, decimal and of 64 bits, and which may stand where numbers do.
-- This project's own.
use Rattle.std.specs.Prelude.{ℕ, ◌&&◌, ◌||◌, ◌==◌, Bool, List, Option, Some, None, length, if◌then◌else◌, ℤ, nat_lt}
use Rattle.std.specs.Str.{all_ascii_digits}
use Rattle.std.specs.Str.Parse.{signed_digits_value, without_leading_sign}
pub use Rattle.aggregate.specs.Partial.{fits_i64}
use Rattle.row_form.specs.declared.number_list.NumberPlace.{NumberPlace}

-- whether a field is a number: an optional sign, then one ASCII digit or more, in the range of `i64`
abbrev pub is_number : List ℕ → Bool
is_number field =
    nat_lt 0 (length (without_leading_sign field)) && all_ascii_digits (without_leading_sign field)
    && fits_i64 (signed_digits_value 10 field)

-- the number that a field is
abbrev pub number : List ℕ → Option ℤ
number field = if is_number field then Some (signed_digits_value 10 field) else None

-- whether a field may stand in a number column: it is a number, or it is empty and the column is a value column
abbrev pub may_be : NumberPlace → List ℕ → Bool
may_be place field = is_number field || (place.value && length field == 0)
