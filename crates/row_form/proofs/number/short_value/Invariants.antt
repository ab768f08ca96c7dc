use Rattle.std.proofs.Common.{◌≡◌, ◌≤◌, ℕ, List, drop}
use Rattle.std.specs.Str.{all_ascii_digits}
use Rattle.std.specs.Str.Parse.{digits_value, digits_value_after}
use Rattle.row_form.proofs.number.short_value.Given as goal

-- the value of the digits that were read, and what it makes with those that are left
pub record IsRead (digits : List ℕ) (value count : ℕ) : Type 0 where
  pub fits : value ≤ 9223372036854775799
  pub spells : digits_value_after 10 value (drop count digits) ≡ digits_value 10 digits
  pub are : all_ascii_digits (drop count digits) ≡ all_ascii_digits digits

abbrev pub invariant-loop-byte : goal.invariant-loop-byte
invariant-loop-byte l = IsRead l.digits l.value l.byte-index
