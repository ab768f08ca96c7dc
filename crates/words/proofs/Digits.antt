-- A text that `parse` refuses is no number of a range within 64 bits.
use Rattle.std.proofs.Common.{◌≡◌, ◌<◌, ◌≤◌, ◌^◌, ℕ, Bool, cond, true, false, refl, List, length, Some, None, Err, arith, nat_lt, nat_le, ltb-true, rules}
use Rattle.std.proofs.lemmas.Bool.{leb-true}
use Rattle.std.specs.List.{list_all}
use Rattle.std.specs.Char.{is_ascii_digit}
use Rattle.std.specs.Str.Parse.{ParsesUnsigned, digits_value}
use Rattle.std.proofs.lemmas.Str.Parse.{IsNumeralModel, numerals_by_value, parse_digits}
use Rattle.clap.proofs.WalkLemmas.{both}
use Rattle.words.specs.Numbers.{is_decimal, is_number}

own : IsNumeralModel (λ ds. list_all is_ascii_digit ds ≡ true) (digits_value 10)
own = numerals_by_value (λ ds. list_all is_ascii_digit ds ≡ true) (search rules)

pub refused_number : {E : Type 0} (text : List ℕ) (least greatest : ℕ) (e : E) → greatest < 2 ^ 64 → ParsesUnsigned 64 10 text (Err e)
    → None ≡ cond (is_number least greatest text) (Some (digits_value 10 text)) None
refused_number text least greatest e fits h = go (is_number least greatest text) refl
  where
    go : (b : Bool) → is_number least greatest text ≡ b → None ≡ cond b (Some (digits_value 10 text)) None
    go false t = refl
    go true t =
        let outer = both (is_decimal text) _ t in
        let decimal = both (nat_lt 0 (length text)) _ outer.0 in
        let digits = (both (nat_le (length text) 20) _ decimal.1).1 in
        let most : digits_value 10 text ≤ greatest = leb-true (digits_value 10 text) greatest (both (nat_le least (digits_value 10 text)) _ outer.1).1 in
        absurd (parse_digits own 64 text (Err e) h digits (ltb-true 0 (length text) decimal.0, omega arith))
