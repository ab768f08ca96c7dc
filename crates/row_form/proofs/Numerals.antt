-- What `parse` reads, by the definition of numbers.
use Rattle.std.proofs.Common.{◌≡◌, ◌<◌, ◌∷◌, [], ℕ, zero, suc, ◌^◌, List, Some, None, Ok, Err, Bool, true, false, length, refl, sym, subst, ◌∙◌, ◌≤◌, inl, inr, arith, ℤ, pos, negsuc, w64, nat_lt, get_or}
use Rattle.std.specs.Prelude.{◌&&◌, ◌==◌, Result}
use Rattle.std.specs.Result.{result_ok}
use Rattle.std.specs.Char.{is_ascii_digit}
use Rattle.std.specs.Int.RustNames.{FitsSigned}
use Rattle.std.specs.Str.{all_ascii_digits, IsAscii, IsUtf8}
use Rattle.std.specs.Str.Parse.{IsNumeral, ParsesSigned, digits_value, signed_digits_value, without_leading_sign}
use Rattle.std.proofs.lemmas.Bool.{cases_Bool, ltb-true, lt-ltb, eqb-true}
use Rattle.std.proofs.lemmas.Bool.Decides.{nat_tests}
use Rattle.std.proofs.lemmas.Option.{same_Some}
use Rattle.std.proofs.lemmas.Str.{IsUtf8-from_ascii}
use Rattle.std.proofs.lemmas.Str.Parse.{IsNumeralModel, digits_value_short, numerals_by_value, tells_all_ascii_digits}
use lib.IntN.{neg_ℤ}
use Rattle.row_form.specs.Numbers.{fits_i64, is_number, number}

model : IsNumeralModel (λ ds. all_ascii_digits ds ≡ true) (digits_value 10)
model = numerals_by_value (λ ds. all_ascii_digits ds ≡ true) tells_all_ascii_digits

fits-to : (z : ℤ) → fits_i64 z ≡ true → FitsSigned w64 z
fits-to (pos n) e = record { sfits = ltb-true n (2 ^ 63) e }
fits-to (negsuc n) e = record { sfits = ltb-true n (2 ^ 63) e }

fits-from : (z : ℤ) → FitsSigned w64 z → fits_i64 z ≡ true
fits-from (pos n) h = lt-ltb n (2 ^ 63) h.sfits
fits-from (negsuc n) h = lt-ltb n (2 ^ 63) h.sfits

and-three : (a b c : Bool) → a ≡ true → b ≡ true → c ≡ true → (a && b && c) ≡ true
and-three true true true e f g = refl
and-three false b c e f g = cc e
and-three true false c e f g = cc f
and-three true true false e f g = cc g

and-parts : (a b c : Bool) → (a && b && c) ≡ true → (a ≡ true) × (b ≡ true) × (c ≡ true)
and-parts true true true e = (refl, refl, refl)
and-parts false true c e = cc e
and-parts false false c e = cc e
and-parts true false c e = cc e
and-parts true true false e = cc e

and-both : (a b : Bool) → (a && b) ≡ true → (a ≡ true) × (b ≡ true)
and-both true true e = (refl, refl)
and-both false b e = cc e
and-both true false e = cc e

number-parts : (bs : List ℕ) → is_number bs ≡ true → IsNumeral 10 (without_leading_sign bs) × FitsSigned w64 (signed_digits_value 10 bs)
number-parts bs e =
    let p = and-parts (nat_lt 0 (length (without_leading_sign bs))) (all_ascii_digits (without_leading_sign bs)) (fits_i64 (signed_digits_value 10 bs)) e in
    ((ltb-true 0 (length (without_leading_sign bs)) p.0, model.to (without_leading_sign bs) p.1), fits-to (signed_digits_value 10 bs) p.2)

number-from : (bs : List ℕ) → IsNumeral 10 (without_leading_sign bs) × FitsSigned w64 (signed_digits_value 10 bs) → is_number bs ≡ true
number-from bs h = and-three _ _ _ (lt-ltb 0 (length (without_leading_sign bs)) h.0.0) (model.from (without_leading_sign bs) h.0.1) (fits-from (signed_digits_value 10 bs) h.1)

not-true : (b : Bool) → (b ≡ true → ⊥) → b ≡ false
not-true true n = absurd (n refl)
not-true false n = refl

-- a parse gives the number that the text spells
pub parses : {E : Type 0} (bs : List ℕ) (r : Result ℤ E) → ParsesSigned w64 10 bs r → result_ok r ≡ number bs
parses bs (Ok x) h = rw (number-from bs h.0, h.1) refl
parses bs (Err e) h = rw (not-true (is_number bs) (λ t. h (number-parts bs t))) refl

-- a digit is below 128
digit-low : (c : ℕ) → is_ascii_digit c ≡ true → c < 128
digit-low c e = grind (arith, nat_tests)

digits-ascii : (ds : List ℕ) → all_ascii_digits ds ≡ true → (i : ℕ) → get_or ds i 0 < 128
digits-ascii [] e i = omega arith
digits-ascii (c ∷ cs) e zero = digit-low c (and-both _ _ e).0
digits-ascii (c ∷ cs) e (suc i) = digits-ascii cs (and-both _ _ e).1 i

signed-ascii : (c : ℕ) (cs : List ℕ) → all_ascii_digits (without_leading_sign (c ∷ cs)) ≡ true → IsAscii (c ∷ cs)
signed-ascii c cs e = elim (cases_Bool (c == 45)) [
  | inl minus ↦ first (eqb-true c 45 minus) (rw minus at e)
  | inr other ↦ elim (cases_Bool (c == 43)) [
    | inl plus ↦ first-plus (eqb-true c 43 plus) (rw (other, plus) at e)
    | inr none ↦ digits-ascii (c ∷ cs) (rw (other, none) at e)
  ]
]
  where
    rest : c < 128 → all_ascii_digits cs ≡ true → (i : ℕ) → get_or (c ∷ cs) i 0 < 128
    rest low d zero = low
    rest low d (suc i) = digits-ascii cs d i

    first : c ≡ 45 → all_ascii_digits cs ≡ true → (i : ℕ) → get_or (c ∷ cs) i 0 < 128
    first s d = rest (omega arith) d

    first-plus : c ≡ 43 → all_ascii_digits cs ≡ true → (i : ℕ) → get_or (c ∷ cs) i 0 < 128
    first-plus s d = rest (omega arith) d

number-ascii : (bs : List ℕ) → is_number bs ≡ true → IsAscii bs
number-ascii [] e = λ i. omega arith
number-ascii (c ∷ cs) e = signed-ascii c cs (and-parts _ _ _ e).1

-- what is no text spells no number
pub no-text : (bs : List ℕ) → (IsUtf8 bs → ⊥) → None ≡ number bs
no-text bs n = rw (not-true (is_number bs) (λ e. n (IsUtf8-from_ascii bs (number-ascii bs e)))) refl

-- so small a number is in range behind a minus too
neg-fits : (n : ℕ) → n < 2 ^ 63 → fits_i64 (neg_ℤ (pos n)) ≡ true
neg-fits zero low = refl
neg-fits (suc n) low = lt-ltb n (2 ^ 63) (omega (arith, low))

-- a sign and so small a number are in range
signed-fits : (bs : List ℕ) → digits_value 10 (without_leading_sign bs) < 2 ^ 63 → fits_i64 (signed_digits_value 10 bs) ≡ true
signed-fits [] low = refl
signed-fits (c ∷ cs) low = elim (cases_Bool (c == 45)) [
  | inl minus ↦ rw minus (neg-fits (digits_value 10 cs) (rw minus at low))
  | inr other ↦ rw other (lt-ltb _ (2 ^ 63) (rw other at low))
]

-- up to 18 digits, and at least one, are a number exactly where all are digits
pub short_fits : (bs : List ℕ) → 0 < length (without_leading_sign bs) → length (without_leading_sign bs) ≤ 18 → all_ascii_digits (without_leading_sign bs) ≡ is_number bs
short_fits bs some few = elim (cases_Bool (all_ascii_digits (without_leading_sign bs))) [
  | inl are ↦
      let short = digits_value_short model (without_leading_sign bs) 18 are few in
      are ∙ sym (and-three _ _ _ (lt-ltb 0 (length (without_leading_sign bs)) some) are (signed-fits bs (omega (arith, short))))
  | inr not ↦
      let no : is_number bs ≡ true → ⊥ = λ e. let are = (and-parts (nat_lt 0 (length (without_leading_sign bs))) (all_ascii_digits (without_leading_sign bs)) (fits_i64 (signed_digits_value 10 bs)) e).1 in cc (not, are) in
      not ∙ sym (not-true (is_number bs) no)
]

-- what a field's number is has a place in 64 bits
pub number_fits : (bs : List ℕ) (z : ℤ) → number bs ≡ Some z → FitsSigned w64 z
number_fits bs z is = elim (cases_Bool (is_number bs)) [
  | inl here ↦ subst (FitsSigned w64) (same_Some _ z (rw here at is)) (number-parts bs here).1
  | inr past ↦ absurd (let none = rw past at is in cc none)
]
