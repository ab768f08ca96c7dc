-- Decimals as fields: they call for no quotes, and they are the numbers that they spell.
use Rattle.std.proofs.Common.{◌≡◌, ℕ, suc, ◌<◌, ◌^◌, ◌∙◌, Bool, true, false, List, [], ◌∷◌, ◌++◌, length, codes, Some, ℤ, pos, negsuc, neg_ℤ, unsigned_abs, refl, ap, arith}
use Rattle.std.specs.Prelude.{◌==◌, ◌&&◌, nat_lt}
use Rattle.std.specs.Char.{is_ascii_digit}
use Rattle.std.specs.Fmt.{decimal, signed_decimal}
use Rattle.std.specs.List.{list_any}
use Rattle.std.specs.Str.{all_ascii_digits}
use Rattle.std.specs.Str.Parse.{digits_value, signed_digits_value, without_leading_sign}
use Rattle.std.proofs.lemmas.Bool.{and_parts, lt-ltb, ltb-true}
use Rattle.std.proofs.lemmas.Fmt.{decimal_nonempty, digits_decimal, digits_value-decimal}
use Rattle.std.proofs.lemmas.Int.{ints}
use Rattle.std.proofs.lemmas.Str.Parse.{IsNumeralModel, numerals_by_value, tells_all_ascii_digits}
use Rattle.csv.specs.Writing.{default_writer, needs_byte}
use Rattle.row_form.specs.Numbers.{fits_i64, is_number, number}

model : IsNumeralModel (λ ds. all_ascii_digits ds ≡ true) (digits_value 10)
model = numerals_by_value (λ ds. all_ascii_digits ds ≡ true) tells_all_ascii_digits

-- ---- quotes

-- no byte of the field calls for quotes
abbrev pub IsPlain : List ℕ → Type 0
IsPlain field = list_any (needs_byte default_writer) field ≡ false

digit-plain : (d : ℕ) → is_ascii_digit d ≡ true → needs_byte default_writer d ≡ false
digit-plain d h = grind arith

digits-plain : (ds : List ℕ) → all_ascii_digits ds ≡ true → IsPlain ds
digits-plain [] h = refl
digits-plain (d ∷ ds) h =
    let both = and_parts (is_ascii_digit d) (all_ascii_digits ds) h in
    rw (digit-plain d both.0) (digits-plain ds both.1)

pub decimal-plain : (n : ℕ) → n < 2 ^ 64 → IsPlain (decimal n)
decimal-plain n small = digits-plain (decimal n) (digits_decimal model n small)

pub key-plain : (n : ℕ) → n < 2 ^ 64 → IsPlain (codes "k" ++ decimal n)
key-plain n small = decimal-plain n small

pub signed-plain : (z : ℤ) → fits_i64 z ≡ true → IsPlain (signed_decimal z)
signed-plain (pos n) fits = decimal-plain n (omega (arith, ltb-true n (2 ^ 63) fits))
signed-plain (negsuc n) fits = decimal-plain (suc n) (omega (arith, ltb-true n (2 ^ 63) fits))

-- ---- numbers

pub small-fits : (z : ℤ) → unsigned_abs z < 2 ^ 63 → fits_i64 z ≡ true
small-fits (pos n) small = lt-ltb n (2 ^ 63) (omega (arith, ints))
small-fits (negsuc n) small = lt-ltb n (2 ^ 63) (omega (arith, ints))

no_minus : (d : ℕ) → is_ascii_digit d ≡ true → (d == 45) ≡ false
no_minus d h = grind arith

no_plus : (d : ℕ) → is_ascii_digit d ≡ true → (d == 43) ≡ false
no_plus d h = grind arith

all_three : (a b c : Bool) → a ≡ true → b ≡ true → c ≡ true → (a && b && c) ≡ true
all_three a b c e f g = rw (e, f, g) refl

-- a field is a number, and it is this one
pub record Spells (field : List ℕ) (value : ℤ) : Type 0 where
  pub is : is_number field ≡ true
  pub number : number field ≡ Some value

spells : (field : List ℕ) (value : ℤ) → is_number field ≡ true → signed_digits_value 10 field ≡ value → Spells field value
spells field value e v = record { is = e; number = rw e (ap (λ (z : ℤ). Some z) v) }

plain_number : (d : ℕ) (ds : List ℕ) (n : ℕ) → all_ascii_digits (d ∷ ds) ≡ true → digits_value 10 (d ∷ ds) ≡ n → nat_lt n (2 ^ 63) ≡ true → Spells (d ∷ ds) (pos n)
plain_number d ds n h v fits =
    let all : List ℕ = d ∷ ds in
    let digit = (and_parts (is_ascii_digit d) (all_ascii_digits ds) h).0 in
    let plain : without_leading_sign all ≡ all = rw (no_minus d digit, no_plus d digit) refl in
    let value : signed_digits_value 10 all ≡ pos n = rw (no_minus d digit, no_plus d digit) (ap (λ (k : ℕ). pos k) v) in
    spells all (pos n)
    (all_three (nat_lt 0 (length (without_leading_sign all))) (all_ascii_digits (without_leading_sign all)) (fits_i64 (signed_digits_value 10 all))
    (ap (λ (l : List ℕ). nat_lt 0 (length l)) plain ∙ lt-ltb 0 (length all) (omega arith)) (ap all_ascii_digits plain ∙ h) (ap fits_i64 value ∙ fits)) value

minus_number : (d : ℕ) (ds : List ℕ) (n : ℕ) → all_ascii_digits (d ∷ ds) ≡ true → digits_value 10 (d ∷ ds) ≡ suc n → nat_lt n (2 ^ 63) ≡ true → Spells (45 ∷ d ∷ ds) (negsuc n)
minus_number d ds n h v fits =
    let all : List ℕ = d ∷ ds in
    let value : signed_digits_value 10 (45 ∷ all) ≡ negsuc n = ap (λ (k : ℕ). neg_ℤ (pos k)) v in
    spells (45 ∷ all) (negsuc n)
    (all_three (nat_lt 0 (length all)) (all_ascii_digits all) (fits_i64 (signed_digits_value 10 (45 ∷ all))) (lt-ltb 0 (length all) (omega arith)) h (ap fits_i64 value ∙ fits)) value

pos-spells : (n : ℕ) (ds : List ℕ) → ds ≡ decimal n → nat_lt n (2 ^ 63) ≡ true → Spells ds (pos n)
pos-spells n [] e fits = absurd (omega (arith, decimal_nonempty n (omega (arith, ltb-true n (2 ^ 63) fits)), ap length e))
pos-spells n (d ∷ ds) e fits =
    let small : n < 2 ^ 64 = omega (arith, ltb-true n (2 ^ 63) fits) in
    plain_number d ds n (ap all_ascii_digits e ∙ digits_decimal model n small) (ap (digits_value 10) e ∙ digits_value-decimal model n small) fits

neg-spells : (n : ℕ) (ds : List ℕ) → ds ≡ decimal (suc n) → nat_lt n (2 ^ 63) ≡ true → Spells (45 ∷ ds) (negsuc n)
neg-spells n [] e fits = absurd (omega (arith, decimal_nonempty (suc n) (omega (arith, ltb-true n (2 ^ 63) fits)), ap length e))
neg-spells n (d ∷ ds) e fits =
    let small : suc n < 2 ^ 64 = omega (arith, ltb-true n (2 ^ 63) fits) in
    minus_number d ds n (ap all_ascii_digits e ∙ digits_decimal model (suc n) small) (ap (digits_value 10) e ∙ digits_value-decimal model (suc n) small) fits

pub signed-spells : (z : ℤ) → fits_i64 z ≡ true → Spells (signed_decimal z) z
signed-spells (pos n) fits = pos-spells n (decimal n) refl fits
signed-spells (negsuc n) fits = neg-spells n (decimal (suc n)) refl fits
