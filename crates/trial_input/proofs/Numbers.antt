-- The rows of a trial: their fields are plain and short, and their prices are small numbers.
use Rattle.std.proofs.Common.{◌≡◌, ℕ, ◌/◌, ◌%◌, ◌<◌, ◌≤◌, ◌^◌, ◌∙◌, true, List, [], ◌∷◌, ◌++◌, length, codes, map, ℤ, pos, negsuc, unsigned_abs, refl, sym, ap, arith}
use Rattle.std.specs.Prelude.{◌-ℤ◌}
use Rattle.std.specs.Fmt.{decimal, signed_decimal}
use Rattle.std.specs.List.{flat_map}
use Rattle.std.proofs.lemmas.Fmt.{length-decimal-le, length_signed_le}
use Rattle.std.proofs.lemmas.Int.{ints}
use Rattle.csv.specs.Writing.{default_writer, row_text}
use Rattle.row_form.specs.Numbers.{fits_i64}
use Rattle.job_answer.specs.Output.{text_of}
use Rattle.trial_input.specs.Generator.{key_of, line_of, price_of, row_of}
use Rattle.trial_input.proofs.Decimals.{IsPlain, Spells, key-plain, signed-plain, signed-spells, small-fits}
use Rattle.trial_input.proofs.ReadBack.{two_fields}

-- ---- a row's fields

less_thousand : (m : ℕ) → m ≤ 2000 → unsigned_abs (pos m -ℤ pos 1000) ≤ 1000
less_thousand m few = omega (arith, ints)

pub price-small : (number : ℕ) → unsigned_abs (price_of number) ≤ 1000
price-small number = less_thousand (number / 2 ^ 40 % 2001) (omega arith)

pub price-fits : (number : ℕ) → fits_i64 (price_of number) ≡ true
price-fits number = small-fits (price_of number) (omega (arith, price-small number))

pub price-spelled : (number : ℕ) → Spells (signed_decimal (price_of number)) (price_of number)
price-spelled number = signed-spells (price_of number) (price-fits number)

key-short : (n : ℕ) → n < 1000 → length (codes "k" ++ decimal n) ≤ 4
key-short n few = omega (arith, length-decimal-le 3 n (omega arith) few (omega arith))

pub key-within : (number : ℕ) → length (key_of number) ≤ 4
key-within number = key-short (number / 2 ^ 33 % 1000) (omega arith)

signed-short : (z : ℤ) → unsigned_abs z ≤ 1000 → length (signed_decimal z) ≤ 5
signed-short (pos n) small = length_signed_le 4 (pos n) (omega (arith, small)) (omega (arith, small))
signed-short (negsuc n) small = length_signed_le 4 (negsuc n) (omega (arith, small)) (omega (arith, small))

pub price-within : (number : ℕ) → length (signed_decimal (price_of number)) ≤ 5
price-within number = signed-short (price_of number) (price-small number)

-- ---- its line is its text as csv writes it

small-plain : (n : ℕ) → n < 1000 → IsPlain (codes "k" ++ decimal n)
small-plain n few = key-plain n (omega arith)

line-text : (number : ℕ) → line_of number ≡ row_text default_writer (row_of number)
line-text number =
    let key : IsPlain (key_of number) = small-plain (number / 2 ^ 33 % 1000) (omega arith) in
    let price : IsPlain (signed_decimal (price_of number)) = signed-plain (price_of number) (price-fits number) in
    sym (two_fields (key_of number) (signed_decimal (price_of number)) key price)

pub lines-text : (numbers : List ℕ) → flat_map line_of numbers ≡ text_of (map row_of numbers)
lines-text [] = refl
lines-text (number ∷ numbers) =
    ap (λ (line : List ℕ). line ++ flat_map line_of numbers) (line-text number)
    ∙ ap (λ (lines : List ℕ). row_text default_writer (row_of number) ++ lines) (lines-text numbers)
