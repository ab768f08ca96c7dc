-- What is spelled is read as the token again, where what follows stands apart.
use Rattle.std.proofs.Common.{◌≡◌, ℕ, suc, ◌+◌, ◌<◌, ◌^◌, Bool, true, false, List, [], ◌∷◌, ◌++◌, length, take, drop, get_or, Option, Some, None, ℤ, pos, negsuc, neg_ℤ, refl, sym, ap, ◌∙◌, append_assoc, arith, inl, inr}
use Rattle.std.specs.Prelude.{⊤, ◌==◌, ◌||◌, ◌&&◌, nat_eq, nat_lt, not, is_some}
use Rattle.std.specs.Fmt.{decimal, signed_decimal}
use Rattle.std.specs.List.{prefix_len, take_while, list_all}
use Rattle.std.specs.Str.{all_ascii_digits}
use Rattle.std.specs.Str.Parse.{digits_value, signed_digits_value, without_leading_sign}
use Rattle.std.proofs.lemmas.Bool.{eq-eqb, ne_eqb, eqb-false, eqb-true, and_parts, and_from, cases_Bool, lt-ltb, ltb-true}
use Rattle.std.proofs.lemmas.Fmt.{decimal_nonempty, digits_decimal, digits_value-decimal}
use Rattle.std.proofs.lemmas.List.{take_at, length-append}
use Rattle.std.proofs.lemmas.Str.Parse.{IsNumeralModel, numerals_by_value, tells_all_ascii_digits}
use Rattle.aggregate.specs.Partial.{fits_i64}
use Rattle.row_form.specs.Numbers.{number, is_number}
use Rattle.row_form.specs.Numbers.{fits_i64 as fits_there}
use Rattle.job_text.specs.declared.mark.Mark.{Mark}
use Rattle.job_text.specs.declared.mark.Mark.TheVariants as marks
use Rattle.job_text.specs.declared.token.Token.{Token}
use Rattle.job_text.specs.declared.token.Token.TheVariants.{Fixed, Word, Quoted, Text, Whole}
use Rattle.job_text.specs.Marks.{mark_text}
use Rattle.job_text.specs.Scan.{closed_at, word_at, word_token, sign_at, whole_at, whole_of, token_at, is_letter, is_digit, is_word_byte, is_plain, is_blank, reserved_as}
use Rattle.job_text.specs.Printing.{doubled, token_text}

-- what may follow a token without a change of it
abbrev pub StandsApart : List ℕ → Type 0
StandsApart [] = ⊤
StandsApart (c ∷ rest) = (is_word_byte c ≡ false) × ((c == 61) ≡ false) × ((c == 34) ≡ false) × ((c == 39) ≡ false)

-- ---- reserved words and signs

equal_other : (c : ℕ) → (c == 61) ≡ false → nat_eq 61 c ≡ false
equal_other c h = ne_eqb 61 c (λ e. eqb-false c 61 h (sym e))

pub mark_again : (m : Mark) (rest : List ℕ) → StandsApart rest → token_at (mark_text m ++ rest) ≡ Some (Fixed m, length (mark_text m))
unfolding token_at word_at sign_at
mark_again marks.Let [] h = refl
mark_again _ [] h = refl
mark_again marks.Let (c ∷ rest) h = rw h.0 refl
mark_again marks.Where (c ∷ rest) h = rw h.0 refl
mark_again marks.Keep (c ∷ rest) h = rw h.0 refl
mark_again marks.Memory (c ∷ rest) h = rw h.0 refl
mark_again marks.Disk (c ∷ rest) h = rw h.0 refl
mark_again marks.Group (c ∷ rest) h = rw h.0 refl
mark_again marks.Order (c ∷ rest) h = rw h.0 refl
mark_again marks.Count (c ∷ rest) h = rw h.0 refl
mark_again marks.Sum (c ∷ rest) h = rw h.0 refl
mark_again marks.Min (c ∷ rest) h = rw h.0 refl
mark_again marks.Max (c ∷ rest) h = rw h.0 refl
mark_again marks.From (c ∷ rest) h = rw h.0 refl
mark_again marks.Number (c ∷ rest) h = rw h.0 refl
mark_again marks.Down (c ∷ rest) h = rw h.0 refl
mark_again marks.And (c ∷ rest) h = rw h.0 refl
mark_again marks.Or (c ∷ rest) h = rw h.0 refl
mark_again marks.Not (c ∷ rest) h = rw h.0 refl
mark_again marks.Input (c ∷ rest) h = rw h.0 refl
mark_again marks.Less (c ∷ rest) h = rw (equal_other c h.1) refl
mark_again marks.Greater (c ∷ rest) h = rw (equal_other c h.1) refl
mark_again _ (c ∷ rest) h = refl

pub open_again : (rest : List ℕ) → token_at (mark_text marks.Open ++ rest) ≡ Some (Fixed marks.Open, 1)
unfolding token_at sign_at
open_again [] = refl
open_again (c ∷ rest) = refl

-- ---- words

prefix_of : (p : ℕ → Bool) (w rest : List ℕ) → list_all p w ≡ true → prefix_len p rest ≡ 0 → prefix_len p (w ++ rest) ≡ length w
prefix_of p [] rest h a = a
prefix_of p (b ∷ w) rest h a = let both = and_parts (p b) (list_all p w) h in rw (both.0, prefix_of p w rest both.1 a) (omega arith)

no_word : (rest : List ℕ) → StandsApart rest → prefix_len is_word_byte rest ≡ 0
no_word [] h = refl
no_word (c ∷ rest) h = rw h.0 refl

pub at_letter : (b : ℕ) (more : List ℕ) → is_letter b ≡ true → token_at (b ∷ more) ≡ word_at (b ∷ more)
unfolding token_at
at_letter b more h = rw h refl

word_is : (w rest : List ℕ) → take_while is_word_byte (w ++ rest) ≡ w → reserved_as w ≡ None → word_at (w ++ rest) ≡ Some (Word w, length w)
unfolding word_at
word_is w rest front free = ap (λ (t : List ℕ). Some (word_token t (reserved_as t), length t)) front ∙ ap (λ (o : Option Mark). Some (word_token w o, length w)) free

pub none_reserved : (o : Option Mark) → not (is_some o) ≡ true → o ≡ None
none_reserved None h = refl
none_reserved (Some m) h = absurd cc

pub three : (a b c : Bool) → (a && b && c) ≡ true → (a ≡ true) × (b ≡ true) × (c ≡ true)
three true true true h = (refl, refl, refl)
three true true false h = absurd cc
three true false c h = absurd cc
three false b c h = absurd cc

word_again : (b : ℕ) (bs rest : List ℕ) → is_plain (b ∷ bs) ≡ true → StandsApart rest → token_at (b ∷ (bs ++ rest)) ≡ Some (Word (b ∷ bs), length (b ∷ bs))
word_again b bs rest h a =
    let w : List ℕ = b ∷ bs in
    let parts = three (is_letter b) (list_all is_word_byte w) (not (is_some (reserved_as w))) h in
    let len : prefix_len is_word_byte (w ++ rest) ≡ length w = prefix_of is_word_byte w rest parts.1 (no_word rest a) in
    let front : take_while is_word_byte (w ++ rest) ≡ w = ap (λ (n : ℕ). take n (w ++ rest)) len ∙ take_at w rest (length w) refl in
    at_letter b (bs ++ rest) parts.0 ∙ word_is w rest front (none_reserved (reserved_as w) parts.2)

-- ---- quotes

abbrev NotQuote : ℕ → List ℕ → Type 0
NotQuote quote [] = ⊤
NotQuote quote (c ∷ rest) = (c == quote) ≡ false

end_is : (quote : ℕ) (rest : List ℕ) → NotQuote quote rest → closed_at quote (quote ∷ rest) ≡ Some ([], 1)
unfolding closed_at
end_is quote [] h = rw (eq-eqb quote quote refl) refl
end_is quote (c ∷ rest) h = rw (eq-eqb quote quote refl, h) refl

-- a byte before others is taken as it is
other_front : (quote b : ℕ) (more : List ℕ) (found : List ℕ × ℕ) → (b == quote) ≡ false → closed_at quote more ≡ Some found → closed_at quote (b ∷ more) ≡ Some (b ∷ found.0, found.1 + 1)
unfolding closed_at
other_front quote b [] found ne e = absurd cc
other_front quote b (c ∷ more) found ne e = rw (ne, e) refl

two_front : (quote : ℕ) (more : List ℕ) (found : List ℕ × ℕ) → closed_at quote more ≡ Some found → closed_at quote (quote ∷ quote ∷ more) ≡ Some (quote ∷ found.0, found.1 + 2)
unfolding closed_at
two_front quote more found e = rw (eq-eqb quote quote refl, e) refl

closed_again : (quote : ℕ) (content rest : List ℕ) → NotQuote quote rest → closed_at quote (doubled quote content ++ quote ∷ rest) ≡ Some (content, length (doubled quote content) + 1)
closed_again quote [] rest h = end_is quote rest h
closed_again quote (b ∷ content) rest h = elim (cases_Bool (b == quote)) [
  | inl e ↦
      let same : b ≡ quote = eqb-true b quote e in
      rw (e, same) (two_front quote (doubled quote content ++ quote ∷ rest) (content, length (doubled quote content) + 1) (closed_again quote content rest h) ∙ ap (λ (n : ℕ). Some (quote ∷ content, n)) (omega arith))
  | inr e ↦ rw e (other_front quote b (doubled quote content ++ quote ∷ rest) (content, length (doubled quote content) + 1) e (closed_again quote content rest h) ∙ ap (λ (n : ℕ). Some (b ∷ content, n)) (omega arith))
]

apart_quote : (rest : List ℕ) → StandsApart rest → NotQuote 34 rest
apart_quote [] h = tt
apart_quote (c ∷ rest) h = h.2

apart_single : (rest : List ℕ) → StandsApart rest → NotQuote 39 rest
apart_single [] h = tt
apart_single (c ∷ rest) h = h.3

quoted_again : (content rest : List ℕ) → StandsApart rest → token_at (34 ∷ (doubled 34 content ++ 34 ∷ rest)) ≡ Some (Quoted content, length (doubled 34 content) + 2)
unfolding token_at
quoted_again content rest a = rw (closed_again 34 content rest (apart_quote rest a)) (ap (λ (n : ℕ). Some (Quoted content, n)) (omega arith))

text_again : (content rest : List ℕ) → StandsApart rest → token_at (39 ∷ (doubled 39 content ++ 39 ∷ rest)) ≡ Some (Text content, length (doubled 39 content) + 2)
unfolding token_at
text_again content rest a = rw (closed_again 39 content rest (apart_single rest a)) (ap (λ (n : ℕ). Some (Text content, n)) (omega arith))

-- ---- whole numbers

model : IsNumeralModel (λ ds. all_ascii_digits ds ≡ true) (digits_value 10)
model = numerals_by_value (λ ds. all_ascii_digits ds ≡ true) tells_all_ascii_digits

are_digits : (ds : List ℕ) → all_ascii_digits ds ≡ true → list_all is_digit ds ≡ true
are_digits [] h = refl
are_digits (d ∷ ds) h = let both = and_parts (is_digit d) (all_ascii_digits ds) h in and_from (is_digit d) (list_all is_digit ds) both.0 (are_digits ds both.1)

no_digit : (rest : List ℕ) → StandsApart rest → prefix_len is_digit rest ≡ 0
no_digit [] h = refl
no_digit (c ∷ rest) h = rw (or_right_false (is_letter c) (is_digit c) h.0) refl
  where
    or_right_false : (a b : Bool) → (a || b) ≡ false → b ≡ false
    or_right_false true b e = absurd cc
    or_right_false false b e = e

no_letter : (d : ℕ) → is_digit d ≡ true → is_letter d ≡ false
no_letter d h = grind arith

pub no_minus : (d : ℕ) → is_digit d ≡ true → (d == 45) ≡ false
no_minus d h = grind arith

no_plus : (d : ℕ) → is_digit d ≡ true → (d == 43) ≡ false
no_plus d h = grind arith

whole_is : (bytes : List ℕ) (sign digits more : ℕ) → digits ≡ suc more → whole_of bytes sign digits ≡ Some (Whole (number (take (sign + digits) bytes)), sign + digits)
whole_is bytes sign digits more e = rw e refl

pub at_digit : (d : ℕ) (more : List ℕ) → is_digit d ≡ true → token_at (d ∷ more) ≡ whole_at (d ∷ more)
unfolding token_at
at_digit d more h = rw (no_letter d h, h) refl

pub at_minus : (more : List ℕ) → token_at (45 ∷ more) ≡ whole_of (45 ∷ more) 1 (prefix_len is_digit more)
unfolding token_at
at_minus more = refl

pub whole_plain : (d : ℕ) (more : List ℕ) → (d == 45) ≡ false → whole_at (d ∷ more) ≡ whole_of (d ∷ more) 0 (prefix_len is_digit (d ∷ more))
whole_plain d more e = rw e refl

digits_again : (d : ℕ) (ds rest : List ℕ) → all_ascii_digits (d ∷ ds) ≡ true → StandsApart rest → token_at (d ∷ (ds ++ rest)) ≡ Some (Whole (number (d ∷ ds)), length (d ∷ ds))
digits_again d ds rest h a =
    let all : List ℕ = d ∷ ds in
    let digit = (and_parts (is_digit d) (all_ascii_digits ds) h).0 in
    let len : prefix_len is_digit (all ++ rest) ≡ length all = prefix_of is_digit all rest (are_digits all h) (no_digit rest a) in
    let none : 0 + length all ≡ length all = omega arith in
    at_digit d (ds ++ rest) digit ∙ whole_plain d (ds ++ rest) (no_minus d digit)
    ∙ whole_is (all ++ rest) 0 (prefix_len is_digit (all ++ rest)) (length ds) len
    ∙ ap (λ (n : ℕ). Some (Whole (number (take (0 + n) (all ++ rest))), 0 + n)) len
    ∙ ap (λ (n : ℕ). Some (Whole (number (take n (all ++ rest))), n)) none
    ∙ ap (λ (l : List ℕ). Some (Whole (number l), length all)) (take_at all rest (length all) refl)

minus_again : (d : ℕ) (ds rest : List ℕ) → all_ascii_digits (d ∷ ds) ≡ true → StandsApart rest → token_at (45 ∷ d ∷ (ds ++ rest)) ≡ Some (Whole (number (45 ∷ d ∷ ds)), length (45 ∷ d ∷ ds))
minus_again d ds rest h a =
    let all : List ℕ = d ∷ ds in
    let signed : List ℕ = 45 ∷ all in
    let len : prefix_len is_digit (all ++ rest) ≡ length all = prefix_of is_digit all rest (are_digits all h) (no_digit rest a) in
    let one : 1 + length all ≡ length signed = omega arith in
    at_minus (all ++ rest)
    ∙ whole_is (signed ++ rest) 1 (prefix_len is_digit (all ++ rest)) (length ds) len
    ∙ ap (λ (n : ℕ). Some (Whole (number (take (1 + n) (signed ++ rest))), 1 + n)) len
    ∙ ap (λ (n : ℕ). Some (Whole (number (take n (signed ++ rest))), n)) one
    ∙ ap (λ (l : List ℕ). Some (Whole (number l), length signed)) (take_at signed rest (length signed) refl)

all_three : (a b c : Bool) → a ≡ true → b ≡ true → c ≡ true → (a && b && c) ≡ true
all_three a b c e f g = rw (e, f, g) refl

number_is : (field : List ℕ) (value : ℤ) → is_number field ≡ true → signed_digits_value 10 field ≡ value → number field ≡ Some value
number_is field value e v = rw e (ap (λ (z : ℤ). Some z) v)

plain_number : (d : ℕ) (ds : List ℕ) (n : ℕ) → all_ascii_digits (d ∷ ds) ≡ true → digits_value 10 (d ∷ ds) ≡ n → nat_lt n (2 ^ 63) ≡ true → number (d ∷ ds) ≡ Some (pos n)
plain_number d ds n h v fits =
    let all : List ℕ = d ∷ ds in
    let digit = (and_parts (is_digit d) (all_ascii_digits ds) h).0 in
    let plain : without_leading_sign all ≡ all = rw (no_minus d digit, no_plus d digit) refl in
    let value : signed_digits_value 10 all ≡ pos n = rw (no_minus d digit, no_plus d digit) (ap (λ (k : ℕ). pos k) v) in
    number_is all (pos n)
    (all_three (nat_lt 0 (length (without_leading_sign all))) (all_ascii_digits (without_leading_sign all)) (fits_there (signed_digits_value 10 all))
    (ap (λ (l : List ℕ). nat_lt 0 (length l)) plain ∙ lt-ltb 0 (length all) (omega arith)) (ap all_ascii_digits plain ∙ h) (ap fits_there value ∙ fits)) value

minus_number : (d : ℕ) (ds : List ℕ) (n : ℕ) → all_ascii_digits (d ∷ ds) ≡ true → digits_value 10 (d ∷ ds) ≡ suc n → nat_lt n (2 ^ 63) ≡ true → number (45 ∷ d ∷ ds) ≡ Some (negsuc n)
minus_number d ds n h v fits =
    let all : List ℕ = d ∷ ds in
    let value : signed_digits_value 10 (45 ∷ all) ≡ negsuc n = ap (λ (k : ℕ). neg_ℤ (pos k)) v in
    number_is (45 ∷ all) (negsuc n)
    (all_three (nat_lt 0 (length all)) (all_ascii_digits all) (fits_there (signed_digits_value 10 (45 ∷ all))) (lt-ltb 0 (length all) (omega arith)) h (ap fits_there value ∙ fits)) value

-- the token of a number's text, by its digits
pos_again : (n : ℕ) (ds rest : List ℕ) → ds ≡ decimal n → nat_lt n (2 ^ 63) ≡ true → StandsApart rest → token_at (ds ++ rest) ≡ Some (Whole (Some (pos n)), length ds)
pos_again n [] rest e fits a = absurd (omega (arith, decimal_nonempty n (omega (arith, ltb-true n (2 ^ 63) fits)), ap length e))
pos_again n (d ∷ ds) rest e fits a =
    let small : n < 2 ^ 64 = omega (arith, ltb-true n (2 ^ 63) fits) in
    let all : all_ascii_digits (d ∷ ds) ≡ true = ap all_ascii_digits e ∙ digits_decimal model n small in
    let value : digits_value 10 (d ∷ ds) ≡ n = ap (digits_value 10) e ∙ digits_value-decimal model n small in
    digits_again d ds rest all a ∙ ap (λ (o : Option ℤ). Some (Whole o, length (d ∷ ds))) (plain_number d ds n all value fits)

neg_again : (n : ℕ) (ds rest : List ℕ) → ds ≡ decimal (suc n) → nat_lt n (2 ^ 63) ≡ true → StandsApart rest → token_at (45 ∷ (ds ++ rest)) ≡ Some (Whole (Some (negsuc n)), length (45 ∷ ds))
neg_again n [] rest e fits a = absurd (omega (arith, decimal_nonempty (suc n) (omega (arith, ltb-true n (2 ^ 63) fits)), ap length e))
neg_again n (d ∷ ds) rest e fits a =
    let small : suc n < 2 ^ 64 = omega (arith, ltb-true n (2 ^ 63) fits) in
    let all : all_ascii_digits (d ∷ ds) ≡ true = ap all_ascii_digits e ∙ digits_decimal model (suc n) small in
    let value : digits_value 10 (d ∷ ds) ≡ suc n = ap (digits_value 10) e ∙ digits_value-decimal model (suc n) small in
    minus_again d ds rest all a ∙ ap (λ (o : Option ℤ). Some (Whole o, length (45 ∷ d ∷ ds))) (minus_number d ds n all value fits)

whole_again : (value : ℤ) (rest : List ℕ) → fits_i64 value ≡ true → StandsApart rest → token_at (signed_decimal value ++ rest) ≡ Some (Whole (Some value), length (signed_decimal value))
whole_again (pos n) rest fits a = pos_again n (decimal n) rest refl fits a
whole_again (negsuc n) rest fits a = neg_again n (decimal (suc n)) rest refl fits a

-- ---- each printed token

-- a token that is printed
abbrev pub IsPrintable : Token → Type 0
IsPrintable (Word name) = is_plain name ≡ true
IsPrintable (Whole None) = ⊥
IsPrintable (Whole (Some value)) = fits_i64 value ≡ true
IsPrintable _ = ⊤

pub token_again : (t : Token) (rest : List ℕ) → IsPrintable t → StandsApart rest → token_at (token_text t ++ rest) ≡ Some (t, length (token_text t))
token_again (Fixed m) rest h a = mark_again m rest a
token_again (Word []) rest h a = absurd cc
token_again (Word (b ∷ bs)) rest h a = word_again b bs rest h a
token_again (Quoted name) rest h a =
    ap (λ (l : List ℕ). token_at (34 ∷ l)) (append_assoc (doubled 34 name) (34 ∷ []) rest) ∙ quoted_again name rest a ∙ ap (λ (n : ℕ). Some (Quoted name, n)) (omega (arith, length-append (doubled 34 name) (34 ∷ [])))
token_again (Text text) rest h a =
    ap (λ (l : List ℕ). token_at (39 ∷ l)) (append_assoc (doubled 39 text) (39 ∷ []) rest) ∙ text_again text rest a ∙ ap (λ (n : ℕ). Some (Text text, n)) (omega (arith, length-append (doubled 39 text) (39 ∷ [])))
token_again (Whole None) rest h a = absurd h
token_again (Whole (Some value)) rest h a = whole_again value rest h a

-- ---- its first byte

pub record Starts (text : List ℕ) : Type 0 where
  pub first : ℕ
  pub more : List ℕ
  pub is : text ≡ first ∷ more
  pub dark : is_blank first ≡ false

letter_dark : (b : ℕ) → is_letter b ≡ true → is_blank b ≡ false
letter_dark b h = grind arith

digit_dark : (b : ℕ) → is_digit b ≡ true → is_blank b ≡ false
digit_dark b h = grind arith

mark_starts : (m : Mark) → Starts (mark_text m)
mark_starts marks.Let = record { first = 108; more = drop 1 (mark_text marks.Let); is = refl; dark = refl }
mark_starts m = record { first = get_or (mark_text m) 0 0; more = drop 1 (mark_text m); is = refl; dark = refl }

digits_start : (n : ℕ) (ds : List ℕ) → ds ≡ decimal n → n < 2 ^ 64 → Starts ds
digits_start n [] e small = absurd (omega (arith, decimal_nonempty n small, ap length e))
digits_start n (d ∷ ds) e small = record { first = d; more = ds; is = refl; dark = digit_dark d (and_parts (is_digit d) (all_ascii_digits ds) (ap all_ascii_digits e ∙ digits_decimal model n small)).0 }

whole_starts : (value : ℤ) → fits_i64 value ≡ true → Starts (signed_decimal value)
whole_starts (pos n) h = digits_start n (decimal n) refl (omega (arith, ltb-true n (2 ^ 63) h))
whole_starts (negsuc n) h = record { first = 45; more = decimal (suc n); is = refl; dark = refl }

pub token_starts : (t : Token) → IsPrintable t → Starts (token_text t)
token_starts (Fixed m) h = mark_starts m
token_starts (Word []) h = absurd cc
token_starts (Word (b ∷ bs)) h = record { first = b; more = bs; is = refl; dark = letter_dark b (three (is_letter b) (list_all is_word_byte (b ∷ bs)) (not (is_some (reserved_as (b ∷ bs)))) h).0 }
token_starts (Quoted name) h = record { first = 34; more = doubled 34 name ++ 34 ∷ []; is = refl; dark = refl }
token_starts (Text text) h = record { first = 39; more = doubled 39 text ++ 39 ∷ []; is = refl; dark = refl }
token_starts (Whole None) h = absurd h
token_starts (Whole (Some value)) h = whole_starts value h
