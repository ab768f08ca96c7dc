-- The tokens of a text: words aren't reserved, and whole numbers are of 64 bits.
use Rattle.std.proofs.Common.{◌≡◌, ℕ, zero, suc, ◌+◌, ◌-◌, Bool, true, false, cond, List, [], ◌∷◌, length, take, Option, Some, None, ℤ, pos, negsuc, refl, ap, subst, ◌∙◌, arith, inl, inr}
use Rattle.std.specs.Prelude.{⊤, All, ◌||◌, ◌&&◌, ◌==◌, not, is_some, nat_eq, nat_lt, find, slice_index}
use Rattle.std.specs.List.{list_all, prefix_len, starts_with, take_while}
use Rattle.std.specs.Str.{all_ascii_digits}
use Rattle.std.specs.Str.Parse.{signed_digits_value, without_leading_sign}
use Rattle.std.proofs.lemmas.Option.{cond_some}
use Rattle.std.proofs.lemmas.Bool.{cases_Bool, or_left, and_from}
use Rattle.std.proofs.lemmas.List.Elements.{All-nil, All-cons}
use Rattle.aggregate.specs.Partial.{fits_i64}
use Rattle.row_form.specs.Numbers.{number, is_number}
use Rattle.row_form.specs.Numbers.{fits_i64 as fits_there}
use Rattle.job_text.specs.declared.mark.Mark.{Mark}
use Rattle.job_text.specs.declared.token.Token.{Token}
use Rattle.job_text.specs.declared.token.Token.TheVariants.{Word, Whole}
use Rattle.job_text.specs.Marks.{mark_text, signs}
use Rattle.job_text.specs.Scan.{closed_at, is_blank, is_digit, is_letter, is_plain, is_word_byte, quoted_token, text_token, reserved_as, sign_at, sign_token, token_at, whole_at, whole_of, word_at, word_token}
use Rattle.job_text.specs.Text.{scan, token_then, Scanned}
use Rattle.job_text.specs.Place.{only_tokens}

-- a token that a text has, but for what stands between quotes
abbrev pub IsOfText : Token → Type 0
IsOfText (Word name) = is_plain name ≡ true
IsOfText (Whole (Some value)) = fits_i64 value ≡ true
IsOfText _ = ⊤

abbrev OfText : Option (Token × ℕ) → Type 0
OfText None = ⊤
OfText (Some found) = IsOfText found.0

of_cond : (b : Bool) (x y : Option (Token × ℕ)) → (b ≡ true → OfText x) → (b ≡ false → OfText y) → OfText (cond b x y)
of_cond true x y f g = f refl
of_cond false x y f g = g refl

-- ---- whole numbers

same_range : (value : ℤ) → fits_there value ≡ true → fits_i64 value ≡ true
same_range (pos n) h = h
same_range (negsuc n) h = h

three : (a b c : Bool) → (a && b && c) ≡ true → c ≡ true
three true true c h = h
three true false c h = absurd cc
three false b c h = absurd cc

number_ranged : (field : List ℕ) (value : ℤ) → number field ≡ Some value → fits_i64 value ≡ true
number_ranged field value e =
    let digits = without_leading_sign field in
    let both = cond_some (is_number field) (signed_digits_value 10 field) value e in
    same_range value (subst (λ (z : ℤ). fits_there z ≡ true) both.1 (three (nat_lt 0 (length digits)) (all_ascii_digits digits) (fits_there (signed_digits_value 10 field)) both.0))

whole_ranged : (o : Option ℤ) → ((value : ℤ) → o ≡ Some value → fits_i64 value ≡ true) → IsOfText (Whole o)
whole_ranged None h = tt
whole_ranged (Some value) h = h value refl

whole_of_text : (bytes : List ℕ) (sign digits : ℕ) → OfText (whole_of bytes sign digits)
whole_of_text bytes sign zero = tt
whole_of_text bytes sign (suc more) = whole_ranged (number (take (sign + suc more) bytes)) (number_ranged (take (sign + suc more) bytes))

-- ---- words

front_is : (b : ℕ) (bytes : List ℕ) → is_word_byte b ≡ true → take_while is_word_byte (b ∷ bytes) ≡ b ∷ take_while is_word_byte bytes
front_is b bytes t =
    let one : prefix_len is_word_byte (b ∷ bytes) ≡ 1 + prefix_len is_word_byte bytes = rw t refl in
    let same : prefix_len is_word_byte (b ∷ bytes) ≡ suc (prefix_len is_word_byte bytes) = omega (arith, one) in
    ap (λ (n : ℕ). take n (b ∷ bytes)) same

front_none : (b : ℕ) (bytes : List ℕ) → is_word_byte b ≡ false → take_while is_word_byte (b ∷ bytes) ≡ []
front_none b bytes t =
    let none : prefix_len is_word_byte (b ∷ bytes) ≡ 0 = rw t refl in
    ap (λ (n : ℕ). take n (b ∷ bytes)) none

all_word : (bytes : List ℕ) → list_all is_word_byte (take_while is_word_byte bytes) ≡ true
all_word [] = refl
all_word (b ∷ bytes) = elim (cases_Bool (is_word_byte b)) [
  | inl t ↦ ap (list_all is_word_byte) (front_is b bytes t) ∙ and_from (is_word_byte b) (list_all is_word_byte (take_while is_word_byte bytes)) t (all_word bytes)
  | inr t ↦ ap (list_all is_word_byte) (front_none b bytes t)
]

all_three : (a b c : Bool) → a ≡ true → b ≡ true → c ≡ true → (a && b && c) ≡ true
all_three a b c e f g = rw (e, f, g) refl

pub word_plain : (b : ℕ) (bytes : List ℕ) → is_letter b ≡ true → (o : Option Mark) → reserved_as (take_while is_word_byte (b ∷ bytes)) ≡ o → IsOfText (word_token (take_while is_word_byte (b ∷ bytes)) o)
word_plain b bytes h None e =
    let word = take_while is_word_byte (b ∷ bytes) in
    let front = front_is b bytes (or_left (is_letter b) (is_digit b) h) in
    all_three (is_letter (slice_index word 0)) (list_all is_word_byte word) (not (is_some (reserved_as word)))
    (ap (λ (w : List ℕ). is_letter (slice_index w 0)) front ∙ h) (all_word (b ∷ bytes)) (ap (λ (o : Option Mark). not (is_some o)) e)
word_plain b bytes h (Some mark) e = tt

word_of_text : (b : ℕ) (bytes : List ℕ) → is_letter b ≡ true → OfText (word_at (b ∷ bytes))
unfolding word_at
word_of_text b bytes h = word_plain b bytes h (reserved_as (take_while is_word_byte (b ∷ bytes))) refl

-- ---- the others

quoted_of_text : (o : Option (List ℕ × ℕ)) → OfText (quoted_token o)
quoted_of_text None = tt
quoted_of_text (Some found) = tt

text_of_text : (o : Option (List ℕ × ℕ)) → OfText (text_token o)
text_of_text None = tt
text_of_text (Some found) = tt

sign_of_text : (o : Option Mark) → OfText (sign_token o)
sign_of_text None = tt
sign_of_text (Some mark) = tt

of_text : (bytes : List ℕ) → OfText (token_at bytes)
unfolding token_at sign_at
of_text [] = tt
of_text (b ∷ bytes) =
    let all : List ℕ = b ∷ bytes in
    let w = whole_at all in
    let q = quoted_token (closed_at 34 bytes) in
    let t = text_token (closed_at 39 bytes) in
    let s = sign_at all in
    of_cond (is_letter b) (word_at all) (cond (is_digit b || b == 45) w (cond (b == 34) q (cond (b == 39) t s))) (λ h. word_of_text b bytes h)
    (λ _. of_cond (is_digit b || b == 45) w (cond (b == 34) q (cond (b == 39) t s))
    (λ _. of_cond (b == 45) (whole_of all 1 (prefix_len is_digit bytes)) (whole_of all 0 (prefix_len is_digit all)) (λ _. whole_of_text all 1 (prefix_len is_digit bytes)) (λ _. whole_of_text all 0 (prefix_len is_digit all)))
    (λ _. of_cond (b == 34) q (cond (b == 39) t s) (λ _. quoted_of_text (closed_at 34 bytes))
    (λ _. of_cond (b == 39) t s (λ _. text_of_text (closed_at 39 bytes)) (λ _. sign_of_text (find (λ m. starts_with nat_eq all (mark_text m)) signs)))))

-- ---- so each token of a text

abbrev AreOfText : Scanned → Type 0
AreOfText scanned = All IsOfText (only_tokens scanned.tokens)

then_of_text : (place : ℕ) (o : Option (Token × ℕ)) (rest : ℕ → Scanned) → OfText o → ((skip : ℕ) → AreOfText (rest skip)) → AreOfText (token_then place o rest)
then_of_text place None rest h more = All-nil IsOfText
then_of_text place (Some found) rest h more = All-cons IsOfText found.0 (only_tokens (rest (found.1 - 1)).tokens) h (more (found.1 - 1))

scan_cond : (b : Bool) (x y : Scanned) → AreOfText x → AreOfText y → AreOfText (cond b x y)
scan_cond true x y f g = f
scan_cond false x y f g = g

pub scanned_of_text : (bytes : List ℕ) (skip place : ℕ) → AreOfText (scan skip place bytes)
unfolding scan
scanned_of_text [] skip place = All-nil IsOfText
scanned_of_text (b ∷ bytes) (suc skip) place = scanned_of_text bytes skip (place + 1)
scanned_of_text (b ∷ bytes) zero place =
    scan_cond (is_blank b) (scan 0 (place + 1) bytes) (token_then place (token_at (b ∷ bytes)) (λ skip. scan skip (place + 1) bytes)) (scanned_of_text bytes 0 (place + 1))
    (then_of_text place (token_at (b ∷ bytes)) (λ skip. scan skip (place + 1) bytes) (of_text (b ∷ bytes)) (λ skip. scanned_of_text bytes skip (place + 1)))
