-- A token ends with an ASCII byte of the text.
use Rattle.std.proofs.Common.{◌≡◌, ℕ, zero, suc, ◌+◌, ◌-◌, ◌<◌, ◌≤◌, Bool, true, false, cond, List, [], ◌∷◌, length, take, get_or, Option, Some, None, refl, sym, ap, subst, arith, inl, inr, length-take}
use Rattle.std.specs.Prelude.{⊤, ◌==◌, ◌||◌, find, nat_eq, nat_le}
use Rattle.std.specs.Str.{bytes_eq, IsUtf8, IsCharBoundary}
use Rattle.std.specs.List.{prefix_len, starts_with, take_while}
use Rattle.std.proofs.lemmas.Bool.{cases_Bool, or_left, or_cases, and_parts, leb-true, eqb-true}
use Rattle.std.proofs.lemmas.List.{get_or-take}
use Rattle.std.proofs.lemmas.List.Sums.{prefix_len-le-length, prefix_len_passes}
use Rattle.std.proofs.lemmas.List.Folds.{length-prefix_len}
use Rattle.std.proofs.lemmas.Slice.Eq.{bytes_eq-Decides}
use Rattle.std.proofs.lemmas.Str.{IsCharBoundary-start, IsCharBoundary-after_ascii}
use Rattle.job_text.specs.declared.mark.Mark.{Mark}
use Rattle.job_text.specs.declared.mark.Mark.TheVariants as marks
use Rattle.job_text.specs.Marks.{mark_text, signs}
use Rattle.job_text.specs.Scan.{closed_at, with_byte, or_closed, word_at, whole_at, whole_of, sign_at, sign_token, is_letter, is_digit, is_word_byte, token_at, quoted_token, text_token}

-- the first n bytes, at least one, end with an ASCII byte
pub record Ends (bytes : List ℕ) (n : ℕ) : Type 0 where
  pub last : ℕ
  pub is : n ≡ last + 1
  pub within : last < length bytes
  pub ascii : get_or bytes last 0 < 128

-- what is found ends so
abbrev pub EndsFound : {X : Type 0} → List ℕ → Option (X × ℕ) → Type 0
EndsFound bytes None = ⊤
EndsFound bytes (Some found) = Ends bytes found.1

ends_later : (b : ℕ) (bytes : List ℕ) (n : ℕ) → Ends bytes n → Ends (b ∷ bytes) (n + 1)
ends_later b bytes n h = record {
  last = suc h.last;
  is = omega (arith, h.is);
  within = omega (arith, h.within);
  ascii = h.ascii;
}

ends_cond : {X : Type 0} (bytes : List ℕ) (b : Bool) (x y : Option (X × ℕ)) → (b ≡ true → EndsFound bytes x) → (b ≡ false → EndsFound bytes y) → EndsFound bytes (cond b x y)
ends_cond bytes true x y f g = f refl
ends_cond bytes false x y f g = g refl

-- ---- quotes

ends_byte : (b : ℕ) (bytes : List ℕ) (o : Option (List ℕ × ℕ)) → EndsFound bytes o → EndsFound (b ∷ bytes) (with_byte b 1 o)
ends_byte b bytes None h = tt
ends_byte b bytes (Some found) h = ends_later b bytes found.1 h

ends_two : (b c : ℕ) (bytes : List ℕ) (o : Option (List ℕ × ℕ)) → EndsFound bytes o → EndsFound (b ∷ c ∷ bytes) (with_byte b 2 o)
ends_two b c bytes None h = tt
ends_two b c bytes (Some found) h = record {
  last = suc (suc h.last);
  is = omega (arith, h.is);
  within = omega (arith, h.within);
  ascii = h.ascii;
}

ends_closed : (bytes : List ℕ) (o : Option (List ℕ × ℕ)) → Ends bytes 1 → EndsFound bytes o → EndsFound bytes (or_closed o)
ends_closed bytes None one h = one
ends_closed bytes (Some found) one h = h

ends_one : (quote b : ℕ) (bytes : List ℕ) → quote < 128 → (b == quote) ≡ true → Ends (b ∷ bytes) 1
ends_one quote b bytes lt e = record {
  last = 0;
  is = refl;
  within = omega arith;
  ascii = omega (arith, lt, eqb-true b quote e);
}

pub closed_ends : (quote : ℕ) (bytes : List ℕ) → quote < 128 → EndsFound bytes (closed_at quote bytes)
unfolding closed_at
closed_ends quote [] lt = tt
closed_ends quote (b ∷ []) lt = ends_cond (b ∷ []) (b == quote) (Some ([], 1)) None (ends_one quote b [] lt) (λ _. tt)
closed_ends quote (b ∷ c ∷ bytes) lt =
    let all : List ℕ = b ∷ c ∷ bytes in
    let one : Option (List ℕ × ℕ) = Some ([], 1) in
    let two = or_closed (with_byte quote 2 (closed_at quote bytes)) in
    ends_cond all (b == quote) (cond (c == quote) two one) (with_byte b 1 (closed_at quote (c ∷ bytes)))
    (λ e. ends_cond all (c == quote) two one
    (λ _. ends_closed all _ (ends_one quote b (c ∷ bytes) lt e) (subst (λ (k : ℕ). EndsFound (k ∷ c ∷ bytes) (with_byte quote 2 (closed_at quote bytes))) (sym (eqb-true b quote e)) (ends_two quote c bytes (closed_at quote bytes) (closed_ends quote bytes lt))))
    (λ _. ends_one quote b (c ∷ bytes) lt e))
    (λ _. ends_byte b (c ∷ bytes) (closed_at quote (c ∷ bytes)) (closed_ends quote (c ∷ bytes) lt))

quoted_ends : (b : ℕ) (bytes : List ℕ) (o : Option (List ℕ × ℕ)) → EndsFound bytes o → EndsFound (b ∷ bytes) (quoted_token o)
quoted_ends b bytes None h = tt
quoted_ends b bytes (Some found) h = ends_later b bytes found.1 h

text_ends : (b : ℕ) (bytes : List ℕ) (o : Option (List ℕ × ℕ)) → EndsFound bytes o → EndsFound (b ∷ bytes) (text_token o)
text_ends b bytes None h = tt
text_ends b bytes (Some found) h = ends_later b bytes found.1 h

-- ---- words and numbers

digit_ascii : (b : ℕ) → is_digit b ≡ true → b < 128
digit_ascii b h = omega (arith, leb-true b 57 (and_parts (nat_le 48 b) (nat_le b 57) h).1)

letter_ascii : (b : ℕ) → is_letter b ≡ true → b < 128
letter_ascii b h = grind arith

word_byte_ascii : (b : ℕ) → is_word_byte b ≡ true → b < 128
word_byte_ascii b h = elim (or_cases (is_letter b) (is_digit b) h) [
  | inl e ↦ letter_ascii b e
  | inr e ↦ digit_ascii b e
]

prefix_ends : (p : ℕ → Bool) (bytes : List ℕ) (n : ℕ) → ((b : ℕ) → p b ≡ true → b < 128) → suc n ≡ prefix_len p bytes → Ends bytes (suc n)
prefix_ends p bytes n ascii is = record {
  last = n;
  is = omega arith;
  within = omega (arith, is, prefix_len-le-length p bytes);
  ascii = ascii (get_or bytes n 0) (prefix_len_passes p bytes n 0 (omega (arith, is)));
}

word_ends : (b : ℕ) (bytes : List ℕ) → is_letter b ≡ true → EndsFound (b ∷ bytes) (word_at (b ∷ bytes))
unfolding word_at
word_ends b bytes h =
    let is : prefix_len is_word_byte (b ∷ bytes) ≡ 1 + prefix_len is_word_byte bytes = rw (or_left (is_letter b) _ h) refl in
    let len : length (take_while is_word_byte (b ∷ bytes)) ≡ suc (prefix_len is_word_byte bytes) = omega (arith, length-prefix_len is_word_byte (b ∷ bytes), is) in
    rw len (prefix_ends is_word_byte (b ∷ bytes) (prefix_len is_word_byte bytes) word_byte_ascii (omega (arith, is)))

number_ends : (bytes text : List ℕ) (digits : ℕ) → digits ≡ prefix_len is_digit bytes → EndsFound bytes (whole_of text 0 digits)
number_ends bytes text zero is = tt
number_ends bytes text (suc more) is =
    let ends = prefix_ends is_digit bytes more digit_ascii is in
    record { last = ends.last; is = omega (arith, ends.is); within = ends.within; ascii = ends.ascii }

minus_ends : (b : ℕ) (bytes text : List ℕ) (digits : ℕ) → digits ≡ prefix_len is_digit bytes → EndsFound (b ∷ bytes) (whole_of text 1 digits)
minus_ends b bytes text zero is = tt
minus_ends b bytes text (suc more) is =
    let ends = prefix_ends is_digit bytes more digit_ascii is in
    record { last = suc ends.last; is = omega (arith, ends.is); within = omega (arith, ends.within); ascii = ends.ascii }

whole_ends : (b : ℕ) (bytes : List ℕ) → EndsFound (b ∷ bytes) (whole_at (b ∷ bytes))
whole_ends b bytes = ends_cond (b ∷ bytes) (b == 45) (whole_of (b ∷ bytes) 1 (prefix_len is_digit bytes)) (whole_of (b ∷ bytes) 0 (prefix_len is_digit (b ∷ bytes)))
    (λ _. minus_ends b bytes (b ∷ bytes) (prefix_len is_digit bytes) refl)
    (λ _. number_ends (b ∷ bytes) (b ∷ bytes) (prefix_len is_digit (b ∷ bytes)) refl)

-- ---- signs

mark_ends : (m : Mark) → Ends (mark_text m) (length (mark_text m))
mark_ends marks.Let = record { last = 2; is = refl; within = omega arith; ascii = omega arith }
mark_ends m = record { last = length (mark_text m) - 1; is = omega arith; within = omega arith; ascii = omega arith }

same_bytes : (xs ys : List ℕ) → bytes_eq xs ys ≡ true → xs ≡ ys
same_bytes xs ys h = (bytes_eq-Decides xs ys).0 h

sign_ends : (bytes : List ℕ) (ms : List Mark) → EndsFound bytes (sign_token (find (λ m. starts_with nat_eq bytes (mark_text m)) ms))
sign_ends bytes [] = tt
sign_ends bytes (m ∷ ms) = elim (cases_Bool (starts_with nat_eq bytes (mark_text m))) [
  | inl e ↦ rw e (front_ends bytes (mark_text m) (mark_ends m) (same_bytes (mark_text m) (take (length (mark_text m)) bytes) e))
  | inr e ↦ rw e (sign_ends bytes ms)
]
  where
    front_ends : (bytes text : List ℕ) → Ends text (length text) → text ≡ take (length text) bytes → Ends bytes (length text)
    front_ends bytes text h e = record {
      last = h.last;
      is = h.is;
      within = omega (arith, h.within, ap length e, length-take (length text) bytes);
      ascii = omega (arith, h.ascii, ap (λ (l : List ℕ). get_or l h.last 0) e, get_or-take (length text) bytes h.last 0 h.within);
    }

pub token_ends : (bytes : List ℕ) → EndsFound bytes (token_at bytes)
unfolding token_at sign_at
token_ends [] = tt
token_ends (b ∷ bytes) =
    let all : List ℕ = b ∷ bytes in
    let w = whole_at all in
    let q = quoted_token (closed_at 34 bytes) in
    let t = text_token (closed_at 39 bytes) in
    let s = sign_at all in
    ends_cond all (is_letter b) (word_at all) (cond (is_digit b || b == 45) w (cond (b == 34) q (cond (b == 39) t s))) (λ h. word_ends b bytes h)
    (λ _. ends_cond all (is_digit b || b == 45) w (cond (b == 34) q (cond (b == 39) t s)) (λ _. whole_ends b bytes)
    (λ _. ends_cond all (b == 34) q (cond (b == 39) t s) (λ _. quoted_ends b bytes _ (closed_ends 34 bytes (omega arith)))
    (λ _. ends_cond all (b == 39) t s (λ _. text_ends b bytes _ (closed_ends 39 bytes (omega arith))) (λ _. sign_ends all signs))))

-- ---- so a text may be cut there

pub ends_boundary : (bytes : List ℕ) (n : ℕ) → IsUtf8 bytes → Ends bytes n → IsCharBoundary bytes n
ends_boundary bytes n u h = rw h.is (IsCharBoundary-after_ascii bytes h.last u h.within h.ascii)

pub word_boundary : (bytes : List ℕ) → IsUtf8 bytes → IsCharBoundary bytes (prefix_len is_word_byte bytes)
word_boundary bytes u = boundary_at (prefix_len is_word_byte bytes) refl
  where
    boundary_at : (n : ℕ) → n ≡ prefix_len is_word_byte bytes → IsCharBoundary bytes n
    boundary_at zero e = IsCharBoundary-start bytes u
    boundary_at (suc n) e = ends_boundary bytes (suc n) u (prefix_ends is_word_byte bytes n word_byte_ascii e)

pub first_boundary : (bytes : List ℕ) → IsUtf8 bytes → 0 < get_or bytes 0 0 → get_or bytes 0 0 < 128 → IsCharBoundary bytes 1
first_boundary [] u some ascii = absurd (omega (arith, some))
first_boundary (b ∷ bytes) u some ascii = IsCharBoundary-after_ascii (b ∷ bytes) 0 u (omega arith) ascii

pub closed_within : (quote : ℕ) (bytes : List ℕ) (content : List ℕ) (n : ℕ) → quote < 128 → closed_at quote bytes ≡ Some (content, n) → n ≤ length bytes
closed_within quote bytes content n lt e =
    let ends = rw e at (closed_ends quote bytes lt) in
    omega (arith, ends.is, ends.within)
