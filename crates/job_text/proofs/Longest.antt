-- The token that is read at the front of bytes is the longest.
use Rattle.std.proofs.Common.{◌≡◌, ℕ, zero, suc, ◌+◌, ◌≤◌, Bool, true, false, cond, List, [], ◌∷◌, ◌++◌, length, take, drop, Option, Some, None, refl, sym, ap, subst, ◌∙◌, arith, inl, inr}
use Rattle.std.specs.Prelude.{⊤, ◌==◌, ◌||◌, nat_eq, find}
use Rattle.std.specs.List.{prefix_len, starts_with, take_while, list_all}
use Rattle.std.specs.Str.{bytes_eq}
use Rattle.std.proofs.lemmas.Bool.{eq-eqb, eqb-true, and_from, cases_Bool}
use Rattle.std.proofs.lemmas.List.{take-append-drop, length-take-le}
use Rattle.std.proofs.lemmas.List.Folds.{length-prefix_len}
use Rattle.std.proofs.lemmas.List.Sums.{prefix_len-le-length}
use Rattle.std.proofs.lemmas.Option.{some_pair_parts}
use Rattle.std.proofs.lemmas.Slice.Eq.{bytes_eq-Decides}
use Rattle.job_text.specs.declared.mark.Mark.{Mark}
use Rattle.job_text.specs.declared.token.Token.{Token}
use Rattle.job_text.specs.Marks.{mark_text, reserved, signs}
use Rattle.job_text.specs.Scan.{closed_at, with_byte, or_closed, word_at, word_token, sign_at, sign_token, whole_at, whole_of, token_at, quoted_token, text_token, is_letter, is_digit, is_word_byte, is_plain, reserved_as}
use Rattle.job_text.specs.Printing.{doubled}
use Rattle.job_text.specs.Tokens.{IsToken, IsLongest, TakesTheLongest}
use Rattle.job_text.specs.Tokens.{fixed, word, quoted, text, whole, below}
use Rattle.job_text.proofs.Ends.{token_ends}
use Rattle.job_text.proofs.Ranged.{word_plain}
use Rattle.job_text.proofs.Covering.{Covers, covers}

-- ---- what is read is a token

abbrev IsFound : List ℕ → Option (Token × ℕ) → Type 0
IsFound bytes None = ⊤
IsFound bytes (Some found) = IsToken (take found.1 bytes) found.0

found_cond : (bytes : List ℕ) (b : Bool) (x y : Option (Token × ℕ)) → (b ≡ true → IsFound bytes x) → (b ≡ false → IsFound bytes y) → IsFound bytes (cond b x y)
found_cond bytes true x y f g = f refl
found_cond bytes false x y f g = g refl

find_passes : (p : Mark → Bool) (ms : List Mark) (m : Mark) → find p ms ≡ Some m → p m ≡ true
find_passes p [] m e = absurd cc
find_passes p (first ∷ ms) m e = elim (cases_Bool (p first)) [
  | inl t ↦ subst (λ (k : Mark). p k ≡ true) (some_is first m (rw t at e)) t
  | inr t ↦ find_passes p ms m (rw t at e)
]
  where
    some_is : (one other : Mark) → (let a : Option Mark = Some one in a ≡ Some other) → one ≡ other
    some_is one other e = cc

word_is_token : (w : List ℕ) (o : Option Mark) → reserved_as w ≡ o → (o ≡ None → is_plain w ≡ true) → IsToken w (word_token w o)
word_is_token w None e plain = word (plain refl) refl
word_is_token w (Some mark) e plain = fixed mark (sym ((bytes_eq-Decides (mark_text mark) w).0 (find_passes (λ m. bytes_eq (mark_text m) w) reserved mark e))) refl

taken_while : (p : ℕ → Bool) (bytes : List ℕ) → take (length (take_while p bytes)) bytes ≡ take_while p bytes
taken_while p bytes = ap (λ (n : ℕ). take n bytes) (length-prefix_len p bytes)

word_found : (b : ℕ) (bytes : List ℕ) → is_letter b ≡ true → IsFound (b ∷ bytes) (word_at (b ∷ bytes))
unfolding word_at
word_found b bytes h =
    let w = take_while is_word_byte (b ∷ bytes) in
    subst (λ (l : List ℕ). IsToken l (word_token w (reserved_as w))) (sym (taken_while is_word_byte (b ∷ bytes)))
    (word_is_token w (reserved_as w) refl (λ e. word_plain b bytes h None e))

all_prefix : (p : ℕ → Bool) (bytes : List ℕ) → list_all p (take (prefix_len p bytes) bytes) ≡ true
all_prefix p [] = refl
all_prefix p (b ∷ bytes) = elim (cases_Bool (p b)) [
  | inl t ↦
      let one : prefix_len p (b ∷ bytes) ≡ 1 + prefix_len p bytes = rw t refl in
      let same : prefix_len p (b ∷ bytes) ≡ suc (prefix_len p bytes) = omega (arith, one) in
      ap (λ (n : ℕ). list_all p (take n (b ∷ bytes))) same ∙ and_from (p b) (list_all p (take (prefix_len p bytes) bytes)) t (all_prefix p bytes)
  | inr t ↦
      let none : prefix_len p (b ∷ bytes) ≡ 0 = rw t refl in
      ap (λ (n : ℕ). list_all p (take n (b ∷ bytes))) none
]

digits_found : (bytes : List ℕ) (n : ℕ) → n ≡ prefix_len is_digit bytes → n ≤ length bytes → IsFound bytes (whole_of bytes 0 n)
digits_found bytes zero e le = tt
digits_found bytes (suc more) e le =
    let n : 0 + suc more ≡ suc more = omega arith in
    whole (record {
      some = omega (arith, n, length-take-le (suc more) bytes le, ap (λ (k : ℕ). length (take k bytes)) n);
      all = ap (λ (k : ℕ). list_all is_digit (take k bytes)) (n ∙ e) ∙ all_prefix is_digit bytes;
    }) refl

minus_found : (bytes : List ℕ) (n : ℕ) → n ≡ prefix_len is_digit bytes → n ≤ length bytes → IsFound (45 ∷ bytes) (whole_of (45 ∷ bytes) 1 n)
minus_found bytes zero e le = tt
minus_found bytes (suc more) e le =
    let n : 1 + suc more ≡ suc (suc more) = omega arith in
    below (take (suc more) bytes) (ap (λ (k : ℕ). take k (45 ∷ bytes)) n)
    (record { some = omega (arith, length-take-le (suc more) bytes le); all = ap (λ (k : ℕ). list_all is_digit (take k bytes)) e ∙ all_prefix is_digit bytes }) refl

-- what is closed is what stands before a quote, doubled
abbrev ClosedAs : ℕ → List ℕ → Option (List ℕ × ℕ) → Type 0
ClosedAs quote bytes None = ⊤
ClosedAs quote bytes (Some found) = take found.1 bytes ≡ doubled quote found.0 ++ quote ∷ []

closed_cond : (quote : ℕ) (bytes : List ℕ) (b : Bool) (x y : Option (List ℕ × ℕ)) → (b ≡ true → ClosedAs quote bytes x) → (b ≡ false → ClosedAs quote bytes y) → ClosedAs quote bytes (cond b x y)
closed_cond quote bytes true x y f g = f refl
closed_cond quote bytes false x y f g = g refl

closed_one : (quote b : ℕ) (bytes : List ℕ) (o : Option (List ℕ × ℕ)) → (b == quote) ≡ false → ClosedAs quote bytes o → ClosedAs quote (b ∷ bytes) (with_byte b 1 o)
closed_one quote b bytes None ne h = tt
closed_one quote b bytes (Some found) ne h =
    let n : found.1 + 1 ≡ suc found.1 = omega arith in
    let spelled : doubled quote (b ∷ found.0) ≡ b ∷ doubled quote found.0 = rw ne refl in
    ap (λ (k : ℕ). take k (b ∷ bytes)) n ∙ ap (λ (l : List ℕ). b ∷ l) h ∙ ap (λ (l : List ℕ). l ++ quote ∷ []) (sym spelled)

closed_two : (quote : ℕ) (bytes : List ℕ) (o : Option (List ℕ × ℕ)) → ClosedAs quote bytes o → ClosedAs quote (quote ∷ quote ∷ bytes) (or_closed (with_byte quote 2 o))
closed_two quote bytes None h = refl
closed_two quote bytes (Some found) h =
    let n : found.1 + 2 ≡ suc (suc found.1) = omega arith in
    let spelled : doubled quote (quote ∷ found.0) ≡ quote ∷ quote ∷ doubled quote found.0 = rw (eq-eqb quote quote refl) refl in
    ap (λ (k : ℕ). take k (quote ∷ quote ∷ bytes)) n ∙ ap (λ (l : List ℕ). quote ∷ quote ∷ l) h ∙ ap (λ (l : List ℕ). l ++ quote ∷ []) (sym spelled)

closed_as : (quote : ℕ) (bytes : List ℕ) → ClosedAs quote bytes (closed_at quote bytes)
unfolding closed_at
closed_as quote [] = tt
closed_as quote (b ∷ []) = closed_cond quote (b ∷ []) (b == quote) (Some ([], 1)) None (λ t. ap (λ (q : ℕ). q ∷ []) (eqb-true b quote t)) (λ _. tt)
closed_as quote (b ∷ c ∷ bytes) =
    let two = or_closed (with_byte quote 2 (closed_at quote bytes)) in
    closed_cond quote (b ∷ c ∷ bytes) (b == quote) (cond (c == quote) two (Some ([], 1))) (with_byte b 1 (closed_at quote (c ∷ bytes)))
    (λ t. closed_cond quote (b ∷ c ∷ bytes) (c == quote) two (Some ([], 1))
    (λ u. subst (λ (q : ℕ). ClosedAs quote (q ∷ c ∷ bytes) two) (sym (eqb-true b quote t)) (subst (λ (q : ℕ). ClosedAs quote (quote ∷ q ∷ bytes) two) (sym (eqb-true c quote u)) (closed_two quote bytes (closed_at quote bytes) (closed_as quote bytes))))
    (λ _. ap (λ (q : ℕ). q ∷ []) (eqb-true b quote t)))
    (λ ne. closed_one quote b (c ∷ bytes) (closed_at quote (c ∷ bytes)) ne (closed_as quote (c ∷ bytes)))

quoted_found : (bytes : List ℕ) (o : Option (List ℕ × ℕ)) → ClosedAs 34 bytes o → IsFound (34 ∷ bytes) (quoted_token o)
quoted_found bytes None h = tt
quoted_found bytes (Some found) h =
    let n : found.1 + 1 ≡ suc found.1 = omega arith in
    quoted found.0 (ap (λ (k : ℕ). take k (34 ∷ bytes)) n ∙ ap (λ (l : List ℕ). 34 ∷ l) h) refl

text_found : (bytes : List ℕ) (o : Option (List ℕ × ℕ)) → ClosedAs 39 bytes o → IsFound (39 ∷ bytes) (text_token o)
text_found bytes None h = tt
text_found bytes (Some found) h =
    let n : found.1 + 1 ≡ suc found.1 = omega arith in
    text found.0 (ap (λ (k : ℕ). take k (39 ∷ bytes)) n ∙ ap (λ (l : List ℕ). 39 ∷ l) h) refl

sign_found : (bytes : List ℕ) (o : Option Mark) → find (λ m. starts_with nat_eq bytes (mark_text m)) signs ≡ o → IsFound bytes (sign_token o)
sign_found bytes None e = tt
sign_found bytes (Some mark) e =
    fixed mark (sym ((bytes_eq-Decides (mark_text mark) (take (length (mark_text mark)) bytes)).0 (find_passes (λ m. starts_with nat_eq bytes (mark_text m)) signs mark e))) refl

found : (bytes : List ℕ) → IsFound bytes (token_at bytes)
unfolding token_at sign_at
found [] = tt
found (b ∷ bytes) =
    let all : List ℕ = b ∷ bytes in
    let w = whole_at all in
    let q = quoted_token (closed_at 34 bytes) in
    let t = text_token (closed_at 39 bytes) in
    let s = sign_at all in
    found_cond all (is_letter b) (word_at all) (cond (is_digit b || b == 45) w (cond (b == 34) q (cond (b == 39) t s))) (λ h. word_found b bytes h)
    (λ _. found_cond all (is_digit b || b == 45) w (cond (b == 34) q (cond (b == 39) t s))
    (λ _. found_cond all (b == 45) (whole_of all 1 (prefix_len is_digit bytes)) (whole_of all 0 (prefix_len is_digit all))
    (λ m. subst (λ (c : ℕ). IsFound (c ∷ bytes) (whole_of (c ∷ bytes) 1 (prefix_len is_digit bytes))) (sym (eqb-true b 45 m)) (minus_found bytes (prefix_len is_digit bytes) refl (prefix_len-le-length is_digit bytes)))
    (λ _. digits_found all (prefix_len is_digit all) refl (prefix_len-le-length is_digit all)))
    (λ _. found_cond all (b == 34) q (cond (b == 39) t s) (λ m. subst (λ (c : ℕ). IsFound (c ∷ bytes) q) (sym (eqb-true b 34 m)) (quoted_found bytes (closed_at 34 bytes) (closed_as 34 bytes)))
    (λ _. found_cond all (b == 39) t s (λ m. subst (λ (c : ℕ). IsFound (c ∷ bytes) t) (sym (eqb-true b 39 m)) (text_found bytes (closed_at 39 bytes) (closed_as 39 bytes)))
    (λ _. sign_found all (find (λ m. starts_with nat_eq all (mark_text m)) signs) refl))))

-- ---- the law

pair_is : (t u : Token) (m n : ℕ) → (let a : Option (Token × ℕ) = Some (t, m) in a ≡ Some (u, n)) → (t ≡ u) × (m ≡ n)
pair_is t u m n e = some_pair_parts t u m n e

-- a token at the front is covered by what is read
front_covers : (bytes : List ℕ) (more : ℕ) (other : Token) → more ≤ length bytes → IsToken (take more bytes) other → Covers (take more bytes) (drop more bytes) other
front_covers bytes more other le h = covers (take more bytes) (drop more bytes) other h

is_longest : (bytes : List ℕ) (token : Token) (n : ℕ) → token_at bytes ≡ Some (token, n) → IsLongest bytes token n
is_longest bytes token n e =
    let ends = rw e at (token_ends bytes) in
    record {
      within = omega (arith, ends.is, ends.within);
      is = rw e at (found bytes);
      longest = λ more other le h.
          let c = front_covers bytes more other le h in
          let same = pair_is c.token token c.n n (sym c.at ∙ ap token_at (take-append-drop more bytes) ∙ e) in
          omega (arith, c.far, same.1, length-take-le more bytes le);
    }

is_taken : (bytes : List ℕ) (token : Token) (n : ℕ) → IsLongest bytes token n → token_at bytes ≡ Some (token, n)
is_taken bytes token n h =
    let c = front_covers bytes n token h.within h.is in
    let at : token_at bytes ≡ Some (c.token, c.n) = ap token_at (sym (take-append-drop n bytes)) ∙ c.at in
    let other = is_longest bytes c.token c.n at in
    let le = h.longest c.n c.token other.within other.is in
    let long = length-take-le n bytes h.within in
    let same : length (take n bytes) ≡ c.n = omega (arith, c.far, le, long) in
    let count : c.n ≡ n = omega (arith, same, long) in
    at ∙ ap (λ (t : Token). Some (t, c.n)) (sym (c.same same)) ∙ ap (λ (k : ℕ). Some (token, k)) count

pub takes_the_longest : TakesTheLongest
takes_the_longest bytes token n = (is_longest bytes token n, is_taken bytes token n)
