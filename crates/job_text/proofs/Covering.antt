-- Where a token stands at the front, what is read takes as much or more.
use Rattle.std.proofs.Common.{◌≡◌, ℕ, zero, suc, ◌+◌, ◌≤◌, Bool, true, false, cond, List, [], ◌∷◌, ◌++◌, length, take, drop, Option, Some, None, refl, sym, ap, subst, ◌∙◌, append_assoc, arith, inl, inr}
use Rattle.std.specs.Prelude.{◌==◌, nat_eq, not, is_some}
use Rattle.std.specs.List.{prefix_len, take_while, list_all}
use Rattle.std.proofs.lemmas.Bool.{eq-eqb, eqb-true, and_parts, cases_Bool}
use Rattle.std.proofs.lemmas.List.{take_at, length-append}
use Rattle.std.proofs.lemmas.List.Folds.{length-prefix_len}
use Rattle.row_form.specs.Numbers.{number}
use Rattle.job_text.specs.declared.mark.Mark.{Mark}
use Rattle.job_text.specs.declared.mark.Mark.TheVariants as marks
use Rattle.job_text.specs.declared.token.Token.{Token}
use Rattle.job_text.specs.declared.token.Token.TheVariants.{Fixed, Quoted, Text, Whole}
use Rattle.job_text.specs.Marks.{mark_text}
use Rattle.job_text.specs.Scan.{closed_at, with_byte, or_closed, word_at, word_token, sign_at, whole_of, token_at, is_letter, is_digit, is_word_byte, reserved_as}
use Rattle.job_text.specs.Printing.{doubled}
use Rattle.job_text.specs.Tokens.{AreDigits, IsToken}
use Rattle.job_text.specs.Tokens.{fixed, word, quoted, text, whole, below}
use Rattle.job_text.proofs.Again.{at_letter, at_digit, at_minus, whole_plain, no_minus, three, none_reserved}

-- ---- a token at the front: what is read takes as much or more

pub record Covers (bytes rest : List ℕ) (other : Token) : Type 0 where
  pub token : Token
  pub n : ℕ
  pub at : token_at (bytes ++ rest) ≡ Some (token, n)
  pub far : length bytes ≤ n
  pub same : length bytes ≡ n → other ≡ token

pub prefix_far : (p : ℕ → Bool) (w rest : List ℕ) → list_all p w ≡ true → length w ≤ prefix_len p (w ++ rest)
prefix_far p [] rest h = omega arith
prefix_far p (b ∷ w) rest h = let both = and_parts (p b) (list_all p w) h in rw both.0 (omega (arith, prefix_far p w rest both.1))

pub word_spelled : (bytes : List ℕ) → word_at bytes ≡ Some (word_token (take_while is_word_byte bytes) (reserved_as (take_while is_word_byte bytes)), length (take_while is_word_byte bytes))
unfolding word_at
word_spelled bytes = refl

pub word_covers : (b : ℕ) (bs rest : List ℕ) (o : Option Mark) → is_letter b ≡ true → list_all is_word_byte (b ∷ bs) ≡ true → reserved_as (b ∷ bs) ≡ o → Covers (b ∷ bs) rest (word_token (b ∷ bs) o)
word_covers b bs rest o h all e =
    let w : List ℕ = b ∷ bs in
    let front = take_while is_word_byte (w ++ rest) in
    let long : length front ≡ prefix_len is_word_byte (w ++ rest) = length-prefix_len is_word_byte (w ++ rest) in
    record {
      token = word_token front (reserved_as front);
      n = length front;
      at = at_letter b (bs ++ rest) h ∙ word_spelled (w ++ rest);
      far = omega (arith, long, prefix_far is_word_byte w rest all);
      same = λ eq.
          let is : front ≡ w = ap (λ (k : ℕ). take k (w ++ rest)) (sym long ∙ sym eq) ∙ take_at w rest (length w) refl in
          ap (word_token w) (sym e) ∙ ap (λ (l : List ℕ). word_token l (reserved_as l)) (sym is);
    }

pub sign_covers : (bytes rest : List ℕ) (mark : Mark) → token_at (bytes ++ rest) ≡ Some (Fixed mark, length bytes) → Covers bytes rest (Fixed mark)
sign_covers bytes rest mark e = record { token = Fixed mark; n = length bytes; at = e; far = omega arith; same = λ _. refl }

-- a sign that `=` may follow
pub longer_covers : (b : ℕ) (rest : List ℕ) (one two : Mark) → token_at (b ∷ []) ≡ Some (Fixed one, 1) → ((c : ℕ) (more : List ℕ) → token_at (b ∷ c ∷ more) ≡ cond (nat_eq 61 c) (Some (Fixed two, 2)) (Some (Fixed one, 1))) → Covers (b ∷ []) rest (Fixed one)
longer_covers b [] one two e f = sign_covers (b ∷ []) [] one e
longer_covers b (c ∷ more) one two e f = elim (cases_Bool (nat_eq 61 c)) [
  | inl t ↦ record { token = Fixed two; n = 2; at = f c more ∙ rw t refl; far = omega arith; same = λ eq. absurd (omega (arith, eq)) }
  | inr t ↦ sign_covers (b ∷ []) (c ∷ more) one (f c more ∙ rw t refl)
]

pub mark_covers : (m : Mark) (rest : List ℕ) → Covers (mark_text m) rest (Fixed m)
unfolding token_at sign_at
mark_covers marks.Let rest = word_covers 108 (drop 1 (mark_text marks.Let)) rest (Some marks.Let) refl refl refl
mark_covers marks.Where rest = word_covers 119 (drop 1 (mark_text marks.Where)) rest (Some marks.Where) refl refl refl
mark_covers marks.Keep rest = word_covers 107 (drop 1 (mark_text marks.Keep)) rest (Some marks.Keep) refl refl refl
mark_covers marks.Memory rest = word_covers 109 (drop 1 (mark_text marks.Memory)) rest (Some marks.Memory) refl refl refl
mark_covers marks.Disk rest = word_covers 100 (drop 1 (mark_text marks.Disk)) rest (Some marks.Disk) refl refl refl
mark_covers marks.Group rest = word_covers 103 (drop 1 (mark_text marks.Group)) rest (Some marks.Group) refl refl refl
mark_covers marks.Order rest = word_covers 111 (drop 1 (mark_text marks.Order)) rest (Some marks.Order) refl refl refl
mark_covers marks.Count rest = word_covers 99 (drop 1 (mark_text marks.Count)) rest (Some marks.Count) refl refl refl
mark_covers marks.Sum rest = word_covers 115 (drop 1 (mark_text marks.Sum)) rest (Some marks.Sum) refl refl refl
mark_covers marks.Min rest = word_covers 109 (drop 1 (mark_text marks.Min)) rest (Some marks.Min) refl refl refl
mark_covers marks.Max rest = word_covers 109 (drop 1 (mark_text marks.Max)) rest (Some marks.Max) refl refl refl
mark_covers marks.From rest = word_covers 102 (drop 1 (mark_text marks.From)) rest (Some marks.From) refl refl refl
mark_covers marks.Number rest = word_covers 110 (drop 1 (mark_text marks.Number)) rest (Some marks.Number) refl refl refl
mark_covers marks.Down rest = word_covers 100 (drop 1 (mark_text marks.Down)) rest (Some marks.Down) refl refl refl
mark_covers marks.And rest = word_covers 97 (drop 1 (mark_text marks.And)) rest (Some marks.And) refl refl refl
mark_covers marks.Or rest = word_covers 111 (drop 1 (mark_text marks.Or)) rest (Some marks.Or) refl refl refl
mark_covers marks.Not rest = word_covers 110 (drop 1 (mark_text marks.Not)) rest (Some marks.Not) refl refl refl
mark_covers marks.Input rest = word_covers 105 (drop 1 (mark_text marks.Input)) rest (Some marks.Input) refl refl refl
mark_covers marks.Less rest = longer_covers 60 rest marks.Less marks.AtMost refl (λ c more. less_next c more)
  where
    less_next : (c : ℕ) (more : List ℕ) → token_at (60 ∷ c ∷ more) ≡ cond (nat_eq 61 c) (Some (Fixed marks.AtMost, 2)) (Some (Fixed marks.Less, 1))
    less_next c more = elim (cases_Bool (nat_eq 61 c)) [
      | inl t ↦ rw t refl
      | inr t ↦ rw t refl
    ]
mark_covers marks.Greater rest = longer_covers 62 rest marks.Greater marks.AtLeast refl (λ c more. greater_next c more)
  where
    greater_next : (c : ℕ) (more : List ℕ) → token_at (62 ∷ c ∷ more) ≡ cond (nat_eq 61 c) (Some (Fixed marks.AtLeast, 2)) (Some (Fixed marks.Greater, 1))
    greater_next c more = elim (cases_Bool (nat_eq 61 c)) [
      | inl t ↦ rw t refl
      | inr t ↦ rw t refl
    ]
mark_covers marks.Comma [] = sign_covers (mark_text marks.Comma) [] marks.Comma refl
mark_covers marks.Comma (c ∷ rest) = sign_covers (mark_text marks.Comma) (c ∷ rest) marks.Comma refl
mark_covers marks.Colon [] = sign_covers (mark_text marks.Colon) [] marks.Colon refl
mark_covers marks.Colon (c ∷ rest) = sign_covers (mark_text marks.Colon) (c ∷ rest) marks.Colon refl
mark_covers marks.Semicolon [] = sign_covers (mark_text marks.Semicolon) [] marks.Semicolon refl
mark_covers marks.Semicolon (c ∷ rest) = sign_covers (mark_text marks.Semicolon) (c ∷ rest) marks.Semicolon refl
mark_covers marks.Open [] = sign_covers (mark_text marks.Open) [] marks.Open refl
mark_covers marks.Open (c ∷ rest) = sign_covers (mark_text marks.Open) (c ∷ rest) marks.Open refl
mark_covers marks.Close [] = sign_covers (mark_text marks.Close) [] marks.Close refl
mark_covers marks.Close (c ∷ rest) = sign_covers (mark_text marks.Close) (c ∷ rest) marks.Close refl
mark_covers marks.Equal [] = sign_covers (mark_text marks.Equal) [] marks.Equal refl
mark_covers marks.Equal (c ∷ rest) = sign_covers (mark_text marks.Equal) (c ∷ rest) marks.Equal refl
mark_covers marks.NotEqual rest = sign_covers (mark_text marks.NotEqual) rest marks.NotEqual refl
mark_covers marks.AtMost rest = sign_covers (mark_text marks.AtMost) rest marks.AtMost refl
mark_covers marks.AtLeast rest = sign_covers (mark_text marks.AtLeast) rest marks.AtLeast refl

-- ---- quotes

pub record Closes (quote : ℕ) (content rest : List ℕ) : Type 0 where
  pub found : List ℕ × ℕ
  pub at : closed_at quote (doubled quote content ++ quote ∷ rest) ≡ Some found
  pub far : length (doubled quote content) + 1 ≤ found.1
  pub same : length (doubled quote content) + 1 ≡ found.1 → found.0 ≡ content

pub closes_end : (quote : ℕ) (rest : List ℕ) → Closes quote [] rest
unfolding closed_at
closes_end quote [] = record { found = ([], 1); at = rw (eq-eqb quote quote refl) refl; far = omega arith; same = λ _. refl }
closes_end quote (c ∷ rest) = elim (cases_Bool (c == quote)) [
  | inl t ↦ by (closed_at quote rest) (rw (eq-eqb quote quote refl, t) refl)
  | inr t ↦ record { found = ([], 1); at = rw (eq-eqb quote quote refl, t) refl; far = omega arith; same = λ _. refl }
]
  where
    by : (o : Option (List ℕ × ℕ)) → closed_at quote (quote ∷ c ∷ rest) ≡ or_closed (with_byte quote 2 o) → Closes quote [] (c ∷ rest)
    by None e = record { found = ([], 1); at = e; far = omega arith; same = λ _. refl }
    by (Some found) e = record { found = (quote ∷ found.0, found.1 + 2); at = e; far = omega arith; same = λ eq. absurd (omega (arith, eq)) }

pub other_before : (quote b : ℕ) (more : List ℕ) (found : List ℕ × ℕ) → (b == quote) ≡ false → closed_at quote more ≡ Some found → closed_at quote (b ∷ more) ≡ Some (b ∷ found.0, found.1 + 1)
unfolding closed_at
other_before quote b [] found ne e = absurd cc
other_before quote b (c ∷ more) found ne e = rw (ne, e) refl

pub two_before : (quote : ℕ) (more : List ℕ) (found : List ℕ × ℕ) → closed_at quote more ≡ Some found → closed_at quote (quote ∷ quote ∷ more) ≡ Some (quote ∷ found.0, found.1 + 2)
unfolding closed_at
two_before quote more found e = rw (eq-eqb quote quote refl, e) refl

pub closes : (quote : ℕ) (content rest : List ℕ) → Closes quote content rest
closes quote [] rest = closes_end quote rest
closes quote (b ∷ content) rest = elim (cases_Bool (b == quote)) [
  | inl t ↦
      let same : b ≡ quote = eqb-true b quote t in
      let spelled : doubled quote (b ∷ content) ≡ quote ∷ quote ∷ doubled quote content = rw t refl in
      with_two (closes quote content rest) same spelled
  | inr t ↦
      let spelled : doubled quote (b ∷ content) ≡ b ∷ doubled quote content = rw t refl in
      with_one (closes quote content rest) t spelled
]
  where
    with_two : Closes quote content rest → b ≡ quote → doubled quote (b ∷ content) ≡ quote ∷ quote ∷ doubled quote content → Closes quote (b ∷ content) rest
    with_two h same spelled = record {
      found = (quote ∷ h.found.0, h.found.1 + 2);
      at = ap (λ (l : List ℕ). closed_at quote (l ++ quote ∷ rest)) spelled ∙ two_before quote (doubled quote content ++ quote ∷ rest) h.found h.at;
      far = omega (arith, h.far, ap length spelled);
      same = λ eq. ap (λ (l : List ℕ). quote ∷ l) (h.same (omega (arith, eq, ap length spelled))) ∙ ap (λ (q : ℕ). q ∷ content) (sym same);
    }

    with_one : Closes quote content rest → (b == quote) ≡ false → doubled quote (b ∷ content) ≡ b ∷ doubled quote content → Closes quote (b ∷ content) rest
    with_one h ne spelled = record {
      found = (b ∷ h.found.0, h.found.1 + 1);
      at = ap (λ (l : List ℕ). closed_at quote (l ++ quote ∷ rest)) spelled ∙ other_before quote b (doubled quote content ++ quote ∷ rest) h.found ne h.at;
      far = omega (arith, h.far, ap length spelled);
      same = λ eq. ap (λ (l : List ℕ). b ∷ l) (h.same (omega (arith, eq, ap length spelled)));
    }

pub quoted_is : (bytes : List ℕ) (found : List ℕ × ℕ) → closed_at 34 bytes ≡ Some found → token_at (34 ∷ bytes) ≡ Some (Quoted found.0, found.1 + 1)
unfolding token_at
quoted_is bytes found e = rw e refl

pub text_is : (bytes : List ℕ) (found : List ℕ × ℕ) → closed_at 39 bytes ≡ Some found → token_at (39 ∷ bytes) ≡ Some (Text found.0, found.1 + 1)
unfolding token_at
text_is bytes found e = rw e refl

pub quoted_covers : (name rest : List ℕ) → Covers (34 ∷ doubled 34 name ++ 34 ∷ []) rest (Quoted name)
quoted_covers name rest =
    let h = closes 34 name rest in
    let long : length (34 ∷ doubled 34 name ++ 34 ∷ []) ≡ length (doubled 34 name) + 2 = omega (arith, length-append (doubled 34 name) (34 ∷ [])) in
    record {
      token = Quoted h.found.0;
      n = h.found.1 + 1;
      at = ap (λ (l : List ℕ). token_at (34 ∷ l)) (append_assoc (doubled 34 name) (34 ∷ []) rest) ∙ quoted_is (doubled 34 name ++ 34 ∷ rest) h.found h.at;
      far = omega (arith, long, h.far);
      same = λ eq. ap (λ (l : List ℕ). Quoted l) (sym (h.same (omega (arith, eq, long))));
    }

pub text_covers : (content rest : List ℕ) → Covers (39 ∷ doubled 39 content ++ 39 ∷ []) rest (Text content)
text_covers content rest =
    let h = closes 39 content rest in
    let long : length (39 ∷ doubled 39 content ++ 39 ∷ []) ≡ length (doubled 39 content) + 2 = omega (arith, length-append (doubled 39 content) (39 ∷ [])) in
    record {
      token = Text h.found.0;
      n = h.found.1 + 1;
      at = ap (λ (l : List ℕ). token_at (39 ∷ l)) (append_assoc (doubled 39 content) (39 ∷ []) rest) ∙ text_is (doubled 39 content ++ 39 ∷ rest) h.found h.at;
      far = omega (arith, long, h.far);
      same = λ eq. ap (λ (l : List ℕ). Text l) (sym (h.same (omega (arith, eq, long))));
    }

-- ---- whole numbers

pub some_digits : (bytes : List ℕ) (sign digits : ℕ) → 1 ≤ digits → whole_of bytes sign digits ≡ Some (Whole (number (take (sign + digits) bytes)), sign + digits)
some_digits bytes sign zero h = absurd (omega arith)
some_digits bytes sign (suc more) h = refl

pub whole_covers : (d : ℕ) (ds rest : List ℕ) → list_all is_digit (d ∷ ds) ≡ true → Covers (d ∷ ds) rest (Whole (number (d ∷ ds)))
whole_covers d ds rest all =
    let w : List ℕ = d ∷ ds in
    let digit = (and_parts (is_digit d) (list_all is_digit ds) all).0 in
    let n = prefix_len is_digit (w ++ rest) in
    let far : length w ≤ n = prefix_far is_digit w rest all in
    record {
      token = Whole (number (take (0 + n) (w ++ rest)));
      n = 0 + n;
      at = at_digit d (ds ++ rest) digit ∙ whole_plain d (ds ++ rest) (no_minus d digit) ∙ some_digits (w ++ rest) 0 n (omega (arith, far));
      far = omega (arith, far);
      same = λ eq. ap (λ (l : List ℕ). Whole (number l)) (sym (take_at w rest (0 + n) eq));
    }

pub below_covers : (digits rest : List ℕ) → AreDigits digits → Covers (45 ∷ digits) rest (Whole (number (45 ∷ digits)))
below_covers digits rest h =
    let w : List ℕ = 45 ∷ digits in
    let n = prefix_len is_digit (digits ++ rest) in
    let far : length digits ≤ n = prefix_far is_digit digits rest h.all in
    record {
      token = Whole (number (take (1 + n) (w ++ rest)));
      n = 1 + n;
      at = at_minus (digits ++ rest) ∙ some_digits (w ++ rest) 1 n (omega (arith, far, h.some));
      far = omega (arith, far);
      same = λ eq. ap (λ (l : List ℕ). Whole (number l)) (sym (take_at w rest (1 + n) eq));
    }

pub covers : (bytes rest : List ℕ) (other : Token) → IsToken bytes other → Covers bytes rest other
covers bytes rest other (fixed mark e t) = subst (λ (l : List ℕ). Covers l rest other) (sym e) (subst (Covers (mark_text mark) rest) (sym t) (mark_covers mark rest))
covers [] rest other (word h t) = absurd cc
covers (b ∷ bs) rest other (word h t) =
    let parts = three (is_letter b) (list_all is_word_byte (b ∷ bs)) (not (is_some (reserved_as (b ∷ bs)))) h in
    subst (Covers (b ∷ bs) rest) (sym t) (word_covers b bs rest None parts.0 parts.1 (none_reserved (reserved_as (b ∷ bs)) parts.2))
covers bytes rest other (quoted name e t) = subst (λ (l : List ℕ). Covers l rest other) (sym e) (subst (Covers (34 ∷ doubled 34 name ++ 34 ∷ []) rest) (sym t) (quoted_covers name rest))
covers bytes rest other (text content e t) = subst (λ (l : List ℕ). Covers l rest other) (sym e) (subst (Covers (39 ∷ doubled 39 content ++ 39 ∷ []) rest) (sym t) (text_covers content rest))
covers [] rest other (whole h t) = absurd (omega (arith, h.some))
covers (d ∷ ds) rest other (whole h t) = subst (Covers (d ∷ ds) rest) (sym t) (whole_covers d ds rest h.all)
covers bytes rest other (below digits e h t) =
    subst (λ (l : List ℕ). Covers l rest other) (sym e) (subst (Covers (45 ∷ digits) rest) (sym (t ∙ ap (λ (l : List ℕ). Whole (number l)) e)) (below_covers digits rest h))
