-- A text is read from each place on as from its start.
use Rattle.std.proofs.Common.{◌≡◌, ℕ, zero, suc, ◌+◌, ◌-◌, ◌<◌, ◌≤◌, true, false, List, [], ◌∷◌, length, length-drop, drop, get_or, Some, None, Err, refl, ap, ◌∙◌, arith}
use Rattle.std.proofs.lemmas.List.{drop_more, drop-drop}
use Rattle.job_text.specs.declared.token.Token.{Token}
use Rattle.job_text.specs.declared.state.State.{State}
use Rattle.job_text.specs.Scan.{is_blank, token_at}
use Rattle.job_text.specs.Step.{step}
use Rattle.job_text.specs.Begins.{job_at}
use Rattle.job_text.specs.Text.{scan, outcome, outcome_of, at_end, next_or}
use Rattle.job_text.proofs.Ends.{token_ends, ends_boundary}
use Rattle.std.specs.Str.{IsUtf8, IsCharBoundary}
use Rattle.std.proofs.lemmas.Str.{IsCharBoundary-after_ascii, IsCharBoundary-from_rest, IsUtf8-drop}

pub skipped : (skip place : ℕ) (bytes : List ℕ) → skip ≤ length bytes → scan skip place bytes ≡ scan 0 (place + skip) (drop skip bytes)
unfolding scan
skipped zero place bytes le = ap (λ (p : ℕ). scan 0 p bytes) (omega arith)
skipped (suc skip) place [] le = absurd (omega arith)
skipped (suc skip) place (b ∷ bytes) le = skipped skip (place + 1) bytes (omega arith) ∙ ap (λ (p : ℕ). scan 0 p (drop skip bytes)) (omega arith)

module _ (len : ℕ) (s : State) (place : ℕ) (bytes : List ℕ) where
  pub at_none : bytes ≡ [] → outcome_of len s (scan 0 place bytes) ≡ at_end len None (job_at (Some s))
  unfolding scan outcome
  at_none e = rw e refl

module _ (len : ℕ) (s : State) (place b : ℕ) (bytes : List ℕ) where
  at_blank : is_blank b ≡ true → outcome_of len s (scan 0 place (b ∷ bytes)) ≡ outcome_of len s (scan 0 (place + 1) bytes)
  unfolding scan
  at_blank e = rw e refl

  at_bad : is_blank b ≡ false → token_at (b ∷ bytes) ≡ None → outcome_of len s (scan 0 place (b ∷ bytes)) ≡ Err place
  unfolding scan outcome
  at_bad e f = rw (e, f) refl

  at_token : (t : Token) (n : ℕ) → is_blank b ≡ false → token_at (b ∷ bytes) ≡ Some (t, n) → outcome_of len s (scan 0 place (b ∷ bytes)) ≡ next_or (step s t) (Err place) (λ next. outcome_of len next (scan (n - 1) (place + 1) bytes))
  unfolding scan outcome
  at_token t n e f = rw (e, f) refl

-- ---- by the place

module _ (len : ℕ) (s : State) (place : ℕ) (text : List ℕ) (lt : place < length text) where
  front : drop place text ≡ get_or text place 0 ∷ drop (place + 1) text
  front = drop_more text place 0 lt

  pub blank_at : is_blank (get_or text place 0) ≡ true → outcome_of len s (scan 0 place (drop place text)) ≡ outcome_of len s (scan 0 (place + 1) (drop (place + 1) text))
  blank_at e = rw front (at_blank len s place _ _ e)

  pub bad_at : is_blank (get_or text place 0) ≡ false → token_at (drop place text) ≡ None → outcome_of len s (scan 0 place (drop place text)) ≡ Err place
  bad_at e f = rw front (at_bad len s place _ _ e (rw front at f))

  pub token_next : (t : Token) (n : ℕ) → is_blank (get_or text place 0) ≡ false → token_at (drop place text) ≡ Some (t, n) → outcome_of len s (scan 0 place (drop place text)) ≡ next_or (step s t) (Err place) (λ next. outcome_of len next (scan (n - 1) (place + 1) (drop (place + 1) text)))
  token_next t n e f = rw front (at_token len s place _ _ t n e (rw front at f))

-- the place behind a token
pub behind : (place : ℕ) (text : List ℕ) (t : Token) (n : ℕ) → place < length text → token_at (drop place text) ≡ Some (t, n) → (1 ≤ n) × (place + n ≤ length text) × (scan (n - 1) (place + 1) (drop (place + 1) text) ≡ scan 0 (place + n) (drop (place + n) text))
behind place text t n lt e =
    let ends = rw e at (token_ends (drop place text)) in
    let long : place + n ≤ length text = omega (arith, ends.is, ends.within, length-drop place text) in (
      (omega (arith, ends.is)),
      long,
      skipped (n - 1) (place + 1) (drop (place + 1) text) (omega (arith, ends.is, long, length-drop (place + 1) text))
          ∙ ap (λ (l : List ℕ). scan 0 (place + 1 + (n - 1)) l) (drop-drop (n - 1) (place + 1) text) ∙ ap (λ (k : ℕ). scan 0 k (drop k text)) (omega (arith, ends.is)),
    )

-- ---- a text is cut behind what was read

blank_ascii : (b : ℕ) → is_blank b ≡ true → b < 128
blank_ascii b h = grind arith

pub blank_boundary : (place : ℕ) (text : List ℕ) → IsUtf8 text → place < length text → is_blank (get_or text place 0) ≡ true → IsCharBoundary text (place + 1)
blank_boundary place text u lt e = IsCharBoundary-after_ascii text place u lt (blank_ascii _ e)

pub token_boundary : (place : ℕ) (text : List ℕ) → IsUtf8 text → IsCharBoundary text place → place < length text → (t : Token) (n : ℕ) → token_at (drop place text) ≡ Some (t, n) → IsCharBoundary text (place + n)
token_boundary place text u cut lt t n e =
    IsCharBoundary-from_rest text place n (omega arith) (ends_boundary (drop place text) n (IsUtf8-drop text place u cut) (rw e at (token_ends (drop place text))))
