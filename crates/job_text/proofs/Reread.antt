-- The text of tokens has these tokens.
use Rattle.std.proofs.Common.{◌≡◌, ℕ, ◌+◌, ◌-◌, Bool, true, false, cond, List, [], ◌∷◌, ◌++◌, length, Some, None, refl, sym, ap, subst, ◌∙◌, append_assoc, arith}
use Rattle.std.specs.Prelude.{All, ◌||◌}
use Rattle.std.proofs.lemmas.List.{append-nil, drop_at, length-append}
use Rattle.std.proofs.lemmas.List.Elements.{All-tail, All-head}
use Rattle.job_text.specs.declared.mark.Mark.TheVariants as marks
use Rattle.job_text.specs.declared.token.Token.{Token}
use Rattle.job_text.specs.declared.token.Token.TheVariants.{Fixed}
use Rattle.job_text.specs.Scan.{is_blank, token_at}
use Rattle.job_text.specs.Text.{Scanned, scan, with_token}
use Rattle.job_text.specs.Place.{only_tokens}
use Rattle.job_text.specs.Printing.{token_text, tokens_text, is_attached, is_opening}
use Rattle.job_text.proofs.Again.{StandsApart, IsPrintable, Starts, open_again, token_again, token_starts}
use Rattle.job_text.proofs.Scanning.{skipped}

-- these are the tokens, and nothing is left
pub record HasTokens (scanned : Scanned) (ts : List Token) : Type 0 where
  pub tokens : only_tokens scanned.tokens ≡ ts
  pub whole : scanned.stop ≡ None

blank_skipped : (place : ℕ) (bytes : List ℕ) → scan 0 place (32 ∷ bytes) ≡ scan 0 (place + 1) bytes
unfolding scan
blank_skipped place bytes = refl

first_scanned : (place b : ℕ) (bs rest : List ℕ) (t : Token) → is_blank b ≡ false → token_at (b ∷ (bs ++ rest)) ≡ Some (t, length (b ∷ bs)) → scan 0 place (b ∷ (bs ++ rest)) ≡ with_token t place (scan (length (b ∷ bs) - 1) (place + 1) (bs ++ rest))
unfolding scan
first_scanned place b bs rest t dark e = rw (dark, e) refl

token_scanned : (place : ℕ) (text rest : List ℕ) (t : Token) → Starts text → token_at (text ++ rest) ≡ Some (t, length text) → scan 0 place (text ++ rest) ≡ with_token t place (scan 0 (place + length text) rest)
token_scanned place text rest t s e =
    let b = s.first in
    let bs = s.more in
    let at : token_at (b ∷ (bs ++ rest)) ≡ Some (t, length (b ∷ bs)) = subst (λ (l : List ℕ). token_at (l ++ rest) ≡ Some (t, length l)) s.is e in
    ap (λ (l : List ℕ). scan 0 place (l ++ rest)) s.is ∙ first_scanned place b bs rest t s.dark at
    ∙ ap (λ (n : ℕ). with_token t place (scan n (place + 1) (bs ++ rest))) (omega arith)
    ∙ ap (with_token t place) (skipped (length bs) (place + 1) (bs ++ rest) (omega (arith, length-append bs rest))
    ∙ ap (λ (l : List ℕ). scan 0 (place + 1 + length bs) l) (drop_at bs rest (length bs) refl)
    ∙ ap (λ (n : ℕ). scan 0 n rest) (omega (arith, ap length s.is)))

-- a token, and then those of the rest
then_tokens : (place : ℕ) (text rest : List ℕ) (t : Token) (ts : List Token) → Starts text → token_at (text ++ rest) ≡ Some (t, length text) → HasTokens (scan 0 (place + length text) rest) ts → HasTokens (scan 0 place (text ++ rest)) (t ∷ ts)
then_tokens place text rest t ts s e h =
    let is = token_scanned place text rest t s e in
    record {
      tokens = ap (λ (x : Scanned). only_tokens x.tokens) is ∙ ap (λ (l : List Token). t ∷ l) h.tokens;
      whole = ap (λ (x : Scanned). x.stop) is ∙ h.whole;
    }

-- what begins with an attached sign stands apart
attached_apart : (next : Token) (more : List Token) → is_attached next ≡ true → StandsApart (tokens_text (next ∷ more))
attached_apart (Fixed marks.Comma) [] h = (refl, refl, refl, refl)
attached_apart (Fixed marks.Comma) (t ∷ more) h = (refl, refl, refl, refl)
attached_apart (Fixed marks.Colon) [] h = (refl, refl, refl, refl)
attached_apart (Fixed marks.Colon) (t ∷ more) h = (refl, refl, refl, refl)
attached_apart (Fixed marks.Semicolon) [] h = (refl, refl, refl, refl)
attached_apart (Fixed marks.Semicolon) (t ∷ more) h = (refl, refl, refl, refl)
attached_apart (Fixed marks.Close) [] h = (refl, refl, refl, refl)
attached_apart (Fixed marks.Close) (t ∷ more) h = (refl, refl, refl, refl)
attached_apart _ more h = absurd cc

opening_is : (t : Token) → is_opening t ≡ true → t ≡ Fixed marks.Open
opening_is (Fixed marks.Open) h = refl
opening_is _ h = absurd cc

-- a token before others, whatever stands between
read_before : (t next : Token) (more : List Token) → IsPrintable t → (place : ℕ) → ((later : ℕ) → HasTokens (scan 0 later (tokens_text (next ∷ more))) (next ∷ more)) → HasTokens (scan 0 place (tokens_text (t ∷ next ∷ more))) (t ∷ next ∷ more)
read_before t next more h place again = by (is_opening t) (is_attached next) refl refl
  where
    opened : t ≡ Fixed marks.Open → token_at (token_text t ++ tokens_text (next ∷ more)) ≡ Some (t, length (token_text t))
    opened e = subst (λ (t : Token). token_at (token_text t ++ tokens_text (next ∷ more)) ≡ Some (t, length (token_text t))) (sym e) (open_again (tokens_text (next ∷ more)))

    together : token_at (token_text t ++ tokens_text (next ∷ more)) ≡ Some (t, length (token_text t)) → HasTokens (scan 0 place (token_text t ++ [] ++ tokens_text (next ∷ more))) (t ∷ next ∷ more)
    together e = subst (λ (l : List ℕ). HasTokens (scan 0 place (l ++ tokens_text (next ∷ more))) (t ∷ next ∷ more)) (sym (append-nil (token_text t)))
        (then_tokens place (token_text t) (tokens_text (next ∷ more)) t (next ∷ more) (token_starts t h) e (again (place + length (token_text t))))

    by : (o a : Bool) → is_opening t ≡ o → is_attached next ≡ a → HasTokens (scan 0 place (token_text t ++ cond (o || a) [] (32 ∷ []) ++ tokens_text (next ∷ more))) (t ∷ next ∷ more)
    by true a e f = together (opened (opening_is t e))
    by false true e f = together (token_again t (tokens_text (next ∷ more)) h (attached_apart next more f))
    by false false e f =
        subst (λ (l : List ℕ). HasTokens (scan 0 place l) (t ∷ next ∷ more)) (sym (append_assoc (token_text t) (32 ∷ []) (tokens_text (next ∷ more))))
        (then_tokens place (token_text t) (32 ∷ tokens_text (next ∷ more)) t (next ∷ more) (token_starts t h) (token_again t (32 ∷ tokens_text (next ∷ more)) h (refl, refl, refl, refl))
        (subst (λ (s : Scanned). HasTokens s (next ∷ more)) (sym (blank_skipped (place + length (token_text t)) (tokens_text (next ∷ more)))) (again (place + length (token_text t) + 1))))

nothing_scanned : (place : ℕ) → HasTokens (scan 0 place []) []
unfolding scan
nothing_scanned place = record { tokens = refl; whole = refl }

pub text_tokens : (ts : List Token) → All IsPrintable ts → (place : ℕ) → HasTokens (scan 0 place (tokens_text ts)) ts
text_tokens [] h place = nothing_scanned place
text_tokens (t ∷ []) h place =
    let p = All-head IsPrintable t [] h in
    subst (λ (l : List ℕ). HasTokens (scan 0 place l) (t ∷ [])) (append-nil (token_text t))
    (then_tokens place (token_text t) [] t [] (token_starts t p) (token_again t [] p tt) (nothing_scanned (place + length (token_text t))))
text_tokens (t ∷ next ∷ more) h place = read_before t next more (All-head IsPrintable t (next ∷ more) h) place (λ later. text_tokens (next ∷ more) (All-tail IsPrintable t (next ∷ more) h) later)
