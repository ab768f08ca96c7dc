-- Going through the bytes behind an open quote.
use Rattle.std.proofs.Common.{◌≡◌, ℕ, suc, ◌+◌, ◌<◌, List, [], ◌∷◌, ◌++◌, length, take, get_or, Option, Some, None, refl, sym, ap, ◌∙◌, append_assoc, arith}
use Rattle.std.specs.Prelude.{IfSome}
use Rattle.std.proofs.lemmas.Bool.{eq-eqb, ne_eqb}
use Rattle.std.proofs.lemmas.List.{append-nil, take-append-le}
use Rattle.job_text.specs.Scan.{closed_at, with_byte, or_closed}

-- what was read before, and what is found in the rest; where that isn't closed, what a doubled quote closed
abbrev pub so_far : List ℕ → ℕ → Option (List ℕ × ℕ) → Option (List ℕ × ℕ) → Option (List ℕ × ℕ)
so_far content i doubled None = doubled
so_far content i doubled (Some found) = Some (content ++ found.0, i + found.1)

abbrev pub closed_by : List ℕ → Option (ℕ × ℕ) → Option (List ℕ × ℕ)
closed_by content None = None
closed_by content (Some at) = Some (take at.0 content, at.1)

step_other : (content : List ℕ) (i b : ℕ) (doubled found : Option (List ℕ × ℕ)) → so_far content i doubled (with_byte b 1 found) ≡ so_far (content ++ b ∷ []) (i + 1) doubled found
step_other content i b doubled None = refl
step_other content i b doubled (Some found) = ap (λ (p : List ℕ × ℕ). Some p) (pair_is (sym (append_assoc content (b ∷ []) found.0)) (omega arith))
  where
    pair_is : {a c : List ℕ} {m n : ℕ} → a ≡ c → m ≡ n → let p : List ℕ × ℕ = (a, m) in let q : List ℕ × ℕ = (c, n) in p ≡ q
    pair_is e f = cc

pub other : (content : List ℕ) (i quote b : ℕ) (rest : List ℕ) (doubled : Option (List ℕ × ℕ)) → (b ≡ quote → ⊥) → so_far content i doubled (closed_at quote (b ∷ rest)) ≡ so_far (content ++ b ∷ []) (i + 1) doubled (closed_at quote rest)
unfolding closed_at
other content i quote b [] doubled ne = rw (ne_eqb b quote ne) refl
other content i quote b (c ∷ rest) doubled ne = rw (ne_eqb b quote ne) (step_other content i b doubled (closed_at quote (c ∷ rest)))

step_twice : (content : List ℕ) (i b : ℕ) (doubled found : Option (List ℕ × ℕ)) → so_far content i doubled (or_closed (with_byte b 2 found)) ≡ so_far (content ++ b ∷ []) (i + 2) (Some (content, i + 1)) found
step_twice content i b doubled None = rw append-nil refl
step_twice content i b doubled (Some found) = ap (λ (p : List ℕ × ℕ). Some p) (pair_is (sym (append_assoc content (b ∷ []) found.0)) (omega arith))
  where
    pair_is : {a c : List ℕ} {m n : ℕ} → a ≡ c → m ≡ n → let p : List ℕ × ℕ = (a, m) in let q : List ℕ × ℕ = (c, n) in p ≡ q
    pair_is e f = cc

pub twice : (content : List ℕ) (i quote : ℕ) (rest : List ℕ) (doubled : Option (List ℕ × ℕ)) → so_far content i doubled (closed_at quote (quote ∷ quote ∷ rest)) ≡ so_far (content ++ quote ∷ []) (i + 2) (Some (content, i + 1)) (closed_at quote rest)
unfolding closed_at
twice content i quote rest doubled = rw (eq-eqb quote quote refl) (step_twice content i quote doubled (closed_at quote rest))

pub last : (quote : ℕ) → closed_at quote (quote ∷ []) ≡ Some ([], 1)
unfolding closed_at
last quote = rw (eq-eqb quote quote refl) refl

pub single : (quote c : ℕ) (rest : List ℕ) → (c ≡ quote → ⊥) → closed_at quote (quote ∷ c ∷ rest) ≡ Some ([], 1)
unfolding closed_at
single quote c rest ne = rw (eq-eqb quote quote refl, ne_eqb c quote ne) refl

pub nothing : (quote : ℕ) → closed_at quote [] ≡ None
unfolding closed_at
nothing quote = refl

-- ---- piece by piece

-- none of the bytes is the quote
abbrev pub HasNone : ℕ → List ℕ → Type 0
HasNone quote piece = (i : ℕ) → i < length piece → get_or piece i 0 ≡ quote → ⊥

pub over_piece : (quote : ℕ) (piece rest content : List ℕ) (i : ℕ) (doubled : Option (List ℕ × ℕ)) → HasNone quote piece
    → so_far content i doubled (closed_at quote (piece ++ rest)) ≡ so_far (content ++ piece) (i + length piece) doubled (closed_at quote rest)
over_piece quote [] rest content i doubled none = rw append-nil (ap (λ (n : ℕ). so_far content n doubled (closed_at quote rest)) (omega arith))
over_piece quote (b ∷ piece) rest content i doubled none =
    other content i quote b (piece ++ rest) doubled (none 0 (omega arith))
    ∙ over_piece quote piece rest (content ++ b ∷ []) (i + 1) doubled (λ k lt. none (suc k) (omega arith))
    ∙ ap (λ (l : List ℕ). so_far l (i + 1 + length piece) doubled (closed_at quote rest)) (append_assoc content (b ∷ []) piece)
    ∙ ap (λ (n : ℕ). so_far (content ++ b ∷ piece) n doubled (closed_at quote rest)) (omega arith)

-- a piece, and then two quotes
pub over_doubled : (quote : ℕ) (piece rest content : List ℕ) (i : ℕ) (doubled : Option (List ℕ × ℕ)) → HasNone quote piece
    → so_far content i doubled (closed_at quote (piece ++ quote ∷ quote ∷ rest)) ≡ so_far ((content ++ piece) ++ quote ∷ []) (i + length piece + 2) (Some (content ++ piece, i + length piece + 1)) (closed_at quote rest)
over_doubled quote piece rest content i doubled none =
    over_piece quote piece (quote ∷ quote ∷ rest) content i doubled none ∙ twice (content ++ piece) (i + length piece) quote rest doubled

-- a piece, and then one quote
pub up_to_quote : (quote : ℕ) (piece rest content : List ℕ) (i : ℕ) (doubled : Option (List ℕ × ℕ)) → HasNone quote piece
    → ((more : List ℕ) → rest ≡ quote ∷ more → ⊥)
    → so_far content i doubled (closed_at quote (piece ++ quote ∷ rest)) ≡ Some (content ++ piece, i + length piece + 1)
up_to_quote quote piece rest content i doubled none single_quote =
    over_piece quote piece (quote ∷ rest) content i doubled none ∙ rw (once quote rest single_quote, append-nil) refl
  where
    once : (quote : ℕ) (rest : List ℕ) → ((more : List ℕ) → rest ≡ quote ∷ more → ⊥) → closed_at quote (quote ∷ rest) ≡ Some ([], 1)
    once quote [] h = last quote
    once quote (c ∷ rest) h = single quote c rest (λ e. h rest (ap (λ (b : ℕ). b ∷ rest) e))

-- no quote is left
pub unclosed : (quote : ℕ) (rest content : List ℕ) (i : ℕ) (doubled : Option (List ℕ × ℕ)) → HasNone quote rest → so_far content i doubled (closed_at quote rest) ≡ doubled
unclosed quote rest content i doubled none =
    ap (λ (l : List ℕ). so_far content i doubled (closed_at quote l)) (sym (append-nil rest)) ∙ over_piece quote rest [] content i doubled none ∙ rw (nothing quote) refl

-- what a doubled quote closed stands before a quote of the content
abbrev pub IsKept : ℕ → List ℕ → Option (ℕ × ℕ) → Type 0
IsKept quote content doubled = IfSome doubled (λ at. (at.0 < length content) × (get_or content at.0 0 ≡ quote))

pub closed_by-append : (quote : ℕ) (content piece : List ℕ) (doubled : Option (ℕ × ℕ)) → IsKept quote content doubled → closed_by (content ++ piece) doubled ≡ closed_by content doubled
closed_by-append quote content piece None h = refl
closed_by-append quote content piece (Some at) h = rw (take-append-le at.0 content piece (omega (arith, h.0))) refl
