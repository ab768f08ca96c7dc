-- What holds of names while they grow, and of columns that a list hasn't.
use Rattle.std.proofs.Common.{◌≡◌, ◌≢◌, ℕ, suc, false, List, [], ◌∷◌, sym, ◌∙◌, arith, inl, inr}
use Rattle.std.specs.Prelude.{All, ◌==◌}
use Rattle.std.specs.Str.{bytes_eq}
use Rattle.std.proofs.lemmas.Bool.{cases_Bool, or_parts, eq-eqb, true≢false}
use Rattle.std.proofs.lemmas.List.Elements.{All-nil, All-cons, All-head, All-tail}
use Rattle.std.proofs.lemmas.List.Kept.{AllPairs-cons}
use Rattle.std.proofs.lemmas.Slice.Eq.{bytes_eq-Decides}
use Rattle.job_text.specs.Columns.{with_name, has_column}
use Rattle.job_text.specs.Jobs.{IsDistinct}

pub other_columns : (columns : List ℕ) (column : ℕ) → has_column columns column ≡ false → All (λ c. c ≢ column) columns
other_columns [] column h = All-nil (λ c. c ≢ column)
other_columns (c ∷ columns) column h =
    let both = or_parts (c == column) (has_column columns column) h in
    All-cons (λ c. c ≢ column) c columns (λ e. true≢false (sym (eq-eqb c column e) ∙ both.0)) (other_columns columns column both.1)

-- ---- names

module _ (P : List ℕ → Type 0) where
  pub All-with_name : (names : List (List ℕ)) (name : List ℕ) → All P names → P name → All P (with_name names name)
  All-with_name [] name h is = All-cons P name [] is h
  All-with_name (first ∷ names) name h is = elim (cases_Bool (bytes_eq first name)) [
    | inl e ↦ rw e h
    | inr e ↦ rw e (All-cons P first (with_name names name) (All-head P first names h) (All-with_name names name (All-tail P first names h) is))
  ]

pub distinct-with_name : (names : List (List ℕ)) (name : List ℕ) → IsDistinct names → IsDistinct (with_name names name)
distinct-with_name [] name h = λ i j d less within. absurd (omega arith)
distinct-with_name (first ∷ names) name h = elim (cases_Bool (bytes_eq first name)) [
  | inl e ↦ rw e h
  | inr e ↦
      let differs : first ≢ name = λ same. true≢false (sym ((bytes_eq-Decides first name).1 same) ∙ e) in
      let others : All (λ later. first ≢ later) names = λ k d lt. h 0 (suc k) d (omega arith) (omega (arith, lt)) in
      let tail : IsDistinct names = λ i j d less within. h (suc i) (suc j) d (omega (arith, less)) (omega (arith, within)) in
      rw e (AllPairs-cons (λ earlier later. earlier ≢ later) first (with_name names name) (All-with_name (λ later. first ≢ later) names name others differs) (distinct-with_name names name tail))
]
