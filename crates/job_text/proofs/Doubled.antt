-- Quotes are doubled piece by piece.
use Rattle.std.proofs.Common.{◌≡◌, ℕ, suc, ◌<◌, List, [], ◌∷◌, ◌++◌, length, get_or, refl, ap, arith}
use Rattle.std.proofs.lemmas.Bool.{ne_eqb, eq-eqb}
use Rattle.job_text.specs.Printing.{doubled}

module _ (quote : ℕ) where
  pub doubled-none : (bs : List ℕ) → ((i : ℕ) → i < length bs → get_or bs i 0 ≡ quote → ⊥) → doubled quote bs ≡ bs
  doubled-none [] h = refl
  doubled-none (b ∷ bs) h = rw (ne_eqb b quote (h 0 (omega arith))) (ap (λ (l : List ℕ). b ∷ l) (doubled-none bs (λ i lt. h (suc i) (omega arith))))

  pub doubled-split : (before after : List ℕ) → ((i : ℕ) → i < length before → get_or before i 0 ≡ quote → ⊥) → doubled quote (before ++ quote ∷ after) ≡ before ++ quote ∷ quote ∷ doubled quote after
  doubled-split [] after h = rw (eq-eqb quote quote refl) refl
  doubled-split (b ∷ before) after h = rw (ne_eqb b quote (h 0 (omega arith))) (ap (λ (l : List ℕ). b ∷ l) (doubled-split before after (λ i lt. h (suc i) (omega arith))))
