-- A filter, a sum and a front of a mapped list, and that a list begins with its front.
use Rattle.std.proofs.Common.{◌≡◌, ℕ, ◌-◌, Bool, List, [], ◌∷◌, ◌++◌, map, sum_by, Option, Some, None, refl, sym, ap, subst, ◌∙◌, inl, inr, arith}
use Rattle.std.specs.Prelude.{nat_eq}
use Rattle.std.specs.List.{filter}
use Rattle.std.specs.Option.{option_map}
use Rattle.std.proofs.lemmas.Bool.{cases_Bool, cond-true, cond-false}
use Rattle.std.proofs.lemmas.List.Sums.{sum_by-cons}
use Rattle.pool_ledger.specs.Blocks.{front_reaching}

module _ {X Y : Type 0} (f : X → Y) where
  -- those of a mapped list that pass
  pub filter_mapped : (test : Y → Bool) (xs : List X) → filter test (map f xs) ≡ map f (filter (λ x. test (f x)) xs)
  filter_mapped test [] = refl
  filter_mapped test (x ∷ xs) = elim (cases_Bool (test (f x))) [
    | inl holds ↦
        cond-true (test (f x)) (f x ∷ filter test (map f xs)) (filter test (map f xs)) holds
        ∙ ap (λ (ys : List Y). f x ∷ ys) (filter_mapped test xs)
        ∙ sym (ap (map f) (cond-true (test (f x)) (x ∷ filter (λ z. test (f z)) xs) (filter (λ z. test (f z)) xs) holds))
    | inr fails ↦
        cond-false (test (f x)) (f x ∷ filter test (map f xs)) (filter test (map f xs)) fails
        ∙ filter_mapped test xs
        ∙ sym (ap (map f) (cond-false (test (f x)) (x ∷ filter (λ z. test (f z)) xs) (filter (λ z. test (f z)) xs) fails))
  ]

  -- the sizes of a mapped list
  pub sum_mapped : (size : Y → ℕ) (xs : List X) → sum_by size (map f xs) ≡ sum_by (λ x. size (f x)) xs
  sum_mapped size [] = refl
  sum_mapped size (x ∷ xs) = omega (arith, sum_by-cons size (f x) (map f xs), sum_by-cons (λ y. size (f y)) x xs, sum_mapped size xs)

  behind : (x : X) (found : Option (List X)) → option_map (λ ys. f x ∷ ys) (option_map (map f) found) ≡ option_map (map f) (option_map (λ ys. x ∷ ys) found)
  behind x None = refl
  behind x (Some ys) = refl

  -- a front of a mapped list is the front, mapped
  pub front_mapped : (size : Y → ℕ) (need : ℕ) (xs : List X) → front_reaching size need (map f xs) ≡ option_map (map f) (front_reaching (λ x. size (f x)) need xs)
  front_mapped size need [] = elim (cases_Bool (nat_eq need 0)) [
    | inl none ↦ cond-true (nat_eq need 0) (Some []) None none ∙ sym (ap (option_map (map f)) (cond-true (nat_eq need 0) (Some []) None none))
    | inr some ↦ cond-false (nat_eq need 0) (Some []) None some ∙ sym (ap (option_map (map f)) (cond-false (nat_eq need 0) (Some []) None some))
  ]
  front_mapped size need (x ∷ xs) =
      let rest = front_reaching (λ y. size (f y)) (need - size (f x)) xs in
      let more : option_map (λ ys. f x ∷ ys) (front_reaching size (need - size (f x)) (map f xs)) ≡ option_map (map f) (option_map (λ ys. x ∷ ys) rest) =
      ap (option_map (λ ys. f x ∷ ys)) (front_mapped size (need - size (f x)) xs) ∙ behind x rest in
      elim (cases_Bool (nat_eq need 0)) [
        | inl none ↦ cond-true (nat_eq need 0) (Some []) (option_map (λ ys. f x ∷ ys) (front_reaching size (need - size (f x)) (map f xs))) none ∙ sym (ap (option_map (map f)) (cond-true (nat_eq need 0) (Some []) (option_map (λ ys. x ∷ ys) rest) none))
        | inr some ↦ cond-false (nat_eq need 0) (Some []) (option_map (λ ys. f x ∷ ys) (front_reaching size (need - size (f x)) (map f xs))) some ∙ more ∙ sym (ap (option_map (map f)) (cond-false (nat_eq need 0) (Some []) (option_map (λ ys. x ∷ ys) rest) some))
      ]

module _ {X : Type 0} where
  -- the list begins with its front
  pub front_first : (size : X → ℕ) (need : ℕ) (xs front : List X) → front_reaching size need xs ≡ Some front → (others : List X) × (xs ≡ front ++ others)
  front_first size need [] front is = elim (cases_Bool (nat_eq need 0)) [
    | inl none ↦ let empty : [] ≡ front = cc (sym (cond-true (nat_eq need 0) (Some []) None none) ∙ is) in ([], subst (λ (ys : List X). [] ≡ ys ++ []) empty refl)
    | inr some ↦ absurd (cc (sym (cond-false (nat_eq need 0) (Some []) None some) ∙ is))
  ]
  front_first size need (x ∷ xs) front is = elim (cases_Bool (nat_eq need 0)) [
    | inl none ↦ let empty : [] ≡ front = cc (sym (cond-true (nat_eq need 0) (Some []) (option_map (λ ys. x ∷ ys) (front_reaching size (need - size x) xs)) none) ∙ is) in (x ∷ xs, subst (λ (ys : List X). x ∷ xs ≡ ys ++ x ∷ xs) empty refl)
    | inr some ↦ with_rest (front_reaching size (need - size x) xs) (λ ys found. front_first size (need - size x) xs ys found) (sym (cond-false (nat_eq need 0) (Some []) (option_map (λ ys. x ∷ ys) (front_reaching size (need - size x) xs)) some) ∙ is)
  ]
    where
      with_rest : (found : Option (List X)) → ((ys : List X) → found ≡ Some ys → (others : List X) × (xs ≡ ys ++ others)) → option_map (λ ys. x ∷ ys) found ≡ Some front → (others : List X) × (x ∷ xs ≡ front ++ others)
      with_rest None later shown = absurd (cc shown)
      with_rest (Some ys) later shown =
          let rest = later ys refl in
          let starts : x ∷ ys ≡ front = cc shown in
          (rest.0, subst (λ (zs : List X). x ∷ xs ≡ zs ++ rest.0) starts (ap (λ zs. x ∷ zs) rest.1))
