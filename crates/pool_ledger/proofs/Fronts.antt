-- The shortest front of a list whose sizes reach an amount, and the front that a walk over the list finds.
use Rattle.std.proofs.Common.{◌≡◌, ℕ, zero, suc, ◌+◌, ◌-◌, ◌≤◌, ◌<◌, Bool, true, Option, Some, None, List, [], ◌∷◌, ◌++◌, length, get_or, take, drop, sum_by, unwrap_or, refl, sym, ap, ◌∙◌, arith, inl, inr}
use Rattle.std.specs.List.{filter}
use Rattle.std.specs.Option.{option_map}
use Rattle.std.specs.Prelude.{nat_eq}
use Rattle.std.proofs.lemmas.List.Sums.{sum_by-cons, sum_by_more_le}
use Rattle.std.proofs.lemmas.List.Elements.{filter-append}
use Rattle.std.proofs.lemmas.List.{take-append-drop, take_more}
use Rattle.std.proofs.Math.Seq.{drop-cons}
use Rattle.std.proofs.lemmas.Bool.{ne_eqb, eq-eqb, cond-false, cond-true, cases_Bool, cases_eq}
use Rattle.pool_ledger.specs.Blocks.{front_reaching}

module _ {X : Type 0} (size : X → ℕ) where
  pub front_none : (need : ℕ) (xs : List X) → sum_by size xs < need → front_reaching size need xs ≡ None
  front_none need [] low = cond-false (nat_eq need 0) (Some []) None (ne_eqb need 0 (λ e. omega arith))
  front_none need (x ∷ xs) low =
      let less : sum_by size xs < need - size x = omega (arith, sum_by-cons size x xs) in
      cond-false (nat_eq need 0) _ _ (ne_eqb need 0 (λ e. omega arith)) ∙ ap (option_map (λ front. x ∷ front)) (front_none (need - size x) xs less)

  front_zero : (need : ℕ) (xs : List X) → need ≡ 0 → front_reaching size need xs ≡ Some []
  front_zero need [] e = cond-true (nat_eq need 0) _ _ (eq-eqb need 0 e)
  front_zero need (x ∷ xs) e = cond-true (nat_eq need 0) _ _ (eq-eqb need 0 e)

  -- the front ends where the amount is reached
  front_at : (need : ℕ) (xs : List X) (x : X) (ys : List X) → sum_by size xs < need → need ≤ sum_by size xs + size x → front_reaching size need (xs ++ x ∷ ys) ≡ Some (xs ++ x ∷ [])
  front_at need [] x ys low reached =
      cond-false (nat_eq need 0) _ _ (ne_eqb need 0 (λ e. omega arith)) ∙ ap (option_map (λ front. x ∷ front)) (front_zero (need - size x) ys (omega arith))
  front_at need (z ∷ xs) x ys low reached =
      let cons = sum_by-cons size z xs in
      cond-false (nat_eq need 0) _ _ (ne_eqb need 0 (λ e. omega arith)) ∙ ap (option_map (λ front. z ∷ front)) (front_at (need - size z) xs x ys (omega (arith, cons)) (omega (arith, cons)))

  pub sizes-filter-le : (p : X → Bool) (xs : List X) → sum_by size (filter p xs) ≤ sum_by size xs
  sizes-filter-le p [] = omega arith
  sizes-filter-le p (x ∷ xs) = elim (cases_Bool (p x)) [
    | inl holds ↦ rw (cond-true (p x) (x ∷ filter p xs) (filter p xs) holds) (omega (arith, sum_by-cons size x (filter p xs), sum_by-cons size x xs, sizes-filter-le p xs))
    | inr fails ↦ rw (cond-false (p x) (x ∷ filter p xs) (filter p xs) fails) (omega (arith, sum_by-cons size x xs, sizes-filter-le p xs))
  ]

  sizes-take-le : (p : X → Bool) (xs : List X) (i : ℕ) → sum_by size (filter p (take i xs)) ≤ sum_by size (filter p xs)
  sizes-take-le p [] zero = omega arith
  sizes-take-le p [] (suc i) = omega arith
  sizes-take-le p (x ∷ xs) zero = omega arith
  sizes-take-le p (x ∷ xs) (suc i) = elim (cases_Bool (p x)) [
    | inl holds ↦ rw (cond-true (p x) (x ∷ filter p xs) (filter p xs) holds, cond-true (p x) (x ∷ filter p (take i xs)) (filter p (take i xs)) holds) (omega (arith, sum_by-cons size x (filter p xs), sum_by-cons size x (filter p (take i xs)), sizes-take-le p xs i))
    | inr fails ↦ rw (cond-false (p x) (x ∷ filter p xs) (filter p xs) fails, cond-false (p x) (x ∷ filter p (take i xs)) (filter p (take i xs)) fails) (sizes-take-le p xs i)
  ]

  take-take_le : (xs : List X) (i j : ℕ) → i ≤ j → take i (take j xs) ≡ take i xs
  take-take_le [] zero zero le = refl
  take-take_le [] zero (suc j) le = refl
  take-take_le [] (suc i) zero le = refl
  take-take_le [] (suc i) (suc j) le = refl
  take-take_le (x ∷ xs) zero zero le = refl
  take-take_le (x ∷ xs) zero (suc j) le = refl
  take-take_le (x ∷ xs) (suc i) zero le = absurd (omega arith)
  take-take_le (x ∷ xs) (suc i) (suc j) le = ap (λ ys. x ∷ ys) (take-take_le xs i j (omega arith))

  -- fewer of the first blocks free no more
  pub sizes-take-mono : (p : X → Bool) (xs : List X) (i j : ℕ) → i ≤ j → sum_by size (filter p (take i xs)) ≤ sum_by size (filter p (take j xs))
  sizes-take-mono p xs i j le = let e : sum_by size (filter p (take i (take j xs))) ≤ sum_by size (filter p (take j xs)) = sizes-take-le p (take j xs) i in rw (take-take_le xs i j le) at e

  filter_here : (p : X → Bool) (x : X) (ys : List X) → p x ≡ true → filter p (x ∷ ys) ≡ x ∷ filter p ys
  filter_here p x ys holds = cond-true (p x) (x ∷ filter p ys) (filter p ys) holds

  -- the list round an element that passes
  filter_round : (p : X → Bool) (xs : List X) (i : ℕ) (d : X) → i < length xs → p (get_or xs i d) ≡ true → filter p xs ≡ filter p (take i xs) ++ get_or xs i d ∷ filter p (drop (suc i) xs)
  filter_round p xs i d below holds =
      ap (filter p) (sym (take-append-drop i xs)) ∙ filter-append p (take i xs) (drop i xs)
      ∙ ap (λ ys. filter p (take i xs) ++ filter p ys) (drop-cons xs i d below)
      ∙ ap (λ ys. filter p (take i xs) ++ ys) (filter_here p (get_or xs i d) (drop (suc i) xs) holds)

  filter_to : (p : X → Bool) (xs : List X) (i : ℕ) (d : X) → i < length xs → p (get_or xs i d) ≡ true → filter p (take (i + 1) xs) ≡ filter p (take i xs) ++ get_or xs i d ∷ []
  filter_to p xs i d below holds =
      ap (filter p) (take_more xs i d below) ∙ filter-append p (take i xs) (get_or xs i d ∷ [])
      ∙ ap (λ ys. filter p (take i xs) ++ ys) (filter_here p (get_or xs i d) [] holds)

  -- the front that a walk finds
  pub front_found : (p : X → Bool) (xs : List X) (i : ℕ) (d : X) (need : ℕ) → i < length xs → p (get_or xs i d) ≡ true → sum_by size (filter p (take i xs)) < need → need ≤ sum_by size (filter p (take i xs)) + size (get_or xs i d) → Some (filter p (take (i + 1) xs)) ≡ front_reaching size need (filter p xs)
  front_found p xs i d need below holds low reached =
      ap Some (filter_to p xs i d below holds) ∙ sym (front_at need (filter p (take i xs)) (get_or xs i d) (filter p (drop (suc i) xs)) low reached) ∙ sym (ap (front_reaching size need) (filter_round p xs i d below holds))

  pub front_missing : (p : X → Bool) (xs : List X) (need : ℕ) → sum_by size (filter p xs) < need → None ≡ front_reaching size need (filter p xs)
  front_missing p xs need low = sym (front_none need (filter p xs) low)

  -- the sum so far and the next size are within the whole
  pub sizes_so_far : (p : X → Bool) (xs : List X) (i : ℕ) (d : X) → i < length xs → sum_by size (filter p (take i xs)) + size (get_or xs i d) ≤ sum_by size xs
  sizes_so_far p xs i d below = omega (arith, sum_by_more_le size xs i d below, sizes-filter-le p (take i xs))

-- What a front holds
module _ {X : Type 0} (size : X → ℕ) where
  -- it has what is asked for, and no more than the list
  pub record IsFront (need : ℕ) (xs front : List X) : Type 0 where
    pub enough : need ≤ sum_by size front
    pub within : sum_by size front ≤ sum_by size xs

  -- there is one where the list reaches the amount
  pub front_cases : (need : ℕ) (xs : List X) → need ≤ sum_by size xs → (front : List X) × (front_reaching size need xs ≡ Some front) × IsFront need xs front
  front_cases need [] reach = ([], cond-true (nat_eq need 0) (Some []) None (eq-eqb need 0 (omega arith)), record { enough = omega arith; within = omega arith })
  front_cases need (x ∷ xs) reach = elim (cases_eq need 0) [
    | inl none ↦ ([], cond-true (nat_eq need 0) _ _ (eq-eqb need 0 none), record { enough = omega arith; within = omega arith })
    | inr some ↦
        let rest = front_cases (need - size x) xs (omega (arith, sum_by-cons size x xs)) in (
          x ∷ rest.0,
          cond-false (nat_eq need 0) _ _ (ne_eqb need 0 some) ∙ ap (option_map (λ front. x ∷ front)) rest.1,
          record {
            enough = omega (arith, sum_by-cons size x rest.0, rest.2.enough);
            within = omega (arith, sum_by-cons size x rest.0, sum_by-cons size x xs, rest.2.within);
          },
        )
  ]

  mapped_within : (x : X) (o : Option (List X)) → sum_by size (unwrap_or (option_map (λ front. x ∷ front) o) []) ≤ size x + sum_by size (unwrap_or o [])
  mapped_within x None = omega arith
  mapped_within x (Some front) = omega (arith, sum_by-cons size x front)

  -- no front holds more than the list
  pub front_within : (need : ℕ) (xs : List X) → sum_by size (unwrap_or (front_reaching size need xs) []) ≤ sum_by size xs
  front_within need [] = elim (cases_eq need 0) [
    | inl none ↦ rw (cond-true {A = Option (List X)} (nat_eq need 0) (Some []) None (eq-eqb need 0 none)) (omega arith)
    | inr some ↦ rw (cond-false {A = Option (List X)} (nat_eq need 0) (Some []) None (ne_eqb need 0 some)) (omega arith)
  ]
  front_within need (x ∷ xs) = elim (cases_eq need 0) [
    | inl none ↦ rw (cond-true {A = Option (List X)} (nat_eq need 0) (Some []) (option_map (λ front. x ∷ front) (front_reaching size (need - size x) xs)) (eq-eqb need 0 none)) (omega arith)
    | inr some ↦ rw (cond-false {A = Option (List X)} (nat_eq need 0) (Some []) (option_map (λ front. x ∷ front) (front_reaching size (need - size x) xs)) (ne_eqb need 0 some)) (omega (arith, sum_by-cons size x xs, mapped_within x (front_reaching size (need - size x) xs), front_within (need - size x) xs))
  ]

  -- fewer elements of the front don't reach the amount
  abbrev pub IsShortest : ℕ → List X → Type 0
  IsShortest need front = (n : ℕ) → n < length front → sum_by size (take n front) < need

  shortest-cons : (need : ℕ) (x : X) (o : Option (List X)) → 0 < need → IsShortest (need - size x) (unwrap_or o []) → IsShortest need (unwrap_or (option_map (λ front. x ∷ front) o) [])
  shortest-cons need x None some rest n below = absurd (omega arith)
  shortest-cons need x (Some front) some rest zero below = omega arith
  shortest-cons need x (Some front) some rest (suc n) below = omega (arith, sum_by-cons size x (take n front), rest n (omega arith))

  pub shortest : (need : ℕ) (xs : List X) → IsShortest need (unwrap_or (front_reaching size need xs) [])
  shortest need [] = elim (cases_eq need 0) [
    | inl none ↦ rw (cond-true {A = Option (List X)} (nat_eq need 0) (Some []) None (eq-eqb need 0 none)) (λ n below. absurd (omega arith))
    | inr some ↦ rw (cond-false {A = Option (List X)} (nat_eq need 0) (Some []) None (ne_eqb need 0 some)) (λ n below. absurd (omega arith))
  ]
  shortest need (x ∷ xs) = elim (cases_eq need 0) [
    | inl none ↦ rw (cond-true {A = Option (List X)} (nat_eq need 0) (Some []) (option_map (λ front. x ∷ front) (front_reaching size (need - size x) xs)) (eq-eqb need 0 none)) (λ n below. absurd (omega arith))
    | inr some ↦ rw (cond-false {A = Option (List X)} (nat_eq need 0) (Some []) (option_map (λ front. x ∷ front) (front_reaching size (need - size x) xs)) (ne_eqb need 0 some)) (shortest-cons need x (front_reaching size (need - size x) xs) (omega arith) (shortest (need - size x) xs))
  ]
