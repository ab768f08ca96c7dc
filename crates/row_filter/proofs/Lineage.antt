-- A dataset's line goes on with that of the dataset that it is made from, and so do its rows.
use Rattle.std.proofs.Common.{◌≡◌, ◌≢◌, ◌<◌, ◌≤◌, ◌∙◌, ℕ, zero, suc, Bool, true, false, ◌&&◌, List, [], ◌∷◌, Option, None, Some, inl, inr, refl, sym, ap, arith}
use Rattle.std.specs.Prelude.{◌==◌, nat_lt, slice_get}
use Rattle.std.specs.List.{filter, list_all, list_any}
use Rattle.std.specs.Option.{option_map_or}
use Rattle.std.proofs.lemmas.Bool.{cases_Bool, ltb-false, ltb-true}
use Rattle.std.proofs.lemmas.Bool.Decides.{nat_tests}
use Rattle.row_filter.specs.declared.chain.Chain.{Chain}
use Rattle.row_filter.specs.declared.chain.Link.{Link}
use Rattle.row_filter.specs.Chains.{links_of, parent_at}
use Rattle.row_filter.specs.Derived.{derived, passes_own}
use Rattle.row_filter.specs.Lines.{AreOrdered, derives, line, line_within, parent_behind}

module _ (links : List Link) (ordered : AreOrdered links) where
  pub parent_before : (before : ℕ) → parent_behind links before ≤ before
  parent_before before = by (slice_get links before) refl
    where
      by : (found : Option Link) → slice_get links before ≡ found → option_map_or (λ (link : Link). link.parent) found 0 ≤ before
      by None is = omega arith
      by (Some link) is = ordered before link is

  enough : (steps more dataset : ℕ) → dataset ≤ steps → dataset ≤ more → line_within links steps dataset ≡ line_within links more dataset
  enough zero zero zero a b = refl
  enough zero (suc more) zero a b = refl
  enough (suc steps) zero zero a b = refl
  enough (suc steps) (suc more) zero a b = refl
  enough zero more (suc before) a b = absurd (omega arith)
  enough (suc steps) zero (suc before) a b = absurd (omega arith)
  enough (suc steps) (suc more) (suc before) a b =
      let parent : parent_behind links before ≤ before = parent_before before in
      ap (λ (rest : List ℕ). suc before ∷ rest) (enough steps more (parent_behind links before) (omega arith) (omega arith))

  -- the line of a dataset, by that of the one that it is made from
  pub line_behind : (before : ℕ) → line links (suc before) ≡ suc before ∷ line links (parent_behind links before)
  line_behind before = ap (λ (rest : List ℕ). suc before ∷ rest)
      (enough before (parent_behind links before) (parent_behind links before) (parent_before before) (omega arith))

  -- ---- whether a dataset derives from another one

  same_number : (n : ℕ) → (n == n) ≡ true
  same_number n = grind (arith, nat_tests)

  other_number : (n from : ℕ) → n < from → (n == from) ≡ false
  other_number n from less = grind (arith, nat_tests)

  not_below : (steps dataset from : ℕ) → dataset < from → list_any (λ d. d == from) (line_within links steps dataset) ≡ false
  not_below zero dataset from less = rw (other_number dataset from less) refl
  not_below (suc steps) zero from less = rw (other_number 0 from less) refl
  not_below (suc steps) (suc before) from less =
      let parent : parent_behind links before ≤ before = parent_before before in
      rw (other_number (suc before) from less) (not_below steps (parent_behind links before) from (omega arith))

  -- a dataset derives from none with a higher number
  pub derives_below : (dataset from : ℕ) → dataset < from → derives links dataset from ≡ false
  derives_below dataset from less = not_below dataset dataset from less

  -- each is itself
  pub derives_self : (dataset : ℕ) → derives links dataset dataset ≡ true
  derives_self zero = refl
  derives_self (suc before) = rw (same_number (suc before)) refl

  -- and derives from a lower one exactly where the one that it is made from does
  pub derives_on : (before from : ℕ) → from < suc before → derives links (suc before) from ≡ derives links (parent_behind links before) from
  derives_on before from less =
      let other : (suc before == from) ≡ false = grind (arith, nat_tests) in
      ap (list_any (λ d. d == from)) (line_behind before) ∙ rw other refl

-- ---- a step towards the input, and where it ends

module _ (chain : Chain) (ordered : AreOrdered (links_of chain)) where
  pub step_up : (at from : ℕ) → from < at → derives (links_of chain) (parent_at chain at) from ≡ derives (links_of chain) at from
  step_up zero from less = absurd (omega arith)
  step_up (suc before) from less = sym (derives_on (links_of chain) ordered before from less)

  pub goes_down : (at from : ℕ) → from < at → parent_at chain at < at
  goes_down zero from less = absurd (omega arith)
  goes_down (suc before) from less = omega (arith, parent_before (links_of chain) ordered before)

  pub reached : (at from : ℕ) → at ≤ from → derives (links_of chain) at from ≡ (at == from)
  reached at from most = elim (cases_Bool (nat_lt at from)) [
    | inl below ↦
        let less : at < from = ltb-true at from below in
        derives_below (links_of chain) ordered at from less ∙ sym (other_number (links_of chain) ordered at from less)
    | inr behind ↦
        let least : from ≤ at = ltb-false at from behind in
        let same : at ≡ from = omega arith in
        rw same (derives_self (links_of chain) ordered from ∙ sym (same_number (links_of chain) ordered from))
  ]

filter_both : {X : Type 0} (p q : X → Bool) (xs : List X) → filter (λ x. p x && q x) xs ≡ filter p (filter q xs)
filter_both p q [] = refl
filter_both p q (x ∷ xs) = elim (cases_Bool (q x)) [
  | inl kept ↦ elim (cases_Bool (p x)) [
    | inl own ↦ rw (kept, own, filter_both p q xs) refl
    | inr lost ↦ rw (kept, lost, filter_both p q xs) refl
  ]
  | inr dropped ↦ elim (cases_Bool (p x)) [
    | inl own ↦ rw (dropped, own, filter_both p q xs) refl
    | inr lost ↦ rw (dropped, lost, filter_both p q xs) refl
  ]
]

filter_all : {X : Type 0} (xs : List X) → filter (λ _. true) xs ≡ xs
filter_all [] = refl
filter_all (x ∷ xs) = ap (λ rest. x ∷ rest) (filter_all xs)

module _ (chain : Chain) where
  pub input_whole : (rows : List (List (List ℕ))) → derived chain 0 rows ≡ rows
  input_whole rows = filter_all rows

  pub derived_made : (dataset : ℕ) (rows : List (List (List ℕ))) → AreOrdered (links_of chain) → dataset ≢ 0
      → derived chain dataset rows ≡ filter (λ row. passes_own chain row dataset) (derived chain (parent_at chain dataset) rows)
  derived_made zero rows ordered some = absurd (some refl)
  derived_made (suc before) rows ordered some =
      ap (λ (datasets : List ℕ). filter (λ row. list_all (passes_own chain row) datasets) rows) (line_behind (links_of chain) ordered before)
      ∙ filter_both (λ row. passes_own chain row (suc before)) (λ row. list_all (passes_own chain row) (line (links_of chain) (parent_at chain (suc before)))) rows
