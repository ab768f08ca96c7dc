-- What a filter keeps of well-formed rows is well formed, and takes no more room.
use Rattle.std.proofs.Common.{◌≡◌, ℕ, ◌+◌, ◌≤◌, Bool, true, List, [], ◌∷◌, None, length, refl, sym, ap, subst, inl, inr, not, arith}
use Rattle.std.specs.List.{AllByRecursion, filter}
use Rattle.std.proofs.lemmas.Bool.{cases_Bool}
use Rattle.std.proofs.lemmas.List.Filters.{sum_by-filter_both}
use Rattle.row_page.specs.Spelling.{page_length, row_length}
use Rattle.row_form.specs.Forms.{IsWellFormed}
use Rattle.row_filter.specs.declared.chain.Chain.{Chain}
use Rattle.row_filter.specs.declared.filter.Filter.{Filter}
use Rattle.row_filter.specs.Chains.{filter_at}
use Rattle.row_filter.specs.Derived.{passes_own}
use Rattle.row_filter.specs.Rows.{keeps_row, kept_rows}
use Rattle.lineage.specs.Handed.{AreFormed}
use Rattle.lineage.specs.LineageViews.{LineageView, form_for, own_rows, run_for}

module _ {X : Type 0} where
  -- what holds of each holds of those that are kept
  all_kept : (P : X → Type 0) (p : X → Bool) (xs : List X) → AllByRecursion P xs → AllByRecursion P (filter p xs)
  all_kept P p [] all = tt
  all_kept P p (x ∷ xs) all = elim (cases_Bool (p x)) [
    | inl kept ↦ rw kept (all.0, all_kept P p xs all.1)
    | inr lost ↦ rw lost (all_kept P p xs all.1)
  ]

  few_kept : (p : X → Bool) (xs : List X) → length (filter p xs) ≤ length xs
  few_kept p [] = omega arith
  few_kept p (x ∷ xs) = elim (cases_Bool (p x)) [
    | inl kept ↦ rw kept (omega (arith, few_kept p xs))
    | inr lost ↦ rw lost (omega (arith, few_kept p xs))
  ]

  pub all_map : (P Q : X → Type 0) → ((x : X) → P x → Q x) → (xs : List X) → AllByRecursion P xs → AllByRecursion Q xs
  all_map P Q so [] all = tt
  all_map P Q so (x ∷ xs) all = (so x all.0, all_map P Q so xs all.1)

  all_passing : (xs : List X) → filter (λ _. true) xs ≡ xs
  all_passing [] = refl
  all_passing (x ∷ xs) = ap (λ (rest : List X). x ∷ rest) (all_passing xs)

-- the bytes of those that are kept are no more than those of all
pub kept_length : (f : Filter) (rows : List (List (List ℕ))) → page_length (kept_rows f rows) ≤ page_length rows
kept_length f rows =
    let both = sum_by-filter_both (keeps_row f) (λ row. not (keeps_row f row)) (λ row. refl) (λ (row : List (List ℕ)). 4 + row_length row) rows in
    omega (arith, both)

-- ---- a dataset's rows, of its parent's

kept_formed : (lineage : LineageView) (part dataset : ℕ) (rows : List (List (List ℕ))) → AreFormed lineage part rows → AreFormed lineage part (own_rows lineage.chain dataset rows)
kept_formed lineage part dataset rows are = record {
  formed = all_kept (IsWellFormed (form_for lineage) (run_for lineage part).greatest) (λ row. passes_own lineage.chain row dataset) rows are.formed;
  few = let least = few_kept (λ row. passes_own lineage.chain row dataset) rows in let few = are.few in omega (arith, least, few);
}

pub own_formed : (lineage : LineageView) (part dataset : ℕ) (rows made : List (List (List ℕ))) → made ≡ own_rows lineage.chain dataset rows → AreFormed lineage part rows → AreFormed lineage part made
own_formed lineage part dataset rows made is are = subst (AreFormed lineage part) (sym is) (kept_formed lineage part dataset rows are)

pub own_all : (chain : Chain) (dataset : ℕ) (rows : List (List (List ℕ))) → filter_at chain dataset ≡ None → own_rows chain dataset rows ≡ rows
own_all chain dataset rows is = rw is (all_passing rows)
