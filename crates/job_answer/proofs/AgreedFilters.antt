-- A filter keeps rows by the fields in its own columns alone.
use Rattle.std.proofs.Common.{◌≡◌, ◌∙◌, ℕ, Bool, not, ◌&&◌, ◌||◌, List, [], ◌∷◌, ◌++◌, map, sym, ap, subst, refl}
use Rattle.std.specs.Prelude.{⊤}
use Rattle.std.specs.List.{AllByRecursion, list_all, list_any}
use Rattle.row_filter.specs.declared.filter.Comparison.{Comparison}
use Rattle.row_filter.specs.declared.filter.Constant.{Constant}
use Rattle.row_filter.specs.declared.filter.Filter.{Filter, map-Filter}
use Rattle.row_filter.specs.declared.filter.Filter.TheFolds.{ind-Filter}
use Rattle.row_filter.specs.declared.filter.Filter.TheOpen.{Filter-F}
use Rattle.row_filter.specs.declared.filter.Filter.TheOpen as layers
use Rattle.row_filter.specs.declared.filter.Filter.TheVariants as filters
use Rattle.row_filter.specs.declared.filter.Filter.TheVariants.{rolls-And, rolls-Or, rolls-Not, rolls-Test}
use Rattle.row_filter.specs.declared.filter.Filter.TheViews.{roll-Filter}
use Rattle.row_filter.specs.Meaning.{keeps, order_to, comparison_holds}
use Rattle.row_filter.proofs.Meanings.{keeps-and, keeps-not, keeps-or, keeps-test}
use Rattle.job_text.specs.FilterForms.{FilterForm, filter_places, list_places}
use Rattle.job_text.proofs.FilterEquations.{form-and, form-not, form-or, form-test}

all-left : {X : Type 0} (P : X → Type 0) (xs ys : List X) → AllByRecursion P (xs ++ ys) → AllByRecursion P xs
all-left P [] ys all = tt
all-left P (x ∷ xs) ys all = (all.0, all-left P xs ys all.1)

all-right : {X : Type 0} (P : X → Type 0) (xs ys : List X) → AllByRecursion P (xs ++ ys) → AllByRecursion P ys
all-right P [] ys all = all
all-right P (x ∷ xs) ys all = all-right P xs ys all.1

module _ (f g : ℕ → List ℕ) where
  abbrev Same : ℕ → Type 0
  Same column = f column ≡ g column

  abbrev Agrees : Filter → Type 0
  Agrees filter = AllByRecursion Same (filter_places filter) → keeps f filter ≡ keeps g filter

  abbrev EachAgrees : List Filter → Type 0
  EachAgrees [] = ⊤
  EachAgrees (filter ∷ rest) = Agrees filter × EachAgrees rest

  test_agrees : (column : ℕ) (test : Comparison) (constant : Constant) → Agrees (filters.Test column test constant)
  test_agrees column test constant same =
      let here = subst (AllByRecursion Same) (ap (λ (form : FilterForm). form.columns) (form-test column test constant)) same in
      keeps-test f column test constant ∙ ap (λ (field : List ℕ). comparison_holds test (order_to field constant)) here.0 ∙ sym (keeps-test g column test constant)

  all_agree : (parts : List Filter) → EachAgrees parts → AllByRecursion Same (list_places parts) → list_all (keeps f) parts ≡ list_all (keeps g) parts
  all_agree [] each same = refl
  all_agree (part ∷ parts) each same =
      ap (λ (b : Bool). b && list_all (keeps f) parts) (each.0 (all-left Same (filter_places part) (list_places parts) same))
      ∙ ap (λ (b : Bool). keeps g part && b) (all_agree parts each.1 (all-right Same (filter_places part) (list_places parts) same))

  any_agrees : (parts : List Filter) → EachAgrees parts → AllByRecursion Same (list_places parts) → list_any (keeps f) parts ≡ list_any (keeps g) parts
  any_agrees [] each same = refl
  any_agrees (part ∷ parts) each same =
      ap (λ (b : Bool). b || list_any (keeps f) parts) (each.0 (all-left Same (filter_places part) (list_places parts) same))
      ∙ ap (λ (b : Bool). keeps g part || b) (any_agrees parts each.1 (all-right Same (filter_places part) (list_places parts) same))

  and_agrees : (parts : List Filter) → EachAgrees parts → Agrees (filters.And parts)
  and_agrees parts each same = keeps-and f parts ∙ all_agree parts each (subst (AllByRecursion Same) (ap (λ (form : FilterForm). form.columns) (form-and parts)) same) ∙ sym (keeps-and g parts)

  or_agrees : (parts : List Filter) → EachAgrees parts → Agrees (filters.Or parts)
  or_agrees parts each same = keeps-or f parts ∙ any_agrees parts each (subst (AllByRecursion Same) (ap (λ (form : FilterForm). form.columns) (form-or parts)) same) ∙ sym (keeps-or g parts)

  not_agrees : (part : Filter) → Agrees part → Agrees (filters.Not part)
  not_agrees part inner same = keeps-not f part ∙ ap not (inner (subst (AllByRecursion Same) (ap (λ (form : FilterForm). form.columns) (form-not part)) same)) ∙ sym (keeps-not g part)

  each_of : (parts : List ((filter : Filter) × Agrees filter)) → EachAgrees (map (λ part. part.0) parts)
  each_of [] = tt
  each_of (part ∷ parts) = (part.1, each_of parts)

  layer_agrees : (y : Filter-F ((filter : Filter) × Agrees filter)) → Agrees (roll-Filter (map-Filter ((filter : Filter) × Agrees filter) Filter (λ part. part.0) y))
  layer_agrees (layers.Test column test constant) = subst Agrees (sym (rolls-Test column test constant)) (test_agrees column test constant)
  layer_agrees (layers.And parts) = subst Agrees (sym (rolls-And (map (λ part. part.0) parts))) (and_agrees (map (λ part. part.0) parts) (each_of parts))
  layer_agrees (layers.Or parts) = subst Agrees (sym (rolls-Or (map (λ part. part.0) parts))) (or_agrees (map (λ part. part.0) parts) (each_of parts))
  layer_agrees (layers.Not part) = subst Agrees (sym (rolls-Not part.0)) (not_agrees part.0 part.1)

  -- where two rows have the same field in each of a filter's columns, it keeps both or neither
  pub keeps-agree : (filter : Filter) → AllByRecursion Same (filter_places filter) → keeps f filter ≡ keeps g filter
  keeps-agree = ind-Filter Agrees (λ x y is. subst (λ (z : Filter-F Filter). Agrees (roll-Filter z)) is (layer_agrees y))
