-- What a test, `and`, `or` and `not` keep, and which columns they have.
use Rattle.std.proofs.Common.{◌≡◌, ℕ, Bool, not, ◌||◌, List, [], ◌∷◌, map, refl, sym, ap, ◌∙◌}
use Rattle.std.specs.List.{flat_map, list_all, list_any}
use Rattle.std.proofs.lemmas.List.Folds.{flat_map-map, list_all-map}
use Rattle.row_filter.specs.declared.filter.Comparison.{Comparison}
use Rattle.row_filter.specs.declared.filter.Constant.{Constant}
use Rattle.row_filter.specs.declared.filter.Filter.{Filter}
use Rattle.row_filter.specs.declared.filter.Filter.TheOpen as layers
use Rattle.row_filter.specs.declared.filter.Filter.TheVariants as filters
use Rattle.row_filter.specs.declared.filter.Filter.TheVariants.{rolls-And, rolls-Or, rolls-Not, rolls-Test}
use Rattle.row_filter.specs.declared.filter.Filter.TheFolds.{fold-roll-Filter}
use Rattle.row_filter.specs.Meaning.{columns_of, columns_step, keeps, keeps_step, order_to, comparison_holds}

list_any-map : {X Y : Type 0} (p : X → Bool) (h : Y → X) (ys : List Y) → list_any p (map h ys) ≡ list_any (λ y. p (h y)) ys
list_any-map p h [] = refl
list_any-map p h (y ∷ ys) = ap (λ b. p (h y) || b) (list_any-map p h ys)

module _ (field_at : ℕ → List ℕ) where
  pub keeps-test : (column : ℕ) (test : Comparison) (constant : Constant) → keeps field_at (filters.Test column test constant) ≡ comparison_holds test (order_to (field_at column) constant)
  keeps-test column test constant = ap (keeps field_at) (sym (rolls-Test column test constant)) ∙ fold-roll-Filter Bool (keeps_step field_at) (layers.Test column test constant)

  pub keeps-and : (fs : List Filter) → keeps field_at (filters.And fs) ≡ list_all (keeps field_at) fs
  keeps-and fs = ap (keeps field_at) (sym (rolls-And fs)) ∙ fold-roll-Filter Bool (keeps_step field_at) (layers.And fs) ∙ list_all-map (λ kept. kept) (keeps field_at) fs

  pub keeps-or : (fs : List Filter) → keeps field_at (filters.Or fs) ≡ list_any (keeps field_at) fs
  keeps-or fs = ap (keeps field_at) (sym (rolls-Or fs)) ∙ fold-roll-Filter Bool (keeps_step field_at) (layers.Or fs) ∙ list_any-map (λ kept. kept) (keeps field_at) fs

  pub keeps-not : (f : Filter) → keeps field_at (filters.Not f) ≡ not (keeps field_at f)
  keeps-not f = ap (keeps field_at) (sym (rolls-Not f)) ∙ fold-roll-Filter Bool (keeps_step field_at) (layers.Not f)

pub columns-test : (column : ℕ) (test : Comparison) (constant : Constant) → columns_of (filters.Test column test constant) ≡ column ∷ []
columns-test column test constant = ap columns_of (sym (rolls-Test column test constant)) ∙ fold-roll-Filter (List ℕ) columns_step (layers.Test column test constant)

pub columns-and : (fs : List Filter) → columns_of (filters.And fs) ≡ flat_map columns_of fs
columns-and fs = ap columns_of (sym (rolls-And fs)) ∙ fold-roll-Filter (List ℕ) columns_step (layers.And fs) ∙ flat_map-map (λ columns. columns) columns_of fs

pub columns-or : (fs : List Filter) → columns_of (filters.Or fs) ≡ flat_map columns_of fs
columns-or fs = ap columns_of (sym (rolls-Or fs)) ∙ fold-roll-Filter (List ℕ) columns_step (layers.Or fs) ∙ flat_map-map (λ columns. columns) columns_of fs

pub columns-not : (f : Filter) → columns_of (filters.Not f) ≡ columns_of f
columns-not f = ap columns_of (sym (rolls-Not f)) ∙ fold-roll-Filter (List ℕ) columns_step (layers.Not f)
