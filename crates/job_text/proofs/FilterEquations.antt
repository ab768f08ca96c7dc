-- The equations of a filter's form and of its printed tokens.
use Rattle.std.proofs.Common.{◌≡◌, ℕ, true, false, List, [], ◌∷◌, map, refl, sym, ap, ◌∙◌}
use Rattle.row_filter.specs.declared.filter.Comparison.{Comparison}
use Rattle.row_filter.specs.declared.filter.Constant.{Constant}
use Rattle.row_filter.specs.declared.filter.Filter.{Filter, out-Filter}
use Rattle.row_filter.specs.declared.filter.Filter.TheOpen.{Filter-F}
use Rattle.row_filter.specs.declared.filter.Filter.TheOpen as layers
use Rattle.row_filter.specs.declared.filter.Filter.TheVariants as filters
use Rattle.row_filter.specs.declared.filter.Filter.TheVariants.{rolls-And, rolls-Or, rolls-Not, rolls-Test}
use Rattle.row_filter.specs.declared.filter.Filter.TheFolds.{fold-roll-Filter, fold_out-Filter}
use Rattle.job_text.specs.FilterForms.{FilterForm, form_of, form_step}
use Rattle.job_text.specs.FilterPrinting.{PrintedFilter, printed_filter, printed_step}
use Rattle.job_text.specs.FilterLists.{units_in, units_out, parts_in, parts_out}

pub form-test : (column : ℕ) (test : Comparison) (constant : Constant) → form_of (filters.Test column test constant) ≡ form_step (layers.Test column test constant)
form-test column test constant = ap form_of (sym (rolls-Test column test constant)) ∙ fold-roll-Filter FilterForm form_step (layers.Test column test constant)

pub form-and : (fs : List Filter) → form_of (filters.And fs) ≡ form_step (layers.And (map form_of fs))
form-and fs = ap form_of (sym (rolls-And fs)) ∙ fold-roll-Filter FilterForm form_step (layers.And fs)

pub form-or : (fs : List Filter) → form_of (filters.Or fs) ≡ form_step (layers.Or (map form_of fs))
form-or fs = ap form_of (sym (rolls-Or fs)) ∙ fold-roll-Filter FilterForm form_step (layers.Or fs)

pub form-not : (f : Filter) → form_of (filters.Not f) ≡ form_step (layers.Not (form_of f))
form-not f = ap form_of (sym (rolls-Not f)) ∙ fold-roll-Filter FilterForm form_step (layers.Not f)

-- what a layer says of the filter's form
abbrev pub layer_form : Filter-F Filter → FilterForm
layer_form (layers.Test column test constant) = form_step (layers.Test column test constant)
layer_form (layers.And fs) = form_step (layers.And (map form_of fs))
layer_form (layers.Or fs) = form_step (layers.Or (map form_of fs))
layer_form (layers.Not f) = form_step (layers.Not (form_of f))

pub form-out : (f : Filter) (y : Filter-F Filter) → out-Filter f ≡ y → form_of f ≡ layer_form y
form-out f (layers.Test column test constant) e = fold_out-Filter FilterForm form_step f ∙ rw e refl
form-out f (layers.And fs) e = fold_out-Filter FilterForm form_step f ∙ rw e refl
form-out f (layers.Or fs) e = fold_out-Filter FilterForm form_step f ∙ rw e refl
form-out f (layers.Not g) e = fold_out-Filter FilterForm form_step f ∙ rw e refl

module _ (names : List (List ℕ)) where
  pub printed-test : (column : ℕ) (test : Comparison) (constant : Constant) → printed_filter names (filters.Test column test constant) ≡ printed_step names (layers.Test column test constant)
  printed-test column test constant = ap (printed_filter names) (sym (rolls-Test column test constant)) ∙ fold-roll-Filter PrintedFilter (printed_step names) (layers.Test column test constant)

  pub printed-and : (fs : List Filter) → printed_filter names (filters.And fs) ≡ printed_step names (layers.And (map (printed_filter names) fs))
  printed-and fs = ap (printed_filter names) (sym (rolls-And fs)) ∙ fold-roll-Filter PrintedFilter (printed_step names) (layers.And fs)

  pub printed-or : (fs : List Filter) → printed_filter names (filters.Or fs) ≡ printed_step names (layers.Or (map (printed_filter names) fs))
  printed-or fs = ap (printed_filter names) (sym (rolls-Or fs)) ∙ fold-roll-Filter PrintedFilter (printed_step names) (layers.Or fs)

  pub printed-not : (f : Filter) → printed_filter names (filters.Not f) ≡ printed_step names (layers.Not (printed_filter names f))
  printed-not f = ap (printed_filter names) (sym (rolls-Not f)) ∙ fold-roll-Filter PrintedFilter (printed_step names) (layers.Not f)

-- ---- a filter that isn't a list stands in a list as itself

false_true : false ≡ true → ⊥
false_true e = cc

true_false : true ≡ false → ⊥
true_false e = cc

pub unit_alone : (f : Filter) → (form_of f).is_and ≡ false → units_in f ≡ f ∷ []
unit_alone f h = by (out-Filter f) (ap (λ (k : FilterForm). k.is_and) (sym (form-out f (out-Filter f) refl)) ∙ h)
  where
    by : (y : Filter-F Filter) → (layer_form y).is_and ≡ false → units_out f y ≡ f ∷ []
    by (layers.Test column test constant) e = refl
    by (layers.And fs) e = absurd (true_false e)
    by (layers.Or fs) e = refl
    by (layers.Not g) e = refl

pub part_alone : (f : Filter) → (form_of f).is_or ≡ false → parts_in f ≡ f ∷ []
part_alone f h = by (out-Filter f) (ap (λ (k : FilterForm). k.is_or) (sym (form-out f (out-Filter f) refl)) ∙ h)
  where
    by : (y : Filter-F Filter) → (layer_form y).is_or ≡ false → parts_out f y ≡ f ∷ []
    by (layers.Test column test constant) e = refl
    by (layers.And fs) e = refl
    by (layers.Or fs) e = absurd (true_false e)
    by (layers.Not g) e = refl
