-- What a filter whose columns are moved keeps, and which columns it has.
use Rattle.std.proofs.Common.{◌≡◌, ℕ, Bool, not, ◌&&◌, ◌||◌, List, [], ◌∷◌, ◌++◌, map, refl, sym, ap, subst, ◌∙◌}
use Rattle.std.specs.List.{flat_map, list_all, list_any}
use Rattle.std.proofs.lemmas.List.{map-append}
use Rattle.row_filter.specs.declared.filter.Comparison.{Comparison}
use Rattle.row_filter.specs.declared.filter.Constant.{Constant}
use Rattle.row_filter.specs.declared.filter.Filter.{Filter, map-Filter}
use Rattle.row_filter.specs.declared.filter.Filter.TheViews.{roll-Filter}
use Rattle.row_filter.specs.declared.filter.Filter.TheOpen.{Filter-F}
use Rattle.row_filter.specs.declared.filter.Filter.TheOpen as layers
use Rattle.row_filter.specs.declared.filter.Filter.TheVariants as filters
use Rattle.row_filter.specs.declared.filter.Filter.TheVariants.{rolls-And, rolls-Or, rolls-Not, rolls-Test}
use Rattle.row_filter.specs.declared.filter.Filter.TheFolds.{fold-roll-Filter, ind-Filter}
use Rattle.row_filter.specs.Meaning.{columns_of, keeps}
use Rattle.row_filter.specs.Moved.{moved_filter, moved_step}
use Rattle.row_filter.proofs.Meanings.{columns-test, columns-and, columns-or, columns-not, keeps-test, keeps-and, keeps-or, keeps-not}

module _ (move : ℕ → ℕ) where
  pub moved-test : (column : ℕ) (test : Comparison) (constant : Constant) → moved_filter move (filters.Test column test constant) ≡ filters.Test (move column) test constant
  moved-test column test constant = ap (moved_filter move) (sym (rolls-Test column test constant)) ∙ fold-roll-Filter Filter (moved_step move) (layers.Test column test constant)

  pub moved-and : (fs : List Filter) → moved_filter move (filters.And fs) ≡ filters.And (map (moved_filter move) fs)
  moved-and fs = ap (moved_filter move) (sym (rolls-And fs)) ∙ fold-roll-Filter Filter (moved_step move) (layers.And fs)

  pub moved-or : (fs : List Filter) → moved_filter move (filters.Or fs) ≡ filters.Or (map (moved_filter move) fs)
  moved-or fs = ap (moved_filter move) (sym (rolls-Or fs)) ∙ fold-roll-Filter Filter (moved_step move) (layers.Or fs)

  pub moved-not : (f : Filter) → moved_filter move (filters.Not f) ≡ filters.Not (moved_filter move f)
  moved-not f = ap (moved_filter move) (sym (rolls-Not f)) ∙ fold-roll-Filter Filter (moved_step move) (layers.Not f)

  -- ---- what it keeps

  module _ (field_at : ℕ → List ℕ) where
    abbrev before : ℕ → List ℕ
    before column = field_at (move column)

    abbrev Keeps : Filter → Type 0
    Keeps f = keeps field_at (moved_filter move f) ≡ keeps before f

    each_all : (es : List ((f : Filter) × Keeps f)) → list_all (keeps field_at) (map (moved_filter move) (map (λ e. e.0) es)) ≡ list_all (keeps before) (map (λ e. e.0) es)
    each_all [] = refl
    each_all (e ∷ es) = ap (λ (b : Bool). b && list_all (keeps field_at) (map (moved_filter move) (map (λ d. d.0) es))) e.1
        ∙ ap (λ (b : Bool). keeps before e.0 && b) (each_all es)

    each_any : (es : List ((f : Filter) × Keeps f)) → list_any (keeps field_at) (map (moved_filter move) (map (λ e. e.0) es)) ≡ list_any (keeps before) (map (λ e. e.0) es)
    each_any [] = refl
    each_any (e ∷ es) = ap (λ (b : Bool). b || list_any (keeps field_at) (map (moved_filter move) (map (λ d. d.0) es))) e.1
        ∙ ap (λ (b : Bool). keeps before e.0 || b) (each_any es)

    test_keeps : (column : ℕ) (test : Comparison) (constant : Constant) → Keeps (filters.Test column test constant)
    test_keeps column test constant = ap (keeps field_at) (moved-test column test constant) ∙ keeps-test field_at (move column) test constant ∙ sym (keeps-test before column test constant)

    and_keeps : (fs : List Filter) → list_all (keeps field_at) (map (moved_filter move) fs) ≡ list_all (keeps before) fs → Keeps (filters.And fs)
    and_keeps fs h = ap (keeps field_at) (moved-and fs) ∙ keeps-and field_at (map (moved_filter move) fs) ∙ h ∙ sym (keeps-and before fs)

    or_keeps : (fs : List Filter) → list_any (keeps field_at) (map (moved_filter move) fs) ≡ list_any (keeps before) fs → Keeps (filters.Or fs)
    or_keeps fs h = ap (keeps field_at) (moved-or fs) ∙ keeps-or field_at (map (moved_filter move) fs) ∙ h ∙ sym (keeps-or before fs)

    not_keeps : (f : Filter) → Keeps f → Keeps (filters.Not f)
    not_keeps f h = ap (keeps field_at) (moved-not f) ∙ keeps-not field_at (moved_filter move f) ∙ ap not h ∙ sym (keeps-not before f)

    layer_keeps : (y : Filter-F ((f : Filter) × Keeps f)) → Keeps (roll-Filter (map-Filter ((f : Filter) × Keeps f) Filter (λ e. e.0) y))
    layer_keeps (layers.Test column test constant) = subst Keeps (sym (rolls-Test column test constant)) (test_keeps column test constant)
    layer_keeps (layers.And es) = subst Keeps (sym (rolls-And (map (λ e. e.0) es))) (and_keeps (map (λ e. e.0) es) (each_all es))
    layer_keeps (layers.Or es) = subst Keeps (sym (rolls-Or (map (λ e. e.0) es))) (or_keeps (map (λ e. e.0) es) (each_any es))
    layer_keeps (layers.Not e) = subst Keeps (sym (rolls-Not e.0)) (not_keeps e.0 e.1)

    pub keeps_moved : (f : Filter) → keeps field_at (moved_filter move f) ≡ keeps (λ column. field_at (move column)) f
    keeps_moved = ind-Filter Keeps (λ x y is. subst (λ (z : Filter-F Filter). Keeps (roll-Filter z)) is (layer_keeps y))

  -- ---- its columns

  abbrev Moves : Filter → Type 0
  Moves f = columns_of (moved_filter move f) ≡ map move (columns_of f)

  each_moves : (es : List ((f : Filter) × Moves f)) → flat_map columns_of (map (moved_filter move) (map (λ e. e.0) es)) ≡ map move (flat_map columns_of (map (λ e. e.0) es))
  each_moves [] = refl
  each_moves (e ∷ es) = ap (λ (columns : List ℕ). columns ++ flat_map columns_of (map (moved_filter move) (map (λ d. d.0) es))) e.1
      ∙ ap (λ (columns : List ℕ). map move (columns_of e.0) ++ columns) (each_moves es)
      ∙ sym (map-append move (columns_of e.0) (flat_map columns_of (map (λ d. d.0) es)))

  test_moves : (column : ℕ) (test : Comparison) (constant : Constant) → Moves (filters.Test column test constant)
  test_moves column test constant = ap columns_of (moved-test column test constant) ∙ columns-test (move column) test constant ∙ sym (ap (map move) (columns-test column test constant))

  and_moves : (fs : List Filter) → flat_map columns_of (map (moved_filter move) fs) ≡ map move (flat_map columns_of fs) → Moves (filters.And fs)
  and_moves fs h = ap columns_of (moved-and fs) ∙ columns-and (map (moved_filter move) fs) ∙ h ∙ sym (ap (map move) (columns-and fs))

  or_moves : (fs : List Filter) → flat_map columns_of (map (moved_filter move) fs) ≡ map move (flat_map columns_of fs) → Moves (filters.Or fs)
  or_moves fs h = ap columns_of (moved-or fs) ∙ columns-or (map (moved_filter move) fs) ∙ h ∙ sym (ap (map move) (columns-or fs))

  not_moves : (f : Filter) → Moves f → Moves (filters.Not f)
  not_moves f h = ap columns_of (moved-not f) ∙ columns-not (moved_filter move f) ∙ h ∙ sym (ap (map move) (columns-not f))

  layer_moves : (y : Filter-F ((f : Filter) × Moves f)) → Moves (roll-Filter (map-Filter ((f : Filter) × Moves f) Filter (λ e. e.0) y))
  layer_moves (layers.Test column test constant) = subst Moves (sym (rolls-Test column test constant)) (test_moves column test constant)
  layer_moves (layers.And es) = subst Moves (sym (rolls-And (map (λ e. e.0) es))) (and_moves (map (λ e. e.0) es) (each_moves es))
  layer_moves (layers.Or es) = subst Moves (sym (rolls-Or (map (λ e. e.0) es))) (or_moves (map (λ e. e.0) es) (each_moves es))
  layer_moves (layers.Not e) = subst Moves (sym (rolls-Not e.0)) (not_moves e.0 e.1)

  pub columns_moved : (f : Filter) → columns_of (moved_filter move f) ≡ map move (columns_of f)
  columns_moved = ind-Filter Moves (λ x y is. subst (λ (z : Filter-F Filter). Moves (roll-Filter z)) is (layer_moves y))
