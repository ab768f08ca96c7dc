-- Filters whose columns are moved: which of them are one, which of their columns are numbers, and which rows cover them.
use Rattle.std.proofs.Common.{◌≡◌, ◌<◌, ◌+◌, ◌∙◌, ℕ, List, [], ◌∷◌, ◌++◌, map, get_or, refl, sym, ap, arith, subst}
use Rattle.std.specs.Prelude.{All}
use Rattle.std.specs.List.{flat_map}
use Rattle.std.proofs.lemmas.List.{map-append}
use Rattle.std.proofs.lemmas.List.Elements.{All-cons, All-head, All-map, All-nil, All-tail}
use Rattle.std.proofs.lemmas.List.Folds.{flat_map-map}
use Rattle.row_filter.specs.declared.filter.Comparison.{Comparison}
use Rattle.row_filter.specs.declared.filter.Constant.{Constant}
use Rattle.row_filter.specs.declared.filter.Constant.TheVariants as constants
use Rattle.row_filter.specs.declared.filter.Filter.{Filter, map-Filter}
use Rattle.row_filter.specs.declared.filter.Filter.TheFolds.{fold-roll-Filter, ind-Filter}
use Rattle.row_filter.specs.declared.filter.Filter.TheOpen.{Filter-F}
use Rattle.row_filter.specs.declared.filter.Filter.TheOpen as layers
use Rattle.row_filter.specs.declared.filter.Filter.TheVariants as filters
use Rattle.row_filter.specs.declared.filter.Filter.TheVariants.{rolls-And, rolls-Or, rolls-Not, rolls-Test}
use Rattle.row_filter.specs.declared.filter.Filter.TheViews.{roll-Filter}
use Rattle.row_filter.specs.Meaning.{columns_of}
use Rattle.row_filter.specs.Moved.{moved_filter}
use Rattle.row_filter.specs.Rows.{HasTestedColumns}
use Rattle.row_filter.proofs.Columns.{All-left, All-right}
use Rattle.row_filter.proofs.Meanings.{columns-test, columns-and, columns-or, columns-not}
use Rattle.row_filter.proofs.Movings.{columns_moved, moved-test, moved-and, moved-or, moved-not}
use Rattle.job_text.specs.FilterForms.{FilterForm, filter_places, form_of, form_step}
use Rattle.job_plan.specs.Columns.{filter_numbers, filter_numbers_step, test_numbers}

-- what holds of each test, and of each other filter where it holds of those in it, holds of all
module _ (P : Filter → Type 0)
    (tests : (column : ℕ) (test : Comparison) (constant : Constant) → P (filters.Test column test constant))
    (ands : (fs : List Filter) → All P fs → P (filters.And fs))
    (ors : (fs : List Filter) → All P fs → P (filters.Or fs))
    (nots : (f : Filter) → P f → P (filters.Not f)) where
  each_of : (es : List ((f : Filter) × P f)) → All P (map (λ e. e.0) es)
  each_of [] = All-nil P
  each_of (e ∷ es) = All-cons P e.0 (map (λ d. d.0) es) e.1 (each_of es)

  layer : (y : Filter-F ((f : Filter) × P f)) → P (roll-Filter (map-Filter ((f : Filter) × P f) Filter (λ e. e.0) y))
  layer (layers.Test column test constant) = subst P (sym (rolls-Test column test constant)) (tests column test constant)
  layer (layers.And es) = subst P (sym (rolls-And (map (λ e. e.0) es))) (ands (map (λ e. e.0) es) (each_of es))
  layer (layers.Or es) = subst P (sym (rolls-Or (map (λ e. e.0) es))) (ors (map (λ e. e.0) es) (each_of es))
  layer (layers.Not e) = subst P (sym (rolls-Not e.0)) (nots e.0 e.1)

  by_layers : (f : Filter) → P f
  by_layers = ind-Filter P (λ x y is. subst (λ (z : Filter-F Filter). P (roll-Filter z)) is (layer y))

flat_same : {X Y : Type 0} (f g : X → List Y) (xs : List X) → All (λ x. f x ≡ g x) xs → flat_map f xs ≡ flat_map g xs
flat_same f g [] h = refl
flat_same {X} {Y} f g (x ∷ xs) h =
    ap (λ (front : List Y). front ++ flat_map f xs) (All-head (λ (y : X). f y ≡ g y) x xs h)
    ∙ ap (λ (back : List Y). g x ++ back) (flat_same f g xs (All-tail (λ (y : X). f y ≡ g y) x xs h))

-- ---- the columns that a job's text tells are the filter's

abbrev SameColumns : Filter → Type 0
SameColumns f = filter_places f ≡ columns_of f

test_same : (column : ℕ) (test : Comparison) (constant : Constant) → SameColumns (filters.Test column test constant)
test_same column test constant =
    ap (λ (k : FilterForm). k.columns) (ap form_of (sym (rolls-Test column test constant)) ∙ fold-roll-Filter FilterForm form_step (layers.Test column test constant))
    ∙ sym (columns-test column test constant)

and_same : (fs : List Filter) → All SameColumns fs → SameColumns (filters.And fs)
and_same fs each =
    ap (λ (k : FilterForm). k.columns) (ap form_of (sym (rolls-And fs)) ∙ fold-roll-Filter FilterForm form_step (layers.And fs))
    ∙ flat_map-map (λ (k : FilterForm). k.columns) form_of fs ∙ flat_same filter_places columns_of fs each ∙ sym (columns-and fs)

or_same : (fs : List Filter) → All SameColumns fs → SameColumns (filters.Or fs)
or_same fs each =
    ap (λ (k : FilterForm). k.columns) (ap form_of (sym (rolls-Or fs)) ∙ fold-roll-Filter FilterForm form_step (layers.Or fs))
    ∙ flat_map-map (λ (k : FilterForm). k.columns) form_of fs ∙ flat_same filter_places columns_of fs each ∙ sym (columns-or fs)

not_same : (f : Filter) → SameColumns f → SameColumns (filters.Not f)
not_same f same =
    ap (λ (k : FilterForm). k.columns) (ap form_of (sym (rolls-Not f)) ∙ fold-roll-Filter FilterForm form_step (layers.Not f))
    ∙ same ∙ sym (columns-not f)

pub places_columns : (f : Filter) → filter_places f ≡ columns_of f
places_columns = by_layers SameColumns test_same and_same or_same not_same

-- ---- filters are moved to one where their columns are

module _ (move other : ℕ → ℕ) where
  abbrev Same : ℕ → Type 0
  Same column = move column ≡ other column

  abbrev MovesAlike : Filter → Type 0
  MovesAlike f = All Same (columns_of f) → moved_filter move f ≡ moved_filter other f

  test_alike : (column : ℕ) (test : Comparison) (constant : Constant) → MovesAlike (filters.Test column test constant)
  test_alike column test constant h =
      let here : Same column = All-head Same column [] (subst (All Same) (columns-test column test constant) h) in
      moved-test move column test constant ∙ ap (λ (c : ℕ). filters.Test c test constant) here ∙ sym (moved-test other column test constant)

  all_alike : (fs : List Filter) → All MovesAlike fs → All Same (flat_map columns_of fs) → map (moved_filter move) fs ≡ map (moved_filter other) fs
  all_alike [] each h = refl
  all_alike (f ∷ fs) each h =
      ap (λ (first : Filter). first ∷ map (moved_filter move) fs) (All-head MovesAlike f fs each (All-left Same (columns_of f) (flat_map columns_of fs) h))
      ∙ ap (λ (more : List Filter). moved_filter other f ∷ more) (all_alike fs (All-tail MovesAlike f fs each) (All-right Same (columns_of f) (flat_map columns_of fs) h))

  and_alike : (fs : List Filter) → All MovesAlike fs → MovesAlike (filters.And fs)
  and_alike fs each h = moved-and move fs ∙ ap filters.And (all_alike fs each (subst (All Same) (columns-and fs) h)) ∙ sym (moved-and other fs)

  or_alike : (fs : List Filter) → All MovesAlike fs → MovesAlike (filters.Or fs)
  or_alike fs each h = moved-or move fs ∙ ap filters.Or (all_alike fs each (subst (All Same) (columns-or fs) h)) ∙ sym (moved-or other fs)

  not_alike : (f : Filter) → MovesAlike f → MovesAlike (filters.Not f)
  not_alike f alike h = moved-not move f ∙ ap filters.Not (alike (subst (All Same) (columns-not f) h)) ∙ sym (moved-not other f)

  pub moved_alike : (f : Filter) → All (λ column. move column ≡ other column) (columns_of f) → moved_filter move f ≡ moved_filter other f
  moved_alike = by_layers MovesAlike test_alike and_alike or_alike not_alike

-- ---- the columns that are compared with a number

numbers-test : (column : ℕ) (test : Comparison) (constant : Constant) → filter_numbers (filters.Test column test constant) ≡ test_numbers column constant
numbers-test column test constant = ap filter_numbers (sym (rolls-Test column test constant)) ∙ fold-roll-Filter (List ℕ) filter_numbers_step (layers.Test column test constant)

pub numbers-and : (fs : List Filter) → filter_numbers (filters.And fs) ≡ flat_map filter_numbers fs
numbers-and fs = ap filter_numbers (sym (rolls-And fs)) ∙ fold-roll-Filter (List ℕ) filter_numbers_step (layers.And fs) ∙ flat_map-map (λ (columns : List ℕ). columns) filter_numbers fs

pub numbers-or : (fs : List Filter) → filter_numbers (filters.Or fs) ≡ flat_map filter_numbers fs
numbers-or fs = ap filter_numbers (sym (rolls-Or fs)) ∙ fold-roll-Filter (List ℕ) filter_numbers_step (layers.Or fs) ∙ flat_map-map (λ (columns : List ℕ). columns) filter_numbers fs

numbers-not : (f : Filter) → filter_numbers (filters.Not f) ≡ filter_numbers f
numbers-not f = ap filter_numbers (sym (rolls-Not f)) ∙ fold-roll-Filter (List ℕ) filter_numbers_step (layers.Not f)

module _ (move : ℕ → ℕ) where
  abbrev MovesNumbers : Filter → Type 0
  MovesNumbers f = filter_numbers (moved_filter move f) ≡ map move (filter_numbers f)

  constant_moves : (column : ℕ) (constant : Constant) → test_numbers (move column) constant ≡ map move (test_numbers column constant)
  constant_moves column (constants.Number value) = refl
  constant_moves column (constants.Text text) = refl

  test_moves : (column : ℕ) (test : Comparison) (constant : Constant) → MovesNumbers (filters.Test column test constant)
  test_moves column test constant =
      ap filter_numbers (moved-test move column test constant) ∙ numbers-test (move column) test constant
      ∙ constant_moves column constant ∙ sym (ap (map move) (numbers-test column test constant))

  all_move : (fs : List Filter) → All MovesNumbers fs → flat_map filter_numbers (map (moved_filter move) fs) ≡ map move (flat_map filter_numbers fs)
  all_move [] each = refl
  all_move (f ∷ fs) each =
      ap (λ (front : List ℕ). front ++ flat_map filter_numbers (map (moved_filter move) fs)) (All-head MovesNumbers f fs each)
      ∙ ap (λ (back : List ℕ). map move (filter_numbers f) ++ back) (all_move fs (All-tail MovesNumbers f fs each))
      ∙ sym (map-append move (filter_numbers f) (flat_map filter_numbers fs))

  and_moves : (fs : List Filter) → All MovesNumbers fs → MovesNumbers (filters.And fs)
  and_moves fs each = ap filter_numbers (moved-and move fs) ∙ numbers-and (map (moved_filter move) fs) ∙ all_move fs each ∙ sym (ap (map move) (numbers-and fs))

  or_moves : (fs : List Filter) → All MovesNumbers fs → MovesNumbers (filters.Or fs)
  or_moves fs each = ap filter_numbers (moved-or move fs) ∙ numbers-or (map (moved_filter move) fs) ∙ all_move fs each ∙ sym (ap (map move) (numbers-or fs))

  not_moves : (f : Filter) → MovesNumbers f → MovesNumbers (filters.Not f)
  not_moves f moves = ap filter_numbers (moved-not move f) ∙ numbers-not (moved_filter move f) ∙ moves ∙ sym (ap (map move) (numbers-not f))

  pub numbers_moved : (f : Filter) → filter_numbers (moved_filter move f) ≡ map move (filter_numbers f)
  numbers_moved = by_layers MovesNumbers test_moves and_moves or_moves not_moves

-- ---- rows cover a filter whose columns are moved within theirs

pub covers_moved : (move : ℕ → ℕ) (names columns : ℕ) → ((column : ℕ) → column < names → move column < columns) → (f : Filter)
    → All (λ column. column < names) (columns_of f) → HasTestedColumns (columns + 1) (moved_filter move f)
covers_moved move names columns within f named =
    subst (All (λ (column : ℕ). column + 1 < columns + 1)) (sym (columns_moved move f))
    (All-map (λ (column : ℕ). column + 1 < columns + 1) move (columns_of f)
    (λ i d lt. (let below : move (get_or (columns_of f) i d) < columns = within (get_or (columns_of f) i d) (named i d lt) in omega arith)))
