-- What holds of each filter that has a text: how its lists are, how deep it is, and which columns it has.
-- This project's own.
use Rattle.std.specs.Prelude.{◌≡◌, ℕ, ◌+◌, ◌<◌, ◌≤◌, max, List, [], ◌∷◌, map, flat_map, Bool, true, false, not, ◌&&◌, All}
use Rattle.std.specs.List.{list_all}
use Rattle.aggregate.specs.Partial.{fits_i64}
use Rattle.row_filter.specs.declared.filter.Constant.{Constant}
use Rattle.row_filter.specs.declared.filter.Constant.TheVariants as constants
use Rattle.row_filter.specs.declared.filter.Filter.{Filter}
use Rattle.row_filter.specs.declared.filter.Filter.TheOpen.{Filter-F}
use Rattle.row_filter.specs.declared.filter.Filter.TheOpen as layers
use Rattle.row_filter.specs.declared.filter.Filter.TheFolds.{fold-Filter}

-- what is told of a filter
pub record FilterForm : Type 0 where
  -- each list in it has two items or more, and none of its own kind
  pub flat : Bool
  pub is_and : Bool
  pub is_or : Bool
  -- each whole number in it has 64 bits
  pub ranged : Bool
  -- how many of `not` and `(` are open around a unit of it at most, where it stands by itself and as a unit
  pub depth : ℕ
  pub unit_depth : ℕ
  -- its columns, in the order in which they are printed
  pub columns : List ℕ

-- the constant is a text, or a whole number of 64 bits
abbrev pub is_ranged : Constant → Bool
is_ranged (constants.Number number) = fits_i64 number
is_ranged (constants.Text text) = true

-- two items or more
abbrev pub are_several : {A : Type 0} → List A → Bool
are_several [] = false
are_several (one ∷ []) = false
are_several (one ∷ two ∷ more) = true

-- the greatest of these
abbrev pub deepest : List ℕ → ℕ
deepest [] = 0
deepest (n ∷ ns) = max n (deepest ns)

-- each is flat, and isn't of this kind
abbrev pub are_flat : (FilterForm → Bool) → List FilterForm → Bool
are_flat kind items = list_all (λ item. item.flat && not (kind item)) items

-- the form of a filter, by those of the filters in it
abbrev pub form_step : Filter-F FilterForm → FilterForm
form_step (layers.Test column test constant) = record {
  flat = true;
  is_and = false;
  is_or = false;
  ranged = is_ranged constant;
  depth = 0;
  unit_depth = 0;
  columns = column ∷ [];
}
form_step (layers.And units) = record {
  flat = are_several units && are_flat (λ unit. unit.is_and) units;
  is_and = true;
  is_or = false;
  ranged = list_all (λ unit. unit.ranged) units;
  depth = deepest (map (λ unit. unit.unit_depth) units);
  unit_depth = deepest (map (λ unit. unit.unit_depth) units) + 1;
  columns = flat_map (λ unit. unit.columns) units;
}
form_step (layers.Or parts) = record {
  flat = are_several parts && are_flat (λ part. part.is_or) parts;
  is_and = false;
  is_or = true;
  ranged = list_all (λ part. part.ranged) parts;
  depth = deepest (map (λ part. part.depth) parts);
  unit_depth = deepest (map (λ part. part.depth) parts) + 1;
  columns = flat_map (λ part. part.columns) parts;
}
form_step (layers.Not unit) = record {
  flat = unit.flat;
  is_and = false;
  is_or = false;
  ranged = unit.ranged;
  depth = unit.unit_depth + 1;
  unit_depth = unit.unit_depth + 1;
  columns = unit.columns;
}

-- the form of a filter
abbrev pub form_of : Filter → FilterForm
form_of = fold-Filter FilterForm form_step

-- the columns of a filter, in the order in which they are printed
abbrev pub filter_places : Filter → List ℕ
filter_places filter = (form_of filter).columns

-- the columns of filters in a list
abbrev pub list_places : List Filter → List ℕ
list_places filters = flat_map (λ form. form.columns) (map form_of filters)

-- what each filter has that was read from a text, over so many names
pub record IsFilter (names : ℕ) (filter : Filter) : Type 0 where
  pub flat : (form_of filter).flat ≡ true
  pub ranged : (form_of filter).ranged ≡ true
  pub shallow : (form_of filter).depth ≤ 64
  pub named : All (λ column. column < names) (filter_places filter)
