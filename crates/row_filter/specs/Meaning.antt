-- Which rows a filter keeps.
-- After SQL's comparisons and connectives, as Spark's predicates have them; that bytes are compared as they stand is this project's own.
use Rattle.std.specs.Prelude.{ℕ, Bool, not, pos, List, [], ◌∷◌, flat_map}
use Rattle.std.specs.List.{list_all, list_any}
use Rattle.std.specs.Option.{unwrap_or}
use Rattle.std.specs.Ordering.{int_cmp, is_eq, is_ge, is_gt, is_le, is_lt, is_ne, nat_cmp}
use Rattle.std.specs.Cmp.Lexicographic.{slice_cmp}
use Rattle.std.specs.declared.cmp.Ordering.{Ordering}
use Rattle.row_form.specs.Numbers.{number}
use Rattle.row_filter.specs.declared.filter.Comparison.{Comparison}
use Rattle.row_filter.specs.declared.filter.Comparison.TheVariants as tests
use Rattle.row_filter.specs.declared.filter.Constant.{Constant}
use Rattle.row_filter.specs.declared.filter.Constant.TheVariants as constants
use Rattle.row_filter.specs.declared.filter.Filter.{Filter}
use Rattle.row_filter.specs.declared.filter.Filter.TheOpen.{Filter-F}
use Rattle.row_filter.specs.declared.filter.Filter.TheOpen as layers
use Rattle.row_filter.specs.declared.filter.Filter.TheFolds.{fold-Filter}

-- whether a comparison holds of a field that stands so to the constant
abbrev pub comparison_holds : Comparison → Ordering → Bool
comparison_holds tests.Equal order = is_eq order
comparison_holds tests.NotEqual order = is_ne order
comparison_holds tests.Less order = is_lt order
comparison_holds tests.AtMost order = is_le order
comparison_holds tests.Greater order = is_gt order
comparison_holds tests.AtLeast order = is_ge order

-- how a field stands to a constant: by the number that it is, 0 where it is none, or byte by byte
abbrev pub order_to : List ℕ → Constant → Ordering
order_to field (constants.Number constant) = int_cmp (unwrap_or (number field) (pos 0)) constant
order_to field (constants.Text text) = slice_cmp nat_cmp field text

-- whether a filter keeps a row with such a field in each column, where it is told of the filters in it
abbrev pub keeps_step : (ℕ → List ℕ) → Filter-F Bool → Bool
keeps_step field_at (layers.Test column test constant) = comparison_holds test (order_to (field_at column) constant)
keeps_step field_at (layers.And parts) = list_all (λ kept. kept) parts
keeps_step field_at (layers.Or parts) = list_any (λ kept. kept) parts
keeps_step field_at (layers.Not inner) = not inner

-- whether a filter keeps a row with such a field in each column
abbrev pub keeps : (ℕ → List ℕ) → Filter → Bool
keeps field_at = fold-Filter Bool (keeps_step field_at)

-- the columns of a filter's tests, in their order, where they are told of the filters in it
abbrev pub columns_step : Filter-F (List ℕ) → List ℕ
columns_step (layers.Test column test constant) = column ∷ []
columns_step (layers.And parts) = flat_map (λ columns. columns) parts
columns_step (layers.Or parts) = flat_map (λ columns. columns) parts
columns_step (layers.Not inner) = inner

-- the columns of a filter's tests, in their order
abbrev pub columns_of : Filter → List ℕ
columns_of = fold-Filter (List ℕ) columns_step
