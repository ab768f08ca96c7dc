-- How a filter is printed, as tokens: in parentheses stand an `or` in an `and`, and an `or` or `and` in a `not`.
-- This project's own.
use Rattle.std.specs.Prelude.{ℕ, List, [], ◌∷◌, ◌++◌, Bool, if◌then◌else◌, Some}
use Rattle.row_filter.specs.declared.filter.Comparison.{Comparison}
use Rattle.row_filter.specs.declared.filter.Comparison.TheVariants as tests
use Rattle.row_filter.specs.declared.filter.Constant.{Constant}
use Rattle.row_filter.specs.declared.filter.Constant.TheVariants as constants
use Rattle.row_filter.specs.declared.filter.Filter.{Filter}
use Rattle.row_filter.specs.declared.filter.Filter.TheOpen.{Filter-F}
use Rattle.row_filter.specs.declared.filter.Filter.TheOpen as layers
use Rattle.row_filter.specs.declared.filter.Filter.TheFolds.{fold-Filter}
use Rattle.job_text.specs.declared.mark.Mark.{Mark}
use Rattle.job_text.specs.declared.mark.Mark.TheVariants as marks
use Rattle.job_text.specs.declared.token.Token.{Token}
use Rattle.job_text.specs.declared.token.Token.TheVariants.{Fixed, Text, Whole}
use Rattle.job_text.specs.Grammar.{separated}
use Rattle.job_text.specs.Printing.{place_tokens}

-- the sign of a test
abbrev pub test_mark : Comparison → Mark
test_mark tests.Equal = marks.Equal
test_mark tests.NotEqual = marks.NotEqual
test_mark tests.Less = marks.Less
test_mark tests.AtMost = marks.AtMost
test_mark tests.Greater = marks.Greater
test_mark tests.AtLeast = marks.AtLeast

-- a constant's token
abbrev pub constant_token : Constant → Token
constant_token (constants.Number number) = Whole (Some number)
constant_token (constants.Text text) = Text text

-- the tokens of a filter by itself, and as a unit
pub record PrintedFilter : Type 0 where
  pub plain : List Token
  pub unit : List Token

-- the same in both places
abbrev pub bare : List Token → PrintedFilter
bare ts = record { plain = ts; unit = ts }

-- in parentheses where it is a unit
abbrev pub enclosed : List Token → PrintedFilter
enclosed ts = record { plain = ts; unit = Fixed marks.Open ∷ ts ++ Fixed marks.Close ∷ [] }

-- one filter, by how those in it are printed
abbrev pub printed_step : List (List ℕ) → Filter-F PrintedFilter → PrintedFilter
printed_step names (layers.Test column test constant) =
    bare (place_tokens names column ++ Fixed (test_mark test) ∷ constant_token constant ∷ [])
printed_step names (layers.And units) = enclosed (separated marks.And (λ unit. unit.unit) units)
printed_step names (layers.Or parts) = enclosed (separated marks.Or (λ part. part.plain) parts)
printed_step names (layers.Not unit) = bare (Fixed marks.Not ∷ unit.unit)

-- how a filter is printed, over these names
abbrev pub printed_filter : List (List ℕ) → Filter → PrintedFilter
printed_filter names = fold-Filter PrintedFilter (printed_step names)

-- how it is printed in this place
abbrev pub printed_in : Bool → PrintedFilter → List Token
printed_in as_unit printed = if as_unit then printed.unit else printed.plain

-- the tokens of a filter behind `where`
abbrev pub filter_tokens : List (List ℕ) → Filter → List Token
filter_tokens names filter = (printed_filter names filter).plain

-- the tokens of filters in a list, with a sign between two of them
abbrev pub list_tokens : List (List ℕ) → Mark → Bool → List Filter → List Token
list_tokens names sign as_units filters =
    separated sign (λ filter. printed_in as_units (printed_filter names filter)) filters
