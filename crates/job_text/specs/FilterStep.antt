-- Reading a filter token by token: what each token leads to, or None where it is refused.
-- This project's own.
use Rattle.std.specs.Prelude.{ℕ, ℤ, List, [], ◌∷◌, ◌++◌, length, nat_lt, if◌then◌else◌, Bool, true, false, Option, Some, None, option_and_then}
use Rattle.row_filter.specs.declared.filter.Comparison.{Comparison}
use Rattle.row_filter.specs.declared.filter.Comparison.TheVariants as tests
use Rattle.row_filter.specs.declared.filter.Constant.{Constant}
use Rattle.row_filter.specs.declared.filter.Constant.TheVariants as constants
use Rattle.row_filter.specs.declared.filter.Filter.{Filter}
use Rattle.row_filter.specs.declared.filter.Filter.TheVariants as filters
use Rattle.job_text.specs.declared.mark.Mark.{Mark}
use Rattle.job_text.specs.declared.mark.Mark.TheVariants as marks
use Rattle.job_text.specs.declared.token.Token.{Token}
use Rattle.job_text.specs.declared.token.Token.TheVariants.{Fixed, Word, Quoted, Text, Whole}
use Rattle.job_text.specs.declared.filter_state.Terms.{Terms}
use Rattle.job_text.specs.declared.filter_state.Open.{Open}
use Rattle.job_text.specs.declared.filter_state.Open.TheVariants.{Not, Parenthesis}
use Rattle.job_text.specs.declared.filter_state.FilterAt.{FilterAt}
use Rattle.job_text.specs.declared.filter_state.FilterAt.TheVariants as at
use Rattle.job_text.specs.declared.filter_state.FilterState.{FilterState}
use Rattle.job_text.specs.Columns.{place_of, with_name, is_short}
use Rattle.job_text.specs.FilterLists.{units_in, parts_in, and_of, or_of}

-- the parts, with the units at hand as the last one
abbrev pub whole_parts : Terms → List Filter
whole_parts terms = terms.parts ++ parts_in (and_of terms.units)

-- parts and units as one filter
abbrev pub filter_of : Terms → Filter
filter_of terms = or_of (whole_parts terms)

-- the unit at hand stands right behind a `not`
abbrev pub is_not : List Open → Bool
is_not [] = false
is_not (Not ∷ around) = true
is_not (Parenthesis terms ∷ around) = false

-- a unit that is whole closes each `not` right before it
abbrev pub close_nots : List Open → Filter → List Open × Filter
close_nots [] unit = ([], unit)
close_nots (Not ∷ around) unit = close_nots around (filters.Not unit)
close_nots (Parenthesis terms ∷ around) unit = (Parenthesis terms ∷ around, unit)

-- behind a whole unit
abbrev pub unit_read : Terms → List Open × Filter → FilterState
unit_read terms closed = record {
  around = closed.0;
  terms = record terms { units = terms.units ++ units_in closed.1 };
  at = at.Behind;
}

-- nothing stands before the unit at hand
abbrev pub no_terms : Terms
no_terms = record { parts = []; units = [] }

-- at most 64 are open around a unit
abbrev pub opened : FilterState → Open → Terms → Option FilterState
opened s outer terms =
    if nat_lt (length s.around) 64 then Some (record { around = outer ∷ s.around; terms = terms; at = at.Unit }) else None

-- behind a filter in parentheses
abbrev pub after_close : List Open → Filter → Option FilterState
after_close [] filter = None
after_close (Not ∷ around) filter = None
after_close (Parenthesis terms ∷ around) filter = Some (unit_read terms (close_nots around filter))

-- the test that a sign means
abbrev pub comparison_of : Mark → Option Comparison
comparison_of marks.Equal = Some tests.Equal
comparison_of marks.NotEqual = Some tests.NotEqual
comparison_of marks.Less = Some tests.Less
comparison_of marks.AtMost = Some tests.AtMost
comparison_of marks.Greater = Some tests.Greater
comparison_of marks.AtLeast = Some tests.AtLeast
comparison_of _ = None

-- where a unit must come
abbrev pub after_unit : FilterState → Mark → Option FilterState
after_unit s marks.Not = opened s Not s.terms
after_unit s marks.Open = opened s (Parenthesis s.terms) no_terms
after_unit s _ = None

-- where a test must come
abbrev pub after_test : FilterState → ℕ → Option Comparison → Option FilterState
after_test s column None = None
after_test s column (Some test) = Some (record s { at = at.Constant column test })

-- behind a unit
abbrev pub after_behind : FilterState → Mark → Option FilterState
after_behind s marks.And = Some (record s { at = at.Unit })
after_behind s marks.Or = Some (record s { terms = record { parts = whole_parts s.terms; units = [] }; at = at.Unit })
after_behind s marks.Close = after_close s.around (filter_of s.terms)
after_behind s _ = None

-- a reserved word or a sign
abbrev pub filter_mark : FilterState → FilterAt → Mark → Option FilterState
filter_mark s at.Unit mark = after_unit s mark
filter_mark s (at.Test column) mark = after_test s column (comparison_of mark)
filter_mark s (at.Constant column test) mark = None
filter_mark s at.Behind mark = after_behind s mark

-- a constant
abbrev pub filter_constant : FilterState → FilterAt → Constant → Option FilterState
filter_constant s (at.Constant column test) constant =
    Some (unit_read s.terms (close_nots s.around (filters.Test column test constant)))
filter_constant s _ constant = None

-- a whole number, None where it leaves 64 bits
abbrev pub filter_whole : FilterState → FilterAt → Option ℤ → Option FilterState
filter_whole s place None = None
filter_whole s place (Some number) = filter_constant s place (constants.Number number)

-- a column
abbrev pub filter_column : List (List ℕ) → FilterState → FilterAt → List ℕ → Option (List (List ℕ) × FilterState)
filter_column names s at.Unit name =
    if is_short name then Some (with_name names name, record s { at = at.Test (place_of names name) }) else None
filter_column names s _ name = None

-- the names stay
abbrev pub same_names : List (List ℕ) → Option FilterState → Option (List (List ℕ) × FilterState)
same_names names None = None
same_names names (Some s) = Some (names, s)

-- what follows a token: the names and the state, or None where it is refused
unfoldable pub filter_step : List (List ℕ) → FilterState → Token → Option (List (List ℕ) × FilterState)
filter_step names s (Fixed mark) = same_names names (filter_mark s s.at mark)
filter_step names s (Word name) = filter_column names s s.at name
filter_step names s (Quoted name) = filter_column names s s.at name
filter_step names s (Text text) = same_names names (filter_constant s s.at (constants.Text text))
filter_step names s (Whole number) = same_names names (filter_whole s s.at number)

-- nothing was read
abbrev pub filter_start : FilterState
filter_start = record { around = []; terms = no_terms; at = at.Unit }

-- the filter, where it may end here
abbrev pub filter_when : List Open → FilterAt → Terms → Option Filter
filter_when [] at.Behind terms = Some (filter_of terms)
filter_when _ _ terms = None

-- the filter of a state, where it may end there
abbrev pub filter_at : FilterState → Option Filter
filter_at s = filter_when s.around s.at s.terms

-- what tokens lead to
unfoldable pub filter_steps : List (List ℕ) → FilterState → List Token → Option (List (List ℕ) × FilterState)
filter_steps names s [] = Some (names, s)
filter_steps names s (t ∷ ts) = option_and_then (λ next. filter_steps next.0 next.1 ts) (filter_step names s t)
