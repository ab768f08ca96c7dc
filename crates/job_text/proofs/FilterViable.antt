-- Each state of a filter that is reached can be gone on from to a whole filter.
use Rattle.std.proofs.Common.{◌≡◌, ℕ, zero, suc, ◌<◌, ◌≤◌, Bool, true, false, List, [], ◌∷◌, ◌++◌, length, Option, Some, None, refl, arith}
use Rattle.std.specs.Prelude.{⊤, All, IsSome, IfSome, nat_lt, if◌then◌else◌}
use Rattle.std.proofs.lemmas.List.Elements.{All-nil, All-cons}
use Rattle.std.proofs.lemmas.Str.{IsUtf8-from_ascii}
use Rattle.std.proofs.lemmas.Str.Ascii.{IsAscii-from_all}
use Rattle.row_filter.specs.declared.filter.Comparison.{Comparison}
use Rattle.row_filter.specs.declared.filter.Comparison.TheVariants as tests
use Rattle.row_filter.specs.declared.filter.Constant.{Constant}
use Rattle.row_filter.specs.declared.filter.Constant.TheVariants as constants
use Rattle.row_filter.specs.declared.filter.Filter.{Filter}
use Rattle.row_filter.specs.declared.filter.Filter.TheVariants as filters
use Rattle.job_text.specs.declared.mark.Mark.{Mark}
use Rattle.job_text.specs.declared.mark.Mark.TheVariants as marks
use Rattle.job_text.specs.declared.token.Token.{Token}
use Rattle.job_text.specs.declared.token.Token.TheVariants.{Fixed, Word, Quoted, Text, Whole}
use Rattle.job_text.specs.declared.filter_state.Terms.{Terms}
use Rattle.job_text.specs.declared.filter_state.Open.{Open}
use Rattle.job_text.specs.declared.filter_state.Open.TheVariants.{Not, Parenthesis}
use Rattle.job_text.specs.declared.filter_state.FilterAt.{FilterAt}
use Rattle.job_text.specs.declared.filter_state.FilterAt.TheVariants as at
use Rattle.job_text.specs.declared.filter_state.FilterState.{FilterState}
use Rattle.job_text.specs.Scan.{IsSpelled}
use Rattle.job_text.specs.Columns.{place_of, with_name, is_short}
use Rattle.job_text.specs.FilterLists.{units_in}
use Rattle.job_text.specs.FilterStep.{filter_step, filter_steps, filter_at, filter_of, filter_mark, filter_constant, filter_column, after_unit, after_test, after_behind, after_close, comparison_of, same_names, close_nots, unit_read, no_terms}
use Rattle.job_text.proofs.FilterWritten.{put_filter, IsLevel}

-- ---- behind a unit no `not` is open

-- what holds of each state that is reached
abbrev pub LevelAt : FilterAt → List Open → Type 0
LevelAt at.Unit around = ⊤
LevelAt (at.Test column) around = ⊤
LevelAt (at.Constant column test) around = ⊤
LevelAt at.Behind around = IsLevel around

abbrev pub FilterFits : FilterState → Type 0
FilterFits s = LevelAt s.at s.around

closed : (around : List Open) (unit : Filter) → IsLevel (close_nots around unit).0 × (length (close_nots around unit).0 ≤ length around)
closed [] unit = (tt, omega arith)
closed (Not ∷ around) unit = let h = closed around (filters.Not unit) in (h.0, omega (arith, h.1))
closed (Parenthesis terms ∷ around) unit = (tt, omega arith)

fits_if : (b : Bool) (next : FilterState) → FilterFits next → IfSome (if b then Some next else None) FilterFits
fits_if true next h = h
fits_if false next h = tt

fits_close : (around : List Open) (filter : Filter) → IfSome (after_close around filter) FilterFits
fits_close [] filter = tt
fits_close (Not ∷ around) filter = tt
fits_close (Parenthesis terms ∷ around) filter = (closed around filter).0

fits_mark : (s : FilterState) (place : FilterAt) (mark : Mark) → IfSome (filter_mark s place mark) FilterFits
fits_mark s at.Unit mark = fits_unit mark
  where
    fits_unit : (mark : Mark) → IfSome (after_unit s mark) FilterFits
    fits_unit marks.Not = fits_if (nat_lt (length s.around) 64) (record { around = Not ∷ s.around; terms = s.terms; at = at.Unit }) tt
    fits_unit marks.Open = fits_if (nat_lt (length s.around) 64) (record { around = Parenthesis s.terms ∷ s.around; terms = no_terms; at = at.Unit }) tt
    fits_unit _ = tt
fits_mark s (at.Test column) mark = fits_test (comparison_of mark)
  where
    fits_test : (o : Option Comparison) → IfSome (after_test s column o) FilterFits
    fits_test None = tt
    fits_test (Some test) = tt
fits_mark s (at.Constant column test) mark = tt
fits_mark s at.Behind mark = fits_behind mark
  where
    fits_behind : (mark : Mark) → IfSome (after_behind s mark) FilterFits
    fits_behind marks.And = tt
    fits_behind marks.Or = tt
    fits_behind marks.Close = fits_close s.around (filter_of s.terms)
    fits_behind _ = tt

fits_constant : (s : FilterState) (place : FilterAt) (constant : Constant) → IfSome (filter_constant s place constant) FilterFits
fits_constant s at.Unit constant = tt
fits_constant s (at.Test column) constant = tt
fits_constant s (at.Constant column test) constant = (closed s.around (filters.Test column test constant)).0
fits_constant s at.Behind constant = tt

fits_named : (names : List (List ℕ)) (o : Option FilterState) → IfSome o FilterFits → IfSome (same_names names o) (λ next. FilterFits next.1)
fits_named names None h = tt
fits_named names (Some next) h = h

fits_pair : (b : Bool) (next : List (List ℕ) × FilterState) → FilterFits next.1 → IfSome (if b then Some next else None) (λ next. FilterFits next.1)
fits_pair true next h = h
fits_pair false next h = tt

fits_column : (names : List (List ℕ)) (s : FilterState) (place : FilterAt) (name : List ℕ) → IfSome (filter_column names s place name) (λ next. FilterFits next.1)
fits_column names s at.Unit name = fits_pair (is_short name) (with_name names name, record s { at = at.Test (place_of names name) }) tt
fits_column names s (at.Test column) name = tt
fits_column names s (at.Constant column test) name = tt
fits_column names s at.Behind name = tt

pub filter_fits : (names : List (List ℕ)) (s : FilterState) (t : Token) → IfSome (filter_step names s t) (λ next. FilterFits next.1)
unfolding filter_step
filter_fits names s (Fixed mark) = fits_named names _ (fits_mark s s.at mark)
filter_fits names s (Word name) = fits_column names s s.at name
filter_fits names s (Quoted name) = fits_column names s s.at name
filter_fits names s (Text text) = fits_named names _ (fits_constant s s.at (constants.Text text))
filter_fits names s (Whole None) = tt
filter_fits names s (Whole (Some number)) = fits_named names _ (fits_constant s s.at (constants.Number number))

-- ---- from the last token back

-- the state behind some tokens, where the filter may end
pub record EndsWith (names : List (List ℕ)) (s : FilterState) (rest : List Token) : Type 0 where
  pub final : List (List ℕ)
  pub last : FilterState
  pub steps : filter_steps names s rest ≡ Some (final, last)
  pub ends : IsSome (filter_at last)

-- some tokens that a text may have lead from here to a whole filter
abbrev pub FilterViable : List (List ℕ) → FilterState → Type 0
FilterViable names s = (rest : List Token) × All IsSpelled rest × EndsWith names s rest

by_token : (names later : List (List ℕ)) (s next : FilterState) (t : Token) → IsSpelled t → filter_step names s t ≡ Some (later, next) → FilterViable later next → FilterViable names s
unfolding filter_steps
by_token names later s next t spelled e v = (t ∷ v.0, All-cons IsSpelled t v.0 spelled v.1, record { final = v.2.final; last = v.2.last; steps = rw e v.2.steps; ends = v.2.ends })

module _ (names : List (List ℕ)) where
  -- by how much is open
  behind_viable : (n : ℕ) (around : List Open) (terms : Terms) → length around ≤ n → IsLevel around → FilterViable names (put_filter around terms at.Behind)
  unfolding filter_step filter_steps
  behind_viable n [] terms le h = ([], All-nil IsSpelled, record { final = names; last = put_filter [] terms at.Behind; steps = refl; ends = refl })
  behind_viable n (Not ∷ around) terms le h = absurd h
  behind_viable zero (Parenthesis outer ∷ around) terms le h = absurd (omega arith)
  behind_viable (suc n) (Parenthesis outer ∷ around) terms le h =
      let after = close_nots around (filter_of terms) in
      let c = closed around (filter_of terms) in
      by_token names names _ (unit_read outer after) (Fixed marks.Close) tt refl
      (behind_viable n after.0 (record outer { units = outer.units ++ units_in after.1 }) (omega (arith, c.1)) c.0)

  no_bytes : IsSpelled (Quoted [])
  no_bytes = IsUtf8-from_ascii [] (IsAscii-from_all [] (All-nil (λ b. b < 128)))

  constant_viable : (around : List Open) (terms : Terms) (column : ℕ) (test : Comparison) → FilterViable names (put_filter around terms (at.Constant column test))
  unfolding filter_step
  constant_viable around terms column test =
      let unit : Filter = filters.Test column test (constants.Text []) in
      let after = close_nots around unit in
      by_token names names _ (unit_read terms after) (Text []) no_bytes refl
      (behind_viable (length after.0) after.0 (record terms { units = terms.units ++ units_in after.1 }) (omega arith) (closed around unit).0)

  test_viable : (around : List Open) (terms : Terms) (column : ℕ) → FilterViable names (put_filter around terms (at.Test column))
  unfolding filter_step
  test_viable around terms column = by_token names names _ _ (Fixed marks.Equal) tt refl (constant_viable around terms column tests.Equal)

unit_viable : (names : List (List ℕ)) (around : List Open) (terms : Terms) → FilterViable names (put_filter around terms at.Unit)
unfolding filter_step
unit_viable names around terms = by_token names (with_name names []) _ _ (Quoted []) (no_bytes names) refl (test_viable (with_name names []) around terms _)

pub filter_viable : (names : List (List ℕ)) (s : FilterState) → FilterFits s → FilterViable names s
filter_viable names s h = viable_at s.at h
  where
    viable_at : (place : FilterAt) → LevelAt place s.around → FilterViable names (put_filter s.around s.terms place)
    viable_at at.Unit h = unit_viable names s.around s.terms
    viable_at (at.Test column) h = test_viable names s.around s.terms column
    viable_at (at.Constant column test) h = constant_viable names s.around s.terms column test
    viable_at at.Behind h = behind_viable names (length s.around) s.around s.terms (omega arith) h
