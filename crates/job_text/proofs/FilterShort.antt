-- The columns of a filter have at most 1,024 bytes.
use Rattle.std.proofs.Common.{ℕ, ◌≤◌, List, [], length}
use Rattle.std.specs.Prelude.{All}
use Rattle.std.proofs.lemmas.List.Elements.{All-nil, All-cons, All-append}
use Rattle.row_filter.specs.declared.filter.Filter.{Filter}
use Rattle.job_text.specs.declared.token.Token.{Token}
use Rattle.job_text.specs.FilterGrammar.{IsColumn, IsUnit, AreUnits, AreParts, IsWrittenFilter}
use Rattle.job_text.specs.FilterGrammar.{word, in_quotes, negated, in_parentheses, compared, one_unit, and_unit, one_part, or_part}

abbrev IsShortName : List ℕ → Type 0
IsShortName name = length name ≤ 1024

column_short : (t : Token) (name : List ℕ) → IsColumn t name → IsShortName name
column_short t name (word h) = h
column_short t name (in_quotes h) = h

mutual
  unit_short : (all : List (List ℕ)) (outside : ℕ) (ts : List Token) (used : List (List ℕ)) (f : Filter) → IsUnit all outside ts used f → All IsShortName used
  unit_short all outside ts used f (negated few h) = unit_short all _ _ _ _ h
  unit_short all outside ts used f (in_parentheses few h) = parts_short all _ _ _ _ h
  unit_short all outside ts used f (compared {name = name} column test constant) = All-cons IsShortName name [] (column_short _ name column) (All-nil IsShortName)

  units_short : (all : List (List ℕ)) (outside : ℕ) (ts : List Token) (used : List (List ℕ)) (fs : List Filter) → AreUnits all outside ts used fs → All IsShortName used
  units_short all outside ts used fs (one_unit h) = unit_short all _ _ _ _ h
  units_short all outside ts used fs (and_unit h g) = All-append IsShortName _ _ (units_short all _ _ _ _ h) (unit_short all _ _ _ _ g)

  parts_short : (all : List (List ℕ)) (outside : ℕ) (ts : List Token) (used : List (List ℕ)) (fs : List Filter) → AreParts all outside ts used fs → All IsShortName used
  parts_short all outside ts used fs (one_part h) = units_short all _ _ _ _ h
  parts_short all outside ts used fs (or_part h g) = All-append IsShortName _ _ (parts_short all _ _ _ _ h) (units_short all _ _ _ _ g)

pub filter_short : (all : List (List ℕ)) (ts : List Token) (used : List (List ℕ)) (f : Filter) → IsWrittenFilter all ts used f → All (λ name. length name ≤ 1024) used
filter_short all ts used f w = parts_short all 0 ts used w.parts w.written
