-- How a filter may be written, by its tokens, and which filter that is. A column is its place among the job's names.
-- This project's own.
use Rattle.std.specs.Prelude.{◌≡◌, ℕ, suc, ℤ, ◌<◌, ◌≤◌, List, [], ◌∷◌, ◌++◌, length, Some}
use Rattle.row_filter.specs.declared.filter.Comparison.{Comparison}
use Rattle.row_filter.specs.declared.filter.Comparison.TheVariants as tests
use Rattle.row_filter.specs.declared.filter.Constant.{Constant}
use Rattle.row_filter.specs.declared.filter.Constant.TheVariants as constants
use Rattle.row_filter.specs.declared.filter.Filter.{Filter}
use Rattle.row_filter.specs.declared.filter.Filter.TheVariants as filters
use Rattle.job_text.specs.declared.mark.Mark.TheVariants as marks
use Rattle.job_text.specs.declared.token.Token.{Token}
use Rattle.job_text.specs.declared.token.Token.TheVariants.{Fixed, Word, Quoted, Text, Whole}
use Rattle.job_text.specs.Columns.{place_of}
use Rattle.job_text.specs.FilterLists.{units_in, parts_in, and_of, or_of}

-- column = a word that isn't reserved | a name in double quotes; it has at most 1,024 bytes
pub data IsColumn : Token → List ℕ → Type 0 where
  word : {name : List ℕ} → length name ≤ 1024 → IsColumn (Word name) name
  in_quotes : {name : List ℕ} → length name ≤ 1024 → IsColumn (Quoted name) name

-- test = "=" | "!=" | "<" | "<=" | ">" | ">="
pub data IsTest : Token → Comparison → Type 0 where
  equal : IsTest (Fixed marks.Equal) tests.Equal
  not_equal : IsTest (Fixed marks.NotEqual) tests.NotEqual
  less : IsTest (Fixed marks.Less) tests.Less
  at_most : IsTest (Fixed marks.AtMost) tests.AtMost
  greater : IsTest (Fixed marks.Greater) tests.Greater
  at_least : IsTest (Fixed marks.AtLeast) tests.AtLeast

-- constant = a whole number of 64 bits | a text
pub data IsConstant : Token → Constant → Type 0 where
  number : {value : ℤ} → IsConstant (Whole (Some value)) (constants.Number value)
  text : {bytes : List ℕ} → IsConstant (Text bytes) (constants.Text bytes)

-- `outside` of `not` and `(` are open around it, and at most 64 around a unit; `used` are the names of its
-- columns. Lists are flat: a part that is an `or` adds its parts, and a unit that is an `and` its units.
mutual
  -- unit = "not" unit | "(" filter ")" | column test constant
  pub data IsUnit (all : List (List ℕ)) : ℕ → List Token → List (List ℕ) → Filter → Type 0 where
    negated : {outside : ℕ} {ts : List Token} {used : List (List ℕ)} {unit : Filter}
        → outside < 64 → IsUnit all (suc outside) ts used unit
        → IsUnit all outside (Fixed marks.Not ∷ ts) used (filters.Not unit)
    in_parentheses : {outside : ℕ} {ts : List Token} {used : List (List ℕ)} {parts : List Filter}
        → outside < 64 → AreParts all (suc outside) ts used parts
        → IsUnit all outside (Fixed marks.Open ∷ ts ++ Fixed marks.Close ∷ []) used (or_of parts)
    compared : {outside : ℕ} {c t k : Token} {name : List ℕ} {test : Comparison} {constant : Constant}
        → IsColumn c name → IsTest t test → IsConstant k constant
        → IsUnit all outside (c ∷ t ∷ k ∷ []) (name ∷ []) (filters.Test (place_of all name) test constant)

  -- part = unit { "and" unit }
  pub data AreUnits (all : List (List ℕ)) : ℕ → List Token → List (List ℕ) → List Filter → Type 0 where
    one_unit : {outside : ℕ} {ts : List Token} {used : List (List ℕ)} {unit : Filter}
        → IsUnit all outside ts used unit → AreUnits all outside ts used (units_in unit)
    and_unit : {outside : ℕ} {ts us : List Token} {used more : List (List ℕ)} {units : List Filter} {unit : Filter}
        → AreUnits all outside ts used units → IsUnit all outside us more unit
        → AreUnits all outside (ts ++ Fixed marks.And ∷ us) (used ++ more) (units ++ units_in unit)

  -- filter = part { "or" part }
  pub data AreParts (all : List (List ℕ)) : ℕ → List Token → List (List ℕ) → List Filter → Type 0 where
    one_part : {outside : ℕ} {ts : List Token} {used : List (List ℕ)} {units : List Filter}
        → AreUnits all outside ts used units → AreParts all outside ts used (parts_in (and_of units))
    or_part : {outside : ℕ} {ts us : List Token} {used more : List (List ℕ)} {parts units : List Filter}
        → AreParts all outside ts used parts → AreUnits all outside us more units
        → AreParts all outside (ts ++ Fixed marks.Or ∷ us) (used ++ more) (parts ++ parts_in (and_of units))

-- these tokens are the filter
pub record IsWrittenFilter (all : List (List ℕ)) (ts : List Token) (used : List (List ℕ)) (filter : Filter) : Type 0 where
  pub parts : List Filter
  pub written : AreParts all 0 ts used parts
  pub is : filter ≡ or_of parts
