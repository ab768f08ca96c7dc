-- The names that a filter uses are those of its tokens.
use Rattle.std.proofs.Common.{◌≡◌, ℕ, List, [], ◌∷◌, ◌++◌, refl, sym, ap, ◌∙◌}
use Rattle.std.specs.Prelude.{flat_map}
use Rattle.std.proofs.lemmas.List.Concat.{flat_map-append}
use Rattle.std.proofs.lemmas.List.{append-nil}
use Rattle.row_filter.specs.declared.filter.Comparison.{Comparison}
use Rattle.row_filter.specs.declared.filter.Constant.{Constant}
use Rattle.row_filter.specs.declared.filter.Filter.{Filter}
use Rattle.job_text.specs.declared.mark.Mark.{Mark}
use Rattle.job_text.specs.declared.mark.Mark.TheVariants as marks
use Rattle.job_text.specs.declared.token.Token.{Token}
use Rattle.job_text.specs.declared.token.Token.TheVariants.{Fixed, Word, Quoted}
use Rattle.job_text.specs.FilterGrammar.{IsColumn, IsTest, IsConstant, IsUnit, AreUnits, AreParts, IsWrittenFilter}
use Rattle.job_text.specs.FilterGrammar.{word, in_quotes, equal, not_equal, less, at_most, greater, at_least, number, text, negated, in_parentheses, compared, one_unit, and_unit, one_part, or_part}

abbrev token_name : Token → List (List ℕ)
token_name (Word name) = name ∷ []
token_name (Quoted name) = name ∷ []
token_name _ = []

abbrev pub token_names : List Token → List (List ℕ)
token_names ts = flat_map token_name ts

of_column : (t : Token) (name : List ℕ) → IsColumn t name → token_name t ≡ name ∷ []
of_column t name (word h) = refl
of_column t name (in_quotes h) = refl

of_test : (t : Token) (test : Comparison) → IsTest t test → token_name t ≡ []
of_test t test equal = refl
of_test t test not_equal = refl
of_test t test less = refl
of_test t test at_most = refl
of_test t test greater = refl
of_test t test at_least = refl

of_constant : (t : Token) (constant : Constant) → IsConstant t constant → token_name t ≡ []
of_constant t constant number = refl
of_constant t constant text = refl

of_three : (c t k : Token) (name : List ℕ) → token_name c ≡ name ∷ [] → token_name t ≡ [] → token_name k ≡ [] → name ∷ [] ≡ token_names (c ∷ t ∷ k ∷ [])
of_three c t k name e f g = rw (e, f, g) refl

of_enclosed : (ts : List Token) (used : List (List ℕ)) → used ≡ token_names ts → used ≡ token_names (Fixed marks.Open ∷ ts ++ Fixed marks.Close ∷ [])
of_enclosed ts used e = e ∙ sym (append-nil (token_names ts)) ∙ sym (flat_map-append token_name ts (Fixed marks.Close ∷ []))

of_both : (ts us : List Token) (sign : Mark) (used more : List (List ℕ)) → used ≡ token_names ts → more ≡ token_names us → used ++ more ≡ token_names (ts ++ Fixed sign ∷ us)
of_both ts us sign used more e f = ap (λ (l : List (List ℕ)). l ++ more) e ∙ ap (λ (l : List (List ℕ)). token_names ts ++ l) f ∙ sym (flat_map-append token_name ts (Fixed sign ∷ us))

mutual
  unit_uses : (all : List (List ℕ)) (outside : ℕ) (ts : List Token) (used : List (List ℕ)) (f : Filter) → IsUnit all outside ts used f → used ≡ token_names ts
  unit_uses all outside ts used f (negated few h) = unit_uses all _ _ _ _ h
  unit_uses all outside ts used f (in_parentheses {ts = inner} few h) = of_enclosed inner used (parts_uses all _ _ _ _ h)
  unit_uses all outside ts used f (compared {c = c} {t = t} {k = k} {name = name} {test = test} {constant = constant} column sign value) = of_three c t k name (of_column c name column) (of_test t test sign) (of_constant k constant value)

  units_uses : (all : List (List ℕ)) (outside : ℕ) (ts : List Token) (used : List (List ℕ)) (fs : List Filter) → AreUnits all outside ts used fs → used ≡ token_names ts
  units_uses all outside ts used fs (one_unit h) = unit_uses all _ _ _ _ h
  units_uses all outside ts used fs (and_unit {ts = front} {us = back} {used = one} {more = other} h g) = of_both front back marks.And one other (units_uses all _ _ _ _ h) (unit_uses all _ _ _ _ g)

  parts_uses : (all : List (List ℕ)) (outside : ℕ) (ts : List Token) (used : List (List ℕ)) (fs : List Filter) → AreParts all outside ts used fs → used ≡ token_names ts
  parts_uses all outside ts used fs (one_part h) = units_uses all _ _ _ _ h
  parts_uses all outside ts used fs (or_part {ts = front} {us = back} {used = one} {more = other} h g) = of_both front back marks.Or one other (parts_uses all _ _ _ _ h) (units_uses all _ _ _ _ g)

pub filter_uses_are : (all : List (List ℕ)) (ts : List Token) (used : List (List ℕ)) (f : Filter) → IsWrittenFilter all ts used f → used ≡ token_names ts
filter_uses_are all ts used f w = parts_uses all 0 ts used w.parts w.written
