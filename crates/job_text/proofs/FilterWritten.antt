-- A filter that is written as the grammar has it is read.
use Rattle.std.proofs.Common.{◌≡◌, ℕ, suc, ◌<◌, List, [], ◌∷◌, ◌++◌, length, Some, refl, sym, ap, ◌∙◌, append_assoc, arith}
use Rattle.std.proofs.lemmas.Bool.{lt-ltb, le-leb}
use Rattle.row_filter.specs.declared.filter.Comparison.{Comparison}
use Rattle.row_filter.specs.declared.filter.Constant.{Constant}
use Rattle.row_filter.specs.declared.filter.Filter.{Filter}
use Rattle.row_filter.specs.declared.filter.Filter.TheVariants as filters
use Rattle.job_text.specs.declared.mark.Mark.TheVariants as marks
use Rattle.job_text.specs.declared.token.Token.{Token}
use Rattle.job_text.specs.declared.token.Token.TheVariants.{Fixed}
use Rattle.job_text.specs.declared.filter_state.Terms.{Terms}
use Rattle.job_text.specs.declared.filter_state.Open.{Open}
use Rattle.job_text.specs.declared.filter_state.Open.TheVariants.{Not, Parenthesis}
use Rattle.job_text.specs.declared.filter_state.FilterAt.{FilterAt}
use Rattle.job_text.specs.declared.filter_state.FilterAt.TheVariants as at
use Rattle.job_text.specs.declared.filter_state.FilterState.{FilterState}
use Rattle.job_text.specs.Columns.{place_of, with_name, with_names}
use Rattle.job_text.specs.FilterLists.{units_in, parts_in, and_of, or_of}
use Rattle.job_text.specs.FilterStep.{filter_step, filter_steps, filter_start, filter_at, filter_of, close_nots, unit_read, whole_parts, no_terms}
use Rattle.job_text.specs.FilterGrammar.{IsColumn, IsTest, IsConstant, IsUnit, AreUnits, AreParts, IsWrittenFilter}
use Rattle.job_text.specs.FilterGrammar.{word, in_quotes, equal, not_equal, less, at_most, greater, at_least, number, text, negated, in_parentheses, compared, one_unit, and_unit, one_part, or_part}
use Rattle.job_text.proofs.Named.{place_now, with_names-append}

abbrev pub put_filter : List Open → Terms → FilterAt → FilterState
put_filter around terms place = record { around = around; terms = terms; at = place }

pub filter_step_then : (names : List (List ℕ)) (s : FilterState) (t : Token) (ts : List Token) (later : List (List ℕ)) (next : FilterState) → filter_step names s t ≡ Some (later, next) → filter_steps names s (t ∷ ts) ≡ filter_steps later next ts
unfolding filter_steps
filter_step_then names s t ts later next e = rw e refl

-- ---- the tokens of a test

column_step : (names : List (List ℕ)) (around : List Open) (terms : Terms) (c : Token) (name : List ℕ) → IsColumn c name
    → filter_step names (put_filter around terms at.Unit) c ≡ Some (with_name names name, put_filter around terms (at.Test (place_of names name)))
unfolding filter_step
column_step names around terms c name (word short) = rw (le-leb (length name) 1024 short) refl
column_step names around terms c name (in_quotes short) = rw (le-leb (length name) 1024 short) refl

test_step : (names : List (List ℕ)) (around : List Open) (terms : Terms) (column : ℕ) (t : Token) (test : Comparison) → IsTest t test
    → filter_step names (put_filter around terms (at.Test column)) t ≡ Some (names, put_filter around terms (at.Constant column test))
unfolding filter_step
test_step names around terms column t test equal = refl
test_step names around terms column t test not_equal = refl
test_step names around terms column t test less = refl
test_step names around terms column t test at_most = refl
test_step names around terms column t test greater = refl
test_step names around terms column t test at_least = refl

constant_step : (names : List (List ℕ)) (around : List Open) (terms : Terms) (column : ℕ) (test : Comparison) (k : Token) (constant : Constant) → IsConstant k constant
    → filter_step names (put_filter around terms (at.Constant column test)) k ≡ Some (names, unit_read terms (close_nots around (filters.Test column test constant)))
unfolding filter_step
constant_step names around terms column test k constant number = refl
constant_step names around terms column test k constant text = refl

-- ---- what is open

-- no `not` stands right before the unit at hand
abbrev pub IsLevel : List Open → Type 0
IsLevel [] = Unit {0}
IsLevel (Not ∷ around) = ⊥
IsLevel (Parenthesis terms ∷ around) = Unit {0}

level_closed : (around : List Open) (unit : Filter) → IsLevel around → close_nots around unit ≡ (around, unit)
level_closed [] unit h = refl
level_closed (Not ∷ around) unit h = absurd h
level_closed (Parenthesis terms ∷ around) unit h = refl

module _ (all : List (List ℕ)) where
  -- from this place on the names become all
  abbrev Follows : List (List ℕ) → List (List ℕ) → Type 0
  Follows names used = (later : List (List ℕ)) × (with_names (with_names names used) later ≡ all)

  follows_first : (names used more : List (List ℕ)) → Follows names (used ++ more) → Follows names used
  follows_first names used more h = (more ++ h.0, with_names-append more h.0 (with_names names used) ∙ sym (ap (λ (l : List (List ℕ)). with_names l h.0) (with_names-append used more names)) ∙ h.1)

  follows_then : (names used more : List (List ℕ)) → Follows names (used ++ more) → Follows (with_names names used) more
  follows_then names used more h = (h.0, sym (ap (λ (l : List (List ℕ)). with_names l h.0) (with_names-append used more names)) ∙ h.1)

  record UnitRead (outside : ℕ) (ts : List Token) (used : List (List ℕ)) (unit : Filter) : Type 0 where
    reads : (names : List (List ℕ)) → Follows names used → (around : List Open) (terms : Terms) (rest : List Token) → length around ≡ outside
        → filter_steps names (put_filter around terms at.Unit) (ts ++ rest) ≡ filter_steps (with_names names used) (unit_read terms (close_nots around unit)) rest

  record UnitsRead (outside : ℕ) (ts : List Token) (used : List (List ℕ)) (units : List Filter) : Type 0 where
    reads : (names : List (List ℕ)) → Follows names used → (around : List Open) (parts : List Filter) (rest : List Token) → length around ≡ outside → IsLevel around
        → filter_steps names (put_filter around (record { parts = parts; units = [] }) at.Unit) (ts ++ rest) ≡ filter_steps (with_names names used) (put_filter around (record { parts = parts; units = units }) at.Behind) rest

  record PartsDone (ts : List Token) (used : List (List ℕ)) (parts : List Filter) (names : List (List ℕ)) (around : List Open) : Type 0 where
    terms : Terms
    is : whole_parts terms ≡ parts
    reads : (rest : List Token) → filter_steps names (put_filter around no_terms at.Unit) (ts ++ rest) ≡ filter_steps (with_names names used) (put_filter around terms at.Behind) rest

  record PartsRead (outside : ℕ) (ts : List Token) (used : List (List ℕ)) (parts : List Filter) : Type 0 where
    reads : (names : List (List ℕ)) → Follows names used → (around : List Open) → length around ≡ outside → IsLevel around → PartsDone ts used parts names around

  unit_behind : (around : List Open) (parts before : List Filter) (unit : Filter) → IsLevel around
      → unit_read (record { parts = parts; units = before }) (close_nots around unit) ≡ put_filter around (record { parts = parts; units = before ++ units_in unit }) at.Behind
  unit_behind around parts before unit h = rw (level_closed around unit h) refl

  not_read : (outside : ℕ) (ts : List Token) (used : List (List ℕ)) (unit : Filter) → outside < 64 → UnitRead (suc outside) ts used unit → UnitRead outside (Fixed marks.Not ∷ ts) used (filters.Not unit)
  unfolding filter_step
  not_read outside ts used unit few h = record {
    reads = λ names f around terms rest is.
        filter_step_then names (put_filter around terms at.Unit) (Fixed marks.Not) (ts ++ rest) names (put_filter (Not ∷ around) terms at.Unit) (rw (lt-ltb (length around) 64 (omega (arith, few))) refl)
        ∙ h.reads names f (Not ∷ around) terms rest (ap suc is);
  }

  parentheses_read : (outside : ℕ) (ts : List Token) (used : List (List ℕ)) (parts : List Filter) → outside < 64 → PartsRead (suc outside) ts used parts → UnitRead outside (Fixed marks.Open ∷ ts ++ Fixed marks.Close ∷ []) used (or_of parts)
  unfolding filter_step
  parentheses_read outside ts used parts few h = record {
    reads = λ names f around terms rest is.
        let inner : List Open = Parenthesis terms ∷ around in
        let done = h.reads names f inner (ap suc is) tt in
        filter_step_then names (put_filter around terms at.Unit) (Fixed marks.Open) ((ts ++ Fixed marks.Close ∷ []) ++ rest) names (put_filter inner no_terms at.Unit) (rw (lt-ltb (length around) 64 (omega (arith, few))) refl)
        ∙ ap (λ (l : List Token). filter_steps names (put_filter inner no_terms at.Unit) l) (append_assoc ts (Fixed marks.Close ∷ []) rest)
        ∙ done.reads (Fixed marks.Close ∷ rest)
        ∙ filter_step_then (with_names names used) (put_filter inner done.terms at.Behind) (Fixed marks.Close) rest (with_names names used) (unit_read terms (close_nots around (filter_of done.terms))) refl
        ∙ ap (λ (l : List Filter). filter_steps (with_names names used) (unit_read terms (close_nots around (or_of l))) rest) done.is;
  }

  test_read : (outside : ℕ) (c t k : Token) (name : List ℕ) (test : Comparison) (constant : Constant) → IsColumn c name → IsTest t test → IsConstant k constant
      → UnitRead outside (c ∷ t ∷ k ∷ []) (name ∷ []) (filters.Test (place_of all name) test constant)
  test_read outside c t k name test constant column is_test is_constant = record {
    reads = λ names f around terms rest is.
        let later = with_name names name in
        let place : place_of names name ≡ place_of all name = place_now names name f.0 ∙ ap (λ (l : List (List ℕ)). place_of l name) f.1 in
        filter_step_then names (put_filter around terms at.Unit) c (t ∷ k ∷ rest) later (put_filter around terms (at.Test (place_of names name))) (column_step names around terms c name column)
        ∙ filter_step_then later (put_filter around terms (at.Test (place_of names name))) t (k ∷ rest) later (put_filter around terms (at.Constant (place_of names name) test)) (test_step later around terms (place_of names name) t test is_test)
        ∙ filter_step_then later (put_filter around terms (at.Constant (place_of names name) test)) k rest later (unit_read terms (close_nots around (filters.Test (place_of names name) test constant))) (constant_step later around terms (place_of names name) test k constant is_constant)
        ∙ ap (λ (p : ℕ). filter_steps later (unit_read terms (close_nots around (filters.Test p test constant))) rest) place;
  }

  one_unit_read : (outside : ℕ) (ts : List Token) (used : List (List ℕ)) (unit : Filter) → UnitRead outside ts used unit → UnitsRead outside ts used (units_in unit)
  one_unit_read outside ts used unit h = record {
    reads = λ names f around parts rest is level.
        h.reads names f around (record { parts = parts; units = [] }) rest is
        ∙ ap (λ (s : FilterState). filter_steps (with_names names used) s rest) (unit_behind around parts [] unit level);
  }

  and_unit_read : (outside : ℕ) (ts us : List Token) (used more : List (List ℕ)) (units : List Filter) (unit : Filter) → UnitsRead outside ts used units → UnitRead outside us more unit
      → UnitsRead outside (ts ++ Fixed marks.And ∷ us) (used ++ more) (units ++ units_in unit)
  unfolding filter_step
  and_unit_read outside ts us used more units unit h g = record {
    reads = λ names f around parts rest is level.
        let mid = with_names names used in
        let terms : Terms = record { parts = parts; units = units } in
        ap (λ (l : List Token). filter_steps names (put_filter around (record { parts = parts; units = [] }) at.Unit) l) (append_assoc ts (Fixed marks.And ∷ us) rest)
        ∙ h.reads names (follows_first names used more f) around parts (Fixed marks.And ∷ (us ++ rest)) is level
        ∙ filter_step_then mid (put_filter around terms at.Behind) (Fixed marks.And) (us ++ rest) mid (put_filter around terms at.Unit) refl
        ∙ g.reads mid (follows_then names used more f) around terms rest is
        ∙ ap (λ (s : FilterState). filter_steps (with_names mid more) s rest) (unit_behind around parts units unit level)
        ∙ ap (λ (l : List (List ℕ)). filter_steps l (put_filter around (record { parts = parts; units = units ++ units_in unit }) at.Behind) rest) (sym (with_names-append used more names));
  }

  one_part_read : (outside : ℕ) (ts : List Token) (used : List (List ℕ)) (units : List Filter) → UnitsRead outside ts used units → PartsRead outside ts used (parts_in (and_of units))
  one_part_read outside ts used units h = record {
    reads = λ names f around is level. record {
      terms = record { parts = []; units = units };
      is = refl;
      reads = λ rest. h.reads names f around [] rest is level;
    };
  }

  or_part_read : (outside : ℕ) (ts us : List Token) (used more : List (List ℕ)) (parts units : List Filter) → PartsRead outside ts used parts → UnitsRead outside us more units
      → PartsRead outside (ts ++ Fixed marks.Or ∷ us) (used ++ more) (parts ++ parts_in (and_of units))
  unfolding filter_step
  or_part_read outside ts us used more parts units h g = record {
    reads = λ names f around is level.
        let mid = with_names names used in
        let done = h.reads names (follows_first names used more f) around is level in
        let begun : Terms = record { parts = parts; units = [] } in
        record {
          terms = record { parts = parts; units = units };
          is = refl;
          reads = λ rest.
              ap (λ (l : List Token). filter_steps names (put_filter around no_terms at.Unit) l) (append_assoc ts (Fixed marks.Or ∷ us) rest)
              ∙ done.reads (Fixed marks.Or ∷ (us ++ rest))
              ∙ filter_step_then mid (put_filter around done.terms at.Behind) (Fixed marks.Or) (us ++ rest) mid (put_filter around (record { parts = whole_parts done.terms; units = [] }) at.Unit) refl
              ∙ ap (λ (l : List Filter). filter_steps mid (put_filter around (record { parts = l; units = [] }) at.Unit) (us ++ rest)) done.is
              ∙ g.reads mid (follows_then names used more f) around parts rest is level
              ∙ ap (λ (l : List (List ℕ)). filter_steps l (put_filter around (record { parts = parts; units = units }) at.Behind) rest) (sym (with_names-append used more names));
        };
  }

mutual
  unit_reads : (all : List (List ℕ)) (outside : ℕ) (ts : List Token) (used : List (List ℕ)) (unit : Filter) → IsUnit all outside ts used unit → UnitRead all outside ts used unit
  unit_reads all outside ts used unit (negated few h) = not_read all _ _ _ _ few (unit_reads all _ _ _ _ h)
  unit_reads all outside ts used unit (in_parentheses few h) = parentheses_read all _ _ _ _ few (parts_read all _ _ _ _ h)
  unit_reads all outside ts used unit (compared column test constant) = test_read all _ _ _ _ _ _ _ column test constant

  units_read : (all : List (List ℕ)) (outside : ℕ) (ts : List Token) (used : List (List ℕ)) (units : List Filter) → AreUnits all outside ts used units → UnitsRead all outside ts used units
  units_read all outside ts used units (one_unit h) = one_unit_read all _ _ _ _ (unit_reads all _ _ _ _ h)
  units_read all outside ts used units (and_unit h g) = and_unit_read all _ _ _ _ _ _ _ (units_read all _ _ _ _ h) (unit_reads all _ _ _ _ g)

  parts_read : (all : List (List ℕ)) (outside : ℕ) (ts : List Token) (used : List (List ℕ)) (parts : List Filter) → AreParts all outside ts used parts → PartsRead all outside ts used parts
  parts_read all outside ts used parts (one_part h) = one_part_read all _ _ _ _ (units_read all _ _ _ _ h)
  parts_read all outside ts used parts (or_part h g) = or_part_read all _ _ _ _ _ _ _ (parts_read all _ _ _ _ h) (units_read all _ _ _ _ g)

-- the state behind the tokens of a filter
pub record FilterRead (names used : List (List ℕ)) (ts : List Token) (filter : Filter) : Type 0 where
  pub last : FilterState
  pub is : filter_at last ≡ Some filter
  pub reads : (rest : List Token) → filter_steps names filter_start (ts ++ rest) ≡ filter_steps (with_names names used) last rest

-- what is written is read, where all names are those before it, its own and later ones
pub written_read : (names used later : List (List ℕ)) (ts : List Token) (filter : Filter) → IsWrittenFilter (with_names (with_names names used) later) ts used filter → FilterRead names used ts filter
written_read names used later ts filter w =
    let all = with_names (with_names names used) later in
    let done = (parts_read all 0 ts used w.parts w.written).reads names (later, refl) [] refl tt in
    record {
      last = put_filter [] done.terms at.Behind;
      is = ap (λ (l : List Filter). Some (or_of l)) done.is ∙ ap (λ (f : Filter). Some f) (sym w.is);
      reads = done.reads;
    }
