-- A filter's printed tokens are written as the grammar has it.
use Rattle.std.proofs.Common.{◌≡◌, ℕ, suc, ◌+◌, ◌<◌, ◌≤◌, Bool, true, false, List, [], ◌∷◌, ◌++◌, length, map, get_or, refl, sym, ap, subst, ◌∙◌, append_assoc, arith, ◌&&◌, not, inl, inr}
use Rattle.std.specs.Prelude.{All}
use Rattle.std.proofs.lemmas.Bool.{and_parts, cases_Bool}
use Rattle.std.proofs.lemmas.List.{append-nil, map-append}
use Rattle.row_filter.specs.declared.filter.Comparison.{Comparison}
use Rattle.row_filter.specs.declared.filter.Comparison.TheVariants as tests
use Rattle.row_filter.specs.declared.filter.Constant.{Constant}
use Rattle.row_filter.specs.declared.filter.Constant.TheVariants as constants
use Rattle.row_filter.specs.declared.filter.Filter.{Filter}
use Rattle.row_filter.specs.declared.filter.Filter.TheOpen.{Filter-F}
use Rattle.row_filter.specs.declared.filter.Filter.TheOpen as layers
use Rattle.row_filter.specs.declared.filter.Filter.TheVariants as filters
use Rattle.row_filter.specs.declared.filter.Filter.TheVariants.{rolls-And, rolls-Or, rolls-Not, rolls-Test}
use Rattle.row_filter.specs.declared.filter.Filter.TheFolds.{ind-Filter}
use Rattle.row_filter.specs.declared.filter.Filter.{map-Filter}
use Rattle.row_filter.specs.declared.filter.Filter.TheViews.{roll-Filter}
use Rattle.job_text.specs.declared.mark.Mark.{Mark}
use Rattle.job_text.specs.declared.mark.Mark.TheVariants as marks
use Rattle.job_text.specs.declared.token.Token.{Token}
use Rattle.job_text.specs.declared.token.Token.TheVariants.{Fixed}
use Rattle.job_text.specs.Scan.{is_plain}
use Rattle.job_text.specs.Columns.{place_of}
use Rattle.job_text.specs.Grammar.{separated}
use Rattle.job_text.specs.Printing.{column_token}
use Rattle.job_text.specs.FilterLists.{units_in, parts_in, and_of, or_of}
use Rattle.job_text.specs.FilterGrammar.{IsColumn, IsTest, IsConstant, IsUnit, AreUnits, AreParts, IsWrittenFilter}
use Rattle.job_text.specs.FilterGrammar.{word, in_quotes, equal, not_equal, less, at_most, greater, at_least, number, text, negated, in_parentheses, compared, one_unit, and_unit, one_part, or_part}
use Rattle.job_text.specs.FilterForms.{FilterForm, form_of, form_step, are_flat, deepest, filter_places, list_places, IsFilter}
use Rattle.job_text.specs.FilterPrinting.{PrintedFilter, printed_filter, printed_step, bare, filter_tokens, test_mark, constant_token}
use Rattle.job_text.proofs.FilterEquations.{form-test, form-and, form-or, form-not, printed-test, printed-and, printed-or, printed-not, unit_alone, part_alone}
use Rattle.job_text.proofs.FilterItems.{All-left, All-right, Each, not_false}

-- ---- tokens of a test

column_is : (name : List ℕ) → length name ≤ 1024 → IsColumn (column_token name) name
column_is name short = elim (cases_Bool (is_plain name)) [
  | inl e ↦ rw e (word short)
  | inr e ↦ rw e (in_quotes short)
]

test_is : (test : Comparison) → IsTest (Fixed (test_mark test)) test
test_is tests.Equal = equal
test_is tests.NotEqual = not_equal
test_is tests.Less = less
test_is tests.AtMost = at_most
test_is tests.Greater = greater
test_is tests.AtLeast = at_least

constant_is : (constant : Constant) → IsConstant (constant_token constant) constant
constant_is (constants.Number value) = number
constant_is (constants.Text bytes) = text

-- ---- lists

-- the names of each, one after another
abbrev names_each : (Filter → List (List ℕ)) → List Filter → List (List ℕ)
names_each names [] = []
names_each names (f ∷ fs) = names f ++ names_each names fs

-- how a list is written, by how its items are
module _ (sign : Mark) (R : List Token → List (List ℕ) → List Filter → Type 0) (Q : List Token → List (List ℕ) → Filter → Type 0)
    (one : (ts : List Token) (used : List (List ℕ)) (f : Filter) → Q ts used f → R ts used (f ∷ []))
    (more : (ts us : List Token) (used names : List (List ℕ)) (fs : List Filter) (f : Filter) → R ts used fs → Q us names f → R (ts ++ Fixed sign ∷ us) (used ++ names) (fs ++ f ∷ []))
    (tokens : Filter → List Token) (names : Filter → List (List ℕ)) where
  abbrev Right : Filter → Type 0
  Right f = Q (tokens f) (names f) f

  moved : (ts us : List Token) (used names : List (List ℕ)) (fs gs : List Filter) → ts ≡ us → used ≡ names → fs ≡ gs → R ts used fs → R us names gs
  moved ts us used names fs gs e f g r = rw (sym e, sym f, sym g) r

  list_on : (ts : List Token) (used : List (List ℕ)) (before : List Filter) (f : Filter) (fs : List Filter) → R ts used before → Each Right (f ∷ fs)
      → R (ts ++ Fixed sign ∷ separated sign tokens (f ∷ fs)) (used ++ names_each names (f ∷ fs)) (before ++ f ∷ fs)
  list_on ts used before f [] r h =
      subst (λ (l : List (List ℕ)). R (ts ++ Fixed sign ∷ tokens f) l (before ++ f ∷ [])) (ap (λ (l : List (List ℕ)). used ++ l) (sym (append-nil (names f)))) (more ts (tokens f) used (names f) before f r h.0)
  list_on ts used before f (g ∷ gs) r h =
      let next = list_on (ts ++ Fixed sign ∷ tokens f) (used ++ names f) (before ++ f ∷ []) g gs (more ts (tokens f) used (names f) before f r h.0) h.1 in
      let rest : List Token = separated sign tokens (g ∷ gs) in
      moved _ _ _ _ _ _ (append_assoc ts (Fixed sign ∷ tokens f) (Fixed sign ∷ rest)) (append_assoc used (names f) (names_each names (g ∷ gs))) (append_assoc before (f ∷ []) (g ∷ gs)) next

  pub list_written : (f g : Filter) (fs : List Filter) → Each Right (f ∷ g ∷ fs) → R (separated sign tokens (f ∷ g ∷ fs)) (names_each names (f ∷ g ∷ fs)) (f ∷ g ∷ fs)
  list_written f g fs h = list_on (tokens f) (names f) (f ∷ []) g fs (one (tokens f) (names f) f h.0) h.1

pub separated-map : {A B : Type 0} (sign : Mark) (tokens : B → List Token) (f : A → B) (xs : List A) → separated sign tokens (map f xs) ≡ separated sign (λ x. tokens (f x)) xs
separated-map sign tokens f [] = refl
separated-map sign tokens f (x ∷ []) = refl
separated-map sign tokens f (x ∷ y ∷ zs) = ap (λ (l : List Token). tokens (f x) ++ Fixed sign ∷ l) (separated-map sign tokens f (y ∷ zs))

-- ---- filters

module _ (all : List (List ℕ)) (told : (c : ℕ) → c < length all → place_of all (get_or all c []) ≡ c) (short : (c : ℕ) → c < length all → length (get_or all c []) ≤ 1024) where
  abbrev name_at : ℕ → List ℕ
  name_at c = get_or all c []

  abbrev named_by : FilterForm → List (List ℕ)
  named_by k = map name_at k.columns

  abbrev names_of : Filter → List (List ℕ)
  names_of f = named_by (form_of f)

  record PartWritten (outside : ℕ) (ts : List Token) (used : List (List ℕ)) (f : Filter) : Type 0 where
    units : List Filter
    written : AreUnits all outside ts used units
    is : and_of units ≡ f

  record WholeWritten (outside : ℕ) (ts : List Token) (used : List (List ℕ)) (f : Filter) : Type 0 where
    parts : List Filter
    written : AreParts all outside ts used parts
    is : or_of parts ≡ f

  -- how a filter is written by its printed tokens, where it isn't too deep
  record PrintsAs (p : PrintedFilter) (k : FilterForm) (f : Filter) : Type 0 where
    as_unit : (outside : ℕ) → outside + k.unit_depth ≤ 64 → IsUnit all outside p.unit (named_by k) f
    as_part : (outside : ℕ) → k.is_or ≡ false → outside + k.depth ≤ 64 → PartWritten outside p.plain (named_by k) f
    as_whole : (outside : ℕ) → outside + k.depth ≤ 64 → WholeWritten outside p.plain (named_by k) f

  abbrev WhenFineAs : PrintedFilter → FilterForm → Filter → Type 0
  WhenFineAs p k f = k.flat ≡ true → All (λ c. c < length all) k.columns → PrintsAs p k f

  abbrev WhenFine : Filter → Type 0
  WhenFine f = WhenFineAs (printed_filter all f) (form_of f) f

  as_computed : (f : Filter) (p : PrintedFilter) (k : FilterForm) → printed_filter all f ≡ p → form_of f ≡ k → WhenFineAs p k f → WhenFine f
  as_computed f p k pe ke h = subst (λ (q : PrintedFilter). WhenFineAs q (form_of f) f) (sym pe) (subst (λ (j : FilterForm). WhenFineAs p j f) (sym ke) h)

  whole_of_part : (outside : ℕ) (ts : List Token) (used : List (List ℕ)) (f : Filter) → (form_of f).is_or ≡ false → PartWritten outside ts used f → WholeWritten outside ts used f
  whole_of_part outside ts used f h p = record {
    parts = parts_in (and_of p.units);
    written = one_part p.written;
    is = ap (λ (g : Filter). or_of (parts_in g)) p.is ∙ ap or_of (part_alone f h);
  }

  part_of_unit : (outside : ℕ) (ts : List Token) (used : List (List ℕ)) (f : Filter) → (form_of f).is_and ≡ false → IsUnit all outside ts used f → PartWritten outside ts used f
  part_of_unit outside ts used f h u = record { units = units_in f; written = one_unit u; is = ap and_of (unit_alone f h) }

  unit_of_whole : (outside : ℕ) (ts : List Token) (used : List (List ℕ)) (f : Filter) → outside < 64 → WholeWritten (suc outside) ts used f → IsUnit all outside (Fixed marks.Open ∷ ts ++ Fixed marks.Close ∷ []) used f
  unit_of_whole outside ts used f few w = subst (λ (g : Filter). IsUnit all outside (Fixed marks.Open ∷ ts ++ Fixed marks.Close ∷ []) used g) w.is (in_parentheses few w.written)

  -- what is printed the same as a unit
  from_unit : (f : Filter) (ts : List Token) (k : FilterForm) → form_of f ≡ k → k.is_and ≡ false → k.is_or ≡ false → k.depth ≡ k.unit_depth
      → ((outside : ℕ) → outside + k.unit_depth ≤ 64 → IsUnit all outside ts (named_by k) f) → PrintsAs (bare ts) k f
  from_unit f ts k form no_and no_or same u =
      let alone : (form_of f).is_and ≡ false = ap (λ (j : FilterForm). j.is_and) form ∙ no_and in
      let apart : (form_of f).is_or ≡ false = ap (λ (j : FilterForm). j.is_or) form ∙ no_or in
      record {
        as_unit = u;
        as_part = λ outside other few. part_of_unit outside ts (named_by k) f alone (u outside (omega (arith, few, same)));
        as_whole = λ outside few. whole_of_part outside ts (named_by k) f apart (part_of_unit outside ts (named_by k) f alone (u outside (omega (arith, few, same))));
      }

  test_prints : (column : ℕ) (test : Comparison) (constant : Constant) → WhenFine (filters.Test column test constant)
  test_prints column test constant =
      as_computed (filters.Test column test constant) (printed_step all (layers.Test column test constant)) (form_step (layers.Test column test constant)) (printed-test all column test constant) (form-test column test constant)
      (λ flat named.
      let lt : column < length all = named 0 0 (omega arith) in
      from_unit (filters.Test column test constant) (column_token (name_at column) ∷ Fixed (test_mark test) ∷ constant_token constant ∷ []) (form_step (layers.Test column test constant)) (form-test column test constant) refl refl refl (λ outside few.
      subst (λ (c : ℕ). IsUnit all outside (column_token (name_at column) ∷ Fixed (test_mark test) ∷ constant_token constant ∷ []) (name_at column ∷ []) (filters.Test c test constant)) (told column lt)
      (compared (column_is (name_at column) (short column lt)) (test_is test) (constant_is constant))))

  not_prints : (f : Filter) → WhenFine f → WhenFine (filters.Not f)
  not_prints f again =
      as_computed (filters.Not f) (printed_step all (layers.Not (printed_filter all f))) (form_step (layers.Not (form_of f))) (printed-not all f) (form-not f)
      (λ flat named.
      let inner = again flat named in
      from_unit (filters.Not f) (Fixed marks.Not ∷ (printed_filter all f).unit) (form_step (layers.Not (form_of f))) (form-not f) refl refl refl (λ outside few.
      negated (omega (arith, few)) (inner.as_unit (suc outside) (omega (arith, few)))))

  names-each : (fs : List Filter) → names_each names_of fs ≡ map name_at (list_places fs)
  names-each [] = refl
  names-each (f ∷ fs) = ap (λ (l : List (List ℕ)). names_of f ++ l) (names-each fs) ∙ sym (map-append name_at (filter_places f) (list_places fs))

  -- what holds of each item, by how deep it is
  record Ready (kind : FilterForm → Bool) (depth : FilterForm → ℕ) (outside : ℕ) (f : Filter) : Type 0 where
    prints : PrintsAs (printed_filter all f) (form_of f) f
    other : kind (form_of f) ≡ false
    few : outside + depth (form_of f) ≤ 64

  ready : (kind : FilterForm → Bool) (depth : FilterForm → ℕ) (outside : ℕ) (fs : List Filter) → Each WhenFine fs → are_flat kind (map form_of fs) ≡ true
      → All (λ c. c < length all) (list_places fs) → outside + deepest (map depth (map form_of fs)) ≤ 64 → Each (Ready kind depth outside) fs
  ready kind depth outside [] again flat named few = tt
  ready kind depth outside (f ∷ fs) again flat named few =
      let k = form_of f in
      let flats = and_parts (k.flat && not (kind k)) (are_flat kind (map form_of fs)) flat in
      let own = and_parts k.flat (not (kind k)) flats.0 in (
        record {
          prints = again.0 own.0 (All-left (λ c. c < length all) (filter_places f) (list_places fs) named);
          other = not_false (kind k) own.1;
          few = omega (arith, few);
        },
        ready kind depth outside fs again.1 flats.1 (All-right (λ c. c < length all) (filter_places f) (list_places fs) named) (omega (arith, few)),
      )

  module _ (outside : ℕ) where
    -- a unit, and a part, that stands in a list as itself
    abbrev UnitOf : List Token → List (List ℕ) → Filter → Type 0
    UnitOf ts used f = IsUnit all outside ts used f × ((form_of f).is_and ≡ false)

    abbrev PartOf : List Token → List (List ℕ) → Filter → Type 0
    PartOf ts used f = PartWritten outside ts used f × ((form_of f).is_or ≡ false)

    unit_first : (ts : List Token) (used : List (List ℕ)) (f : Filter) → UnitOf ts used f → AreUnits all outside ts used (f ∷ [])
    unit_first ts used f h = subst (λ (l : List Filter). AreUnits all outside ts used l) (unit_alone f h.1) (one_unit h.0)

    unit_more : (ts us : List Token) (used names : List (List ℕ)) (fs : List Filter) (f : Filter) → AreUnits all outside ts used fs → UnitOf us names f
        → AreUnits all outside (ts ++ Fixed marks.And ∷ us) (used ++ names) (fs ++ f ∷ [])
    unit_more ts us used names fs f r h = subst (λ (l : List Filter). AreUnits all outside (ts ++ Fixed marks.And ∷ us) (used ++ names) (fs ++ l)) (unit_alone f h.1) (and_unit r h.0)

    part_first : (ts : List Token) (used : List (List ℕ)) (f : Filter) → PartOf ts used f → AreParts all outside ts used (f ∷ [])
    part_first ts used f h = subst (λ (l : List Filter). AreParts all outside ts used l) (ap parts_in h.0.is ∙ part_alone f h.1) (one_part h.0.written)

    part_more : (ts us : List Token) (used names : List (List ℕ)) (fs : List Filter) (f : Filter) → AreParts all outside ts used fs → PartOf us names f
        → AreParts all outside (ts ++ Fixed marks.Or ∷ us) (used ++ names) (fs ++ f ∷ [])
    part_more ts us used names fs f r h = subst (λ (l : List Filter). AreParts all outside (ts ++ Fixed marks.Or ∷ us) (used ++ names) (fs ++ l)) (ap parts_in h.0.is ∙ part_alone f h.1) (or_part r h.0.written)

    units_right : (fs : List Filter) → Each (Ready (λ k. k.is_and) (λ k. k.unit_depth) outside) fs → Each (λ f. UnitOf (printed_filter all f).unit (names_of f) f) fs
    units_right [] h = tt
    units_right (f ∷ fs) h = ((h.0.prints.as_unit outside h.0.few, h.0.other), units_right fs h.1)

    parts_right : (fs : List Filter) → Each (Ready (λ k. k.is_or) (λ k. k.depth) outside) fs → Each (λ f. PartOf (printed_filter all f).plain (names_of f) f) fs
    parts_right [] h = tt
    parts_right (f ∷ fs) h = ((h.0.prints.as_part outside h.0.other h.0.few, h.0.other), parts_right fs h.1)

    and_written : (f g : Filter) (fs : List Filter) → Each (Ready (λ k. k.is_and) (λ k. k.unit_depth) outside) (f ∷ g ∷ fs)
        → AreUnits all outside (separated marks.And (λ p. p.unit) (map (printed_filter all) (f ∷ g ∷ fs))) (map name_at (list_places (f ∷ g ∷ fs))) (f ∷ g ∷ fs)
    and_written f g fs h =
        subst (λ (l : List Token). AreUnits all outside l (map name_at (list_places (f ∷ g ∷ fs))) (f ∷ g ∷ fs)) (sym (separated-map marks.And (λ (p : PrintedFilter). p.unit) (printed_filter all) (f ∷ g ∷ fs)))
        (subst (λ (l : List (List ℕ)). AreUnits all outside (separated marks.And (λ f. (printed_filter all f).unit) (f ∷ g ∷ fs)) l (f ∷ g ∷ fs)) (names-each (f ∷ g ∷ fs))
        (list_written marks.And (AreUnits all outside) UnitOf unit_first unit_more (λ f. (printed_filter all f).unit) names_of f g fs (units_right (f ∷ g ∷ fs) h)))

    or_written : (f g : Filter) (fs : List Filter) → Each (Ready (λ k. k.is_or) (λ k. k.depth) outside) (f ∷ g ∷ fs)
        → AreParts all outside (separated marks.Or (λ p. p.plain) (map (printed_filter all) (f ∷ g ∷ fs))) (map name_at (list_places (f ∷ g ∷ fs))) (f ∷ g ∷ fs)
    or_written f g fs h =
        subst (λ (l : List Token). AreParts all outside l (map name_at (list_places (f ∷ g ∷ fs))) (f ∷ g ∷ fs)) (sym (separated-map marks.Or (λ (p : PrintedFilter). p.plain) (printed_filter all) (f ∷ g ∷ fs)))
        (subst (λ (l : List (List ℕ)). AreParts all outside (separated marks.Or (λ f. (printed_filter all f).plain) (f ∷ g ∷ fs)) l (f ∷ g ∷ fs)) (names-each (f ∷ g ∷ fs))
        (list_written marks.Or (AreParts all outside) PartOf part_first part_more (λ f. (printed_filter all f).plain) names_of f g fs (parts_right (f ∷ g ∷ fs) h)))

  and_computed : (fs : List Filter) → Each WhenFine fs → WhenFineAs (printed_step all (layers.And (map (printed_filter all) fs))) (form_step (layers.And (map form_of fs))) (filters.And fs)
  and_computed [] again flat named = absurd cc
  and_computed (f ∷ []) again flat named = absurd cc
  and_computed (f ∷ g ∷ fs) again flat named =
      let fs' : List Filter = f ∷ g ∷ fs in
      let k : FilterForm = form_step (layers.And (map form_of fs')) in
      let ts : List Token = separated marks.And (λ p. p.unit) (map (printed_filter all) fs') in
      let no_or : (form_of (filters.And fs')).is_or ≡ false = ap (λ (j : FilterForm). j.is_or) (form-and fs') in
      let part : (outside : ℕ) → outside + k.depth ≤ 64 → PartWritten outside ts (named_by k) (filters.And fs') = λ outside few. record {
        units = fs';
        written = and_written outside f g fs (ready (λ k. k.is_and) (λ k. k.unit_depth) outside fs' again flat named few);
        is = refl;
      } in
      record {
        as_unit = λ outside few. unit_of_whole outside ts (named_by k) (filters.And fs') (omega (arith, few)) (whole_of_part (suc outside) ts (named_by k) (filters.And fs') no_or (part (suc outside) (omega (arith, few))));
        as_part = λ outside other few. part outside few;
        as_whole = λ outside few. whole_of_part outside ts (named_by k) (filters.And fs') no_or (part outside few);
      }

  or_computed : (fs : List Filter) → Each WhenFine fs → WhenFineAs (printed_step all (layers.Or (map (printed_filter all) fs))) (form_step (layers.Or (map form_of fs))) (filters.Or fs)
  or_computed [] again flat named = absurd cc
  or_computed (f ∷ []) again flat named = absurd cc
  or_computed (f ∷ g ∷ fs) again flat named =
      let fs' : List Filter = f ∷ g ∷ fs in
      let k : FilterForm = form_step (layers.Or (map form_of fs')) in
      let ts : List Token = separated marks.Or (λ p. p.plain) (map (printed_filter all) fs') in
      let whole : (outside : ℕ) → outside + k.depth ≤ 64 → WholeWritten outside ts (named_by k) (filters.Or fs') = λ outside few. record {
        parts = fs';
        written = or_written outside f g fs (ready (λ k. k.is_or) (λ k. k.depth) outside fs' again flat named few);
        is = refl;
      } in
      record {
        as_unit = λ outside few. unit_of_whole outside ts (named_by k) (filters.Or fs') (omega (arith, few)) (whole (suc outside) (omega (arith, few)));
        as_part = λ outside other few. absurd cc;
        as_whole = λ outside few. whole outside few;
      }

  -- the filters of a list, each with its fact
  each_of : (es : List ((f : Filter) × WhenFine f)) → Each WhenFine (map (λ e. e.0) es)
  each_of [] = tt
  each_of (e ∷ es) = (e.1, each_of es)

  layer_prints : (y : Filter-F ((f : Filter) × WhenFine f)) → WhenFine (roll-Filter (map-Filter ((f : Filter) × WhenFine f) Filter (λ e. e.0) y))
  layer_prints (layers.Test column test constant) = subst WhenFine (sym (rolls-Test column test constant)) (test_prints column test constant)
  layer_prints (layers.And es) =
      let fs : List Filter = map (λ e. e.0) es in
      subst WhenFine (sym (rolls-And fs)) (as_computed (filters.And fs) _ _ (printed-and all fs) (form-and fs) (and_computed fs (each_of es)))
  layer_prints (layers.Or es) =
      let fs : List Filter = map (λ e. e.0) es in
      subst WhenFine (sym (rolls-Or fs)) (as_computed (filters.Or fs) _ _ (printed-or all fs) (form-or fs) (or_computed fs (each_of es)))
  layer_prints (layers.Not e) = subst WhenFine (sym (rolls-Not e.0)) (not_prints e.0 e.1)

  prints : (f : Filter) → WhenFine f
  prints = ind-Filter WhenFine (λ x y is. subst (λ (z : Filter-F Filter). WhenFine (roll-Filter z)) is (layer_prints y))

  -- a filter that can be read is written by its printed tokens
  pub printed_written : (f : Filter) → IsFilter (length all) f → IsWrittenFilter all (filter_tokens all f) (map name_at (filter_places f)) f
  printed_written f h =
      let w = (prints f h.flat h.named).as_whole 0 (omega (arith, h.shallow)) in
      record { parts = w.parts; written = w.written; is = sym w.is }
