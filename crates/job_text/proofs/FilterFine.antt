-- A filter that is written as the grammar has it has what each filter has.
use Rattle.std.proofs.Common.{◌≡◌, ℕ, suc, ◌+◌, ◌<◌, ◌≤◌, true, List, [], ◌∷◌, ◌++◌, length, map, get_or, Some, refl, sym, ap, subst, ◌∙◌, append_assoc, arith}
use Rattle.std.specs.Prelude.{ℤ, All}
use Rattle.std.proofs.lemmas.Bool.{and_parts}
use Rattle.std.proofs.lemmas.List.{append-nil, map-append}
use Rattle.std.proofs.lemmas.List.Elements.{All-nil, All-cons, All-append, All-tail}
use Rattle.aggregate.specs.Partial.{fits_i64}
use Rattle.row_filter.specs.declared.filter.Comparison.{Comparison}
use Rattle.row_filter.specs.declared.filter.Constant.{Constant}
use Rattle.row_filter.specs.declared.filter.Filter.{Filter, out-Filter}
use Rattle.row_filter.specs.declared.filter.Filter.TheOpen.{Filter-F}
use Rattle.row_filter.specs.declared.filter.Filter.TheOpen as layers
use Rattle.row_filter.specs.declared.filter.Filter.TheVariants as filters
use Rattle.job_text.specs.declared.token.Token.{Token}
use Rattle.job_text.specs.declared.token.Token.TheVariants.{Whole}
use Rattle.job_text.specs.Columns.{place_of}
use Rattle.job_text.specs.FilterLists.{units_in, units_out, parts_in, parts_out, and_of, or_of}
use Rattle.job_text.specs.FilterGrammar.{IsConstant, IsUnit, AreUnits, AreParts, IsWrittenFilter}
use Rattle.job_text.specs.FilterGrammar.{number, text, negated, in_parentheses, compared, one_unit, and_unit, one_part, or_part}
use Rattle.job_text.specs.FilterForms.{FilterForm, form_of, is_ranged, are_several, are_flat, filter_places, list_places, IsFilter}
use Rattle.job_text.proofs.Fresh.{name_at}
use Rattle.job_text.proofs.Named.{Knows}
use Rattle.job_text.proofs.FilterEquations.{form-test, form-and, form-or, form-not, form-out, layer_form}
use Rattle.job_text.proofs.FilterItems.{All-left, All-right, Each-append, IsFine, UnitItems, PartItems, unit_depth, depth, depths, unit_items, part_items, units_fine, parts_fine}

-- ---- no list is empty

abbrev Filled : List Filter → Type 0
Filled [] = ⊥
Filled (f ∷ fs) = Unit {0}

filled_more : (fs gs : List Filter) → Filled fs → Filled (fs ++ gs)
filled_more [] gs h = absurd h
filled_more (f ∷ fs) gs h = tt

several_filled : (fs : List Filter) → are_several (map form_of fs) ≡ true → Filled fs
several_filled [] e = absurd cc
several_filled (f ∷ fs) e = tt

unit_filled : (f : Filter) → (form_of f).flat ≡ true → Filled (units_in f)
unit_filled f h = by (out-Filter f) (ap (λ (k : FilterForm). k.flat) (sym (form-out f (out-Filter f) refl)) ∙ h)
  where
    by : (y : Filter-F Filter) → (layer_form y).flat ≡ true → Filled (units_out f y)
    by (layers.Test column test constant) e = tt
    by (layers.And fs) e = several_filled fs (and_parts (are_several (map form_of fs)) (are_flat (λ unit. unit.is_and) (map form_of fs)) e).0
    by (layers.Or fs) e = tt
    by (layers.Not g) e = tt

part_filled : (f : Filter) → (form_of f).flat ≡ true → Filled (parts_in f)
part_filled f h = by (out-Filter f) (ap (λ (k : FilterForm). k.flat) (sym (form-out f (out-Filter f) refl)) ∙ h)
  where
    by : (y : Filter-F Filter) → (layer_form y).flat ≡ true → Filled (parts_out f y)
    by (layers.Test column test constant) e = tt
    by (layers.Or fs) e = several_filled fs (and_parts (are_several (map form_of fs)) (are_flat (λ part. part.is_or) (map form_of fs)) e).0
    by (layers.And fs) e = tt
    by (layers.Not g) e = tt

-- ---- forms

record UnitsFine (outside : ℕ) (fs : List Filter) : Type 0 where
  items : UnitItems outside fs
  filled : Filled fs

record PartsFine (outside : ℕ) (fs : List Filter) : Type 0 where
  items : PartItems outside fs
  filled : Filled fs

part_of : (outside : ℕ) (fs : List Filter) → outside ≤ 64 → UnitsFine outside fs → IsFine depth outside (and_of fs)
part_of outside [] le h = absurd h.filled
part_of outside (f ∷ fs) le h = units_fine outside f fs le h.items

whole_of : (outside : ℕ) (fs : List Filter) → outside ≤ 64 → PartsFine outside fs → IsFine depth outside (or_of fs)
whole_of outside [] le h = absurd h.filled
whole_of outside (f ∷ fs) le h = parts_fine outside f fs le h.items

unit_as_units : (outside : ℕ) (f : Filter) → outside ≤ 64 → IsFine unit_depth outside f → UnitsFine outside (units_in f)
unit_as_units outside f le h = record { items = unit_items outside f le h; filled = unit_filled f h.flat }

units_joined : (outside : ℕ) (fs : List Filter) (f : Filter) → outside ≤ 64 → UnitsFine outside fs → IsFine unit_depth outside f → UnitsFine outside (fs ++ units_in f)
units_joined outside fs f le h g = record { items = Each-append _ fs (units_in f) h.items (unit_items outside f le g); filled = filled_more fs (units_in f) h.filled }

part_as_parts : (outside : ℕ) (f : Filter) → IsFine depth outside f → PartsFine outside (parts_in f)
part_as_parts outside f h = record { items = part_items outside f h; filled = part_filled f h.flat }

parts_joined : (outside : ℕ) (fs : List Filter) (f : Filter) → PartsFine outside fs → IsFine depth outside f → PartsFine outside (fs ++ parts_in f)
parts_joined outside fs f h g = record { items = Each-append _ fs (parts_in f) h.items (part_items outside f g); filled = filled_more fs (parts_in f) h.filled }

not_fine : (outside : ℕ) (f : Filter) → IsFine unit_depth (suc outside) f → IsFine unit_depth outside (filters.Not f)
not_fine outside f h = record {
  flat = ap (λ (k : FilterForm). k.flat) (form-not f) ∙ h.flat;
  ranged = ap (λ (k : FilterForm). k.ranged) (form-not f) ∙ h.ranged;
  few = subst (λ (k : FilterForm). outside + k.unit_depth ≤ 64) (sym (form-not f)) (omega (arith, h.few));
}

parentheses_fine : (outside : ℕ) (f : Filter) → IsFine depth (suc outside) f → IsFine unit_depth outside f
parentheses_fine outside f h = record { flat = h.flat; ranged = h.ranged; few = omega (arith, h.few, (depths f).1) }

test_fine : (outside column : ℕ) (test : Comparison) (constant : Constant) → outside ≤ 64 → is_ranged constant ≡ true → IsFine unit_depth outside (filters.Test column test constant)
test_fine outside column test constant le ranged = record {
  flat = ap (λ (k : FilterForm). k.flat) (form-test column test constant);
  ranged = ap (λ (k : FilterForm). k.ranged) (form-test column test constant) ∙ ranged;
  few = subst (λ (k : FilterForm). outside + k.unit_depth ≤ 64) (sym (form-test column test constant)) (omega (arith, le));
}

-- where whole numbers among the tokens have 64 bits
module _ (P : Token → Type 0) (fits : (value : ℤ) → P (Whole (Some value)) → fits_i64 value ≡ true) where
  constant_ranged : (t : Token) (constant : Constant) → IsConstant t constant → P t → is_ranged constant ≡ true
  constant_ranged t constant number p = fits _ p
  constant_ranged t constant text p = refl

  behind_sign : (ts us : List Token) (t : Token) → All P (ts ++ t ∷ us) → All P us
  behind_sign ts us t h = All-tail P t us (All-right P ts (t ∷ us) h)

  third : (a b c : Token) → All P (a ∷ b ∷ c ∷ []) → P c
  third a b c h = h 2 c (omega arith)

  inside : (ts : List Token) (open' close : Token) → All P (open' ∷ ts ++ close ∷ []) → All P ts
  inside ts open' close h = All-left P ts (close ∷ []) (All-tail P open' (ts ++ close ∷ []) h)

mutual
  unit_fine : (P : Token → Type 0) (fits : (value : ℤ) → P (Whole (Some value)) → fits_i64 value ≡ true) (all : List (List ℕ)) (outside : ℕ) (ts : List Token) (used : List (List ℕ)) (f : Filter)
      → IsUnit all outside ts used f → outside ≤ 64 → All P ts → IsFine unit_depth outside f
  unit_fine P fits all outside ts used f (negated few h) le p = not_fine _ _ (unit_fine P fits all _ _ _ _ h (omega (arith, few)) (All-tail P _ _ p))
  unit_fine P fits all outside ts used f (in_parentheses few h) le p = parentheses_fine _ _ (whole_of _ _ (omega (arith, few)) (parts_are_fine P fits all _ _ _ _ h (omega (arith, few)) (inside P fits _ _ _ p)))
  unit_fine P fits all outside ts used f (compared column test constant) le p = test_fine _ _ _ _ le (constant_ranged P fits _ _ constant (third P fits _ _ _ p))

  units_are_fine : (P : Token → Type 0) (fits : (value : ℤ) → P (Whole (Some value)) → fits_i64 value ≡ true) (all : List (List ℕ)) (outside : ℕ) (ts : List Token) (used : List (List ℕ)) (fs : List Filter)
      → AreUnits all outside ts used fs → outside ≤ 64 → All P ts → UnitsFine outside fs
  units_are_fine P fits all outside ts used fs (one_unit h) le p = unit_as_units _ _ le (unit_fine P fits all _ _ _ _ h le p)
  units_are_fine P fits all outside ts used fs (and_unit h g) le p =
      units_joined _ _ _ le (units_are_fine P fits all _ _ _ _ h le (All-left P _ _ p)) (unit_fine P fits all _ _ _ _ g le (behind_sign P fits _ _ _ p))

  parts_are_fine : (P : Token → Type 0) (fits : (value : ℤ) → P (Whole (Some value)) → fits_i64 value ≡ true) (all : List (List ℕ)) (outside : ℕ) (ts : List Token) (used : List (List ℕ)) (fs : List Filter)
      → AreParts all outside ts used fs → outside ≤ 64 → All P ts → PartsFine outside fs
  parts_are_fine P fits all outside ts used fs (one_part h) le p = part_as_parts _ _ (part_of _ _ le (units_are_fine P fits all _ _ _ _ h le p))
  parts_are_fine P fits all outside ts used fs (or_part h g) le p =
      parts_joined _ _ _ (parts_are_fine P fits all _ _ _ _ h le (All-left P _ _ p)) (part_of _ _ le (units_are_fine P fits all _ _ _ _ g le (behind_sign P fits _ _ _ p)))

-- ---- columns

places-append : (fs gs : List Filter) → list_places (fs ++ gs) ≡ list_places fs ++ list_places gs
places-append [] gs = refl
places-append (f ∷ fs) gs = ap (λ (l : List ℕ). filter_places f ++ l) (places-append fs gs) ∙ sym (append_assoc (filter_places f) (list_places fs) (list_places gs))

places-units : (f : Filter) → list_places (units_in f) ≡ filter_places f
places-units f = by (out-Filter f) (form-out f (out-Filter f) refl)
  where
    by : (y : Filter-F Filter) → form_of f ≡ layer_form y → list_places (units_out f y) ≡ filter_places f
    by (layers.Test column test constant) e = append-nil (filter_places f)
    by (layers.And fs) e = ap (λ (k : FilterForm). k.columns) (sym e)
    by (layers.Or fs) e = append-nil (filter_places f)
    by (layers.Not g) e = append-nil (filter_places f)

places-parts : (f : Filter) → list_places (parts_in f) ≡ filter_places f
places-parts f = by (out-Filter f) (form-out f (out-Filter f) refl)
  where
    by : (y : Filter-F Filter) → form_of f ≡ layer_form y → list_places (parts_out f y) ≡ filter_places f
    by (layers.Test column test constant) e = append-nil (filter_places f)
    by (layers.Or fs) e = ap (λ (k : FilterForm). k.columns) (sym e)
    by (layers.And fs) e = append-nil (filter_places f)
    by (layers.Not g) e = append-nil (filter_places f)

places-and : (fs : List Filter) → filter_places (and_of fs) ≡ list_places fs
places-and [] = ap (λ (k : FilterForm). k.columns) (form-and [])
places-and (f ∷ []) = sym (append-nil (filter_places f))
places-and (f ∷ g ∷ fs) = ap (λ (k : FilterForm). k.columns) (form-and (f ∷ g ∷ fs))

places-or : (fs : List Filter) → filter_places (or_of fs) ≡ list_places fs
places-or [] = ap (λ (k : FilterForm). k.columns) (form-or [])
places-or (f ∷ []) = sym (append-nil (filter_places f))
places-or (f ∷ g ∷ fs) = ap (λ (k : FilterForm). k.columns) (form-or (f ∷ g ∷ fs))

-- the columns are those with these names, each one of all
pub record Told (all used : List (List ℕ)) (columns : List ℕ) : Type 0 where
  pub names : map (λ c. get_or all c []) columns ≡ used
  pub named : All (λ c. c < length all) columns

module _ (all : List (List ℕ)) where
  told_by : (used : List (List ℕ)) (columns others : List ℕ) → columns ≡ others → Told all used columns → Told all used others
  told_by used columns others e h = subst (Told all used) e h

  told_one : (name : List ℕ) → Knows all name → Told all (name ∷ []) (place_of all name ∷ [])
  told_one name known = record {
    names = ap (λ (n : List ℕ). n ∷ []) (name_at all name known);
    named = All-cons (λ c. c < length all) (place_of all name) [] known (All-nil (λ c. c < length all));
  }

  told_both : (used more : List (List ℕ)) (columns others : List ℕ) → Told all used columns → Told all more others → Told all (used ++ more) (columns ++ others)
  told_both used more columns others h g = record {
    names = map-append (λ c. get_or all c []) columns others ∙ ap (λ (l : List (List ℕ)). l ++ map (λ c. get_or all c []) others) h.names ∙ ap (λ (l : List (List ℕ)). used ++ l) g.names;
    named = All-append (λ c. c < length all) columns others h.named g.named;
  }

  units_told_more : (used more : List (List ℕ)) (fs : List Filter) (f : Filter) → Told all used (list_places fs) → Told all more (filter_places f) → Told all (used ++ more) (list_places (fs ++ units_in f))
  units_told_more used more fs f h g =
      told_by (used ++ more) _ _ (ap (λ (l : List ℕ). list_places fs ++ l) (sym (places-units f)) ∙ sym (places-append fs (units_in f))) (told_both used more (list_places fs) (filter_places f) h g)

  parts_told_more : (used more : List (List ℕ)) (fs gs : List Filter) → Told all used (list_places fs) → Told all more (list_places gs) → Told all (used ++ more) (list_places (fs ++ parts_in (and_of gs)))
  parts_told_more used more fs gs h g =
      told_by (used ++ more) _ _ (ap (λ (l : List ℕ). list_places fs ++ l) (sym (places-parts (and_of gs) ∙ places-and gs)) ∙ sym (places-append fs (parts_in (and_of gs)))) (told_both used more (list_places fs) (list_places gs) h g)

  first_known : (name : List ℕ) → All (Knows all) (name ∷ []) → Knows all name
  first_known name h = h 0 [] (omega arith)

  test_told : (name : List ℕ) (test : Comparison) (constant : Constant) → All (Knows all) (name ∷ []) → Told all (name ∷ []) (filter_places (filters.Test (place_of all name) test constant))
  test_told name test constant h = told_by (name ∷ []) _ _ (ap (λ (k : FilterForm). k.columns) (sym (form-test (place_of all name) test constant))) (told_one name (first_known name h))

mutual
  unit_told : (all : List (List ℕ)) (outside : ℕ) (ts : List Token) (used : List (List ℕ)) (f : Filter) → IsUnit all outside ts used f → All (Knows all) used → Told all used (filter_places f)
  unit_told all outside ts used f (negated {unit = g} few h) known = told_by all _ _ _ (ap (λ (k : FilterForm). k.columns) (sym (form-not g))) (unit_told all _ _ _ _ h known)
  unit_told all outside ts used f (in_parentheses {parts = fs} few h) known = told_by all _ _ _ (sym (places-or fs)) (parts_told all _ _ _ _ h known)
  unit_told all outside ts used f (compared column test constant) known = test_told all _ _ _ known

  units_told : (all : List (List ℕ)) (outside : ℕ) (ts : List Token) (used : List (List ℕ)) (fs : List Filter) → AreUnits all outside ts used fs → All (Knows all) used → Told all used (list_places fs)
  units_told all outside ts used fs (one_unit {unit = f} h) known = told_by all _ _ _ (sym (places-units f)) (unit_told all _ _ _ _ h known)
  units_told all outside ts used fs (and_unit h g) known = units_told_more all _ _ _ _ (units_told all _ _ _ _ h (All-left (Knows all) _ _ known)) (unit_told all _ _ _ _ g (All-right (Knows all) _ _ known))

  parts_told : (all : List (List ℕ)) (outside : ℕ) (ts : List Token) (used : List (List ℕ)) (fs : List Filter) → AreParts all outside ts used fs → All (Knows all) used → Told all used (list_places fs)
  parts_told all outside ts used fs (one_part {units = us} h) known = told_by all _ _ _ (sym (places-parts (and_of us) ∙ places-and us)) (units_told all _ _ _ _ h known)
  parts_told all outside ts used fs (or_part h g) known = parts_told_more all _ _ _ _ (parts_told all _ _ _ _ h (All-left (Knows all) _ _ known)) (units_told all _ _ _ _ g (All-right (Knows all) _ _ known))

-- what is written is a filter, and its columns are the names that it uses
pub written_filter : (P : Token → Type 0) → ((value : ℤ) → P (Whole (Some value)) → fits_i64 value ≡ true) → (all : List (List ℕ)) (ts : List Token) (used : List (List ℕ)) (f : Filter)
    → IsWrittenFilter all ts used f → All P ts → All (Knows all) used → IsFilter (length all) f × (map (λ c. get_or all c []) (filter_places f) ≡ used)
written_filter P fits all ts used f w p known =
    let told = subst (λ (g : Filter). Told all used (filter_places g)) (sym w.is) (told_by all used _ _ (sym (places-or w.parts)) (parts_told all 0 ts used w.parts w.written known)) in
    let fine = subst (λ (g : Filter). IsFine depth 0 g) (sym w.is) (whole_of 0 w.parts (omega arith) (parts_are_fine P fits all 0 ts used w.parts w.written (omega arith) p)) in
    (record { flat = fine.flat; ranged = fine.ranged; shallow = omega (arith, fine.few); named = told.named }, told.names)
