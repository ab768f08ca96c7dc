-- Filters in a list: what holds of each, and what holds of the list's form.
use Rattle.std.proofs.Common.{◌≡◌, ℕ, ◌+◌, ◌≤◌, Bool, true, false, List, [], ◌∷◌, ◌++◌, map, refl, sym, ap, subst, ◌∙◌, arith, ◌&&◌, not}
use Rattle.std.specs.List.{list_all}
use Rattle.std.specs.Prelude.{All, length}
use Rattle.std.proofs.lemmas.List.{length-append, get_or_append_left, get_or-append-add}
use Rattle.std.proofs.lemmas.Bool.{and_parts}
use Rattle.row_filter.specs.declared.filter.Filter.{Filter, out-Filter}
use Rattle.row_filter.specs.declared.filter.Filter.TheOpen.{Filter-F}
use Rattle.row_filter.specs.declared.filter.Filter.TheOpen as layers
use Rattle.job_text.specs.FilterForms.{FilterForm, form_of, deepest, are_flat, are_several}
use Rattle.job_text.specs.FilterLists.{units_in, units_out, parts_in, parts_out, and_of, or_of}
use Rattle.job_text.proofs.FilterEquations.{form-out, form-and, form-or, layer_form}

-- ---- lists

pub All-left : {X : Type 0} (P : X → Type 0) (xs ys : List X) → All P (xs ++ ys) → All P xs
All-left P xs ys h k d lt = subst P (get_or_append_left xs ys d k lt) (h k d (omega (arith, lt, length-append xs ys)))

pub All-right : {X : Type 0} (P : X → Type 0) (xs ys : List X) → All P (xs ++ ys) → All P ys
All-right P xs ys h k d lt = subst P (get_or-append-add xs ys k d) (h (length xs + k) d (omega (arith, lt, length-append xs ys)))

-- each filter of the list
abbrev pub Each : (Filter → Type 0) → List Filter → Type 0
Each P [] = Unit {0}
Each P (f ∷ fs) = P f × Each P fs

pub Each-append : (P : Filter → Type 0) (fs gs : List Filter) → Each P fs → Each P gs → Each P (fs ++ gs)
Each-append P [] gs h k = k
Each-append P (f ∷ fs) gs h k = (h.0, Each-append P fs gs h.1 k)

-- an item of a list: flat, not of the list's kind, ranged, and not too deep where so many are open outside
pub record Item (kind : FilterForm → Bool) (depth : FilterForm → ℕ) (outside : ℕ) (f : Filter) : Type 0 where
  pub flat : (form_of f).flat ≡ true
  pub other : kind (form_of f) ≡ false
  pub ranged : (form_of f).ranged ≡ true
  pub few : outside + depth (form_of f) ≤ 64

-- the same of a list's form
pub record Packed (kind : FilterForm → Bool) (depth : FilterForm → ℕ) (outside : ℕ) (fs : List Filter) : Type 0 where
  pub flat : are_flat kind (map form_of fs) ≡ true
  pub ranged : list_all (λ k. k.ranged) (map form_of fs) ≡ true
  pub few : outside + deepest (map depth (map form_of fs)) ≤ 64

pub not_false : (b : Bool) → not b ≡ true → b ≡ false
not_false true e = absurd cc
not_false false e = refl

pub both : (a b : Bool) → a ≡ true → b ≡ true → (a && b) ≡ true
both true true h k = refl
both true false h k = k
both false b h k = h

is_other : (b : Bool) → b ≡ false → not b ≡ true
is_other true e = absurd cc
is_other false e = refl

module _ (kind : FilterForm → Bool) (depth : FilterForm → ℕ) (outside : ℕ) where
  pub packed : (fs : List Filter) → outside ≤ 64 → Each (Item kind depth outside) fs → Packed kind depth outside fs
  packed [] le h = record { flat = refl; ranged = refl; few = omega (arith, le) }
  packed (f ∷ fs) le h =
      let rest = packed fs le h.1 in
      let k = form_of f in
      record {
        flat = both (k.flat && not (kind k)) (are_flat kind (map form_of fs)) (both k.flat (not (kind k)) h.0.flat (is_other (kind k) h.0.other)) rest.flat;
        ranged = both k.ranged (list_all (λ k. k.ranged) (map form_of fs)) h.0.ranged rest.ranged;
        few = omega (arith, h.0.few, rest.few);
      }

  pub unpacked : (fs : List Filter) → Packed kind depth outside fs → Each (Item kind depth outside) fs
  unpacked [] p = tt
  unpacked (f ∷ fs) p =
      let k = form_of f in
      let flats = and_parts (k.flat && not (kind k)) (are_flat kind (map form_of fs)) p.flat in
      let own = and_parts k.flat (not (kind k)) flats.0 in
      let ranges = and_parts k.ranged (list_all (λ k. k.ranged) (map form_of fs)) p.ranged in (
        record { flat = own.0; other = not_false (kind k) own.1; ranged = ranges.0; few = omega (arith, p.few) },
        unpacked fs (record { flat = flats.1; ranged = ranges.1; few = omega (arith, p.few) }),
      )

-- a filter by itself, or as a unit
pub record IsFine (depth : FilterForm → ℕ) (outside : ℕ) (f : Filter) : Type 0 where
  pub flat : (form_of f).flat ≡ true
  pub ranged : (form_of f).ranged ≡ true
  pub few : outside + depth (form_of f) ≤ 64

abbrev pub unit_depth : FilterForm → ℕ
unit_depth k = k.unit_depth

abbrev pub depth : FilterForm → ℕ
depth k = k.depth

abbrev pub is_and : FilterForm → Bool
is_and k = k.is_and

abbrev pub is_or : FilterForm → Bool
is_or k = k.is_or

-- ---- depths

layer_depths : (y : Filter-F Filter) → ((layer_form y).depth ≤ (layer_form y).unit_depth) × ((layer_form y).unit_depth ≤ (layer_form y).depth + 1)
layer_depths (layers.Test column test constant) = (omega arith, omega arith)
layer_depths (layers.And fs) = (omega arith, omega arith)
layer_depths (layers.Or fs) = (omega arith, omega arith)
layer_depths (layers.Not g) = (omega arith, omega arith)

pub depths : (f : Filter) → ((form_of f).depth ≤ (form_of f).unit_depth) × ((form_of f).unit_depth ≤ (form_of f).depth + 1)
depths f = subst (λ (k : FilterForm). (k.depth ≤ k.unit_depth) × (k.unit_depth ≤ k.depth + 1)) (sym (form-out f (out-Filter f) refl)) (layer_depths (out-Filter f))

-- ---- a filter as the items of a list

abbrev pub UnitItems : ℕ → List Filter → Type 0
UnitItems outside = Each (Item is_and unit_depth outside)

abbrev pub PartItems : ℕ → List Filter → Type 0
PartItems outside = Each (Item is_or depth outside)

several : {A : Type 0} (xs : List A) → are_several xs ≡ true → (x : A) × (y : A) × (zs : List A) × (xs ≡ x ∷ y ∷ zs)
several [] e = absurd cc
several (x ∷ []) e = absurd cc
several (x ∷ y ∷ zs) e = (x, y, zs, refl)

pub unit_items : (outside : ℕ) (f : Filter) → outside ≤ 64 → IsFine unit_depth outside f → UnitItems outside (units_in f)
unit_items outside f le h = by (out-Filter f) (form-out f (out-Filter f) refl)
  where
    by : (y : Filter-F Filter) → form_of f ≡ layer_form y → UnitItems outside (units_out f y)
    by (layers.Test column test constant) e = (record { flat = h.flat; other = rw e refl; ranged = h.ranged; few = h.few }, tt)
    by (layers.Or fs) e = (record { flat = h.flat; other = rw e refl; ranged = h.ranged; few = h.few }, tt)
    by (layers.Not g) e = (record { flat = h.flat; other = rw e refl; ranged = h.ranged; few = h.few }, tt)
    by (layers.And fs) e =
        let flat : (are_several (map form_of fs) && are_flat (λ unit. unit.is_and) (map form_of fs)) ≡ true = ap (λ (k : FilterForm). k.flat) (sym e) ∙ h.flat in
        let few : outside + (deepest (map (λ unit. unit.unit_depth) (map form_of fs)) + 1) ≤ 64 = rw e at h.few in
        unpacked is_and unit_depth outside fs (record {
          flat = (and_parts (are_several (map form_of fs)) (are_flat (λ unit. unit.is_and) (map form_of fs)) flat).1;
          ranged = ap (λ (k : FilterForm). k.ranged) (sym e) ∙ h.ranged;
          few = omega (arith, few);
        })

pub part_items : (outside : ℕ) (f : Filter) → IsFine depth outside f → PartItems outside (parts_in f)
part_items outside f h = by (out-Filter f) (form-out f (out-Filter f) refl)
  where
    by : (y : Filter-F Filter) → form_of f ≡ layer_form y → PartItems outside (parts_out f y)
    by (layers.Test column test constant) e = (record { flat = h.flat; other = rw e refl; ranged = h.ranged; few = h.few }, tt)
    by (layers.And fs) e = (record { flat = h.flat; other = rw e refl; ranged = h.ranged; few = h.few }, tt)
    by (layers.Not g) e = (record { flat = h.flat; other = rw e refl; ranged = h.ranged; few = h.few }, tt)
    by (layers.Or fs) e =
        let flat : (are_several (map form_of fs) && are_flat (λ part. part.is_or) (map form_of fs)) ≡ true = ap (λ (k : FilterForm). k.flat) (sym e) ∙ h.flat in
        let few : outside + deepest (map (λ part. part.depth) (map form_of fs)) ≤ 64 = rw e at h.few in
        unpacked is_or depth outside fs (record {
          flat = (and_parts (are_several (map form_of fs)) (are_flat (λ part. part.is_or) (map form_of fs)) flat).1;
          ranged = ap (λ (k : FilterForm). k.ranged) (sym e) ∙ h.ranged;
          few = few;
        })

-- ---- the items of a list as a filter

pub units_fine : (outside : ℕ) (f : Filter) (fs : List Filter) → outside ≤ 64 → UnitItems outside (f ∷ fs) → IsFine depth outside (and_of (f ∷ fs))
units_fine outside f [] le h = record { flat = h.0.flat; ranged = h.0.ranged; few = omega (arith, h.0.few, (depths f).0) }
units_fine outside f (g ∷ gs) le h =
    let p = packed is_and unit_depth outside (f ∷ g ∷ gs) le h in
    record {
      flat = rw (form-and (f ∷ g ∷ gs)) p.flat;
      ranged = rw (form-and (f ∷ g ∷ gs)) p.ranged;
      few = rw (form-and (f ∷ g ∷ gs)) p.few;
    }

pub parts_fine : (outside : ℕ) (f : Filter) (fs : List Filter) → outside ≤ 64 → PartItems outside (f ∷ fs) → IsFine depth outside (or_of (f ∷ fs))
parts_fine outside f [] le h = record { flat = h.0.flat; ranged = h.0.ranged; few = h.0.few }
parts_fine outside f (g ∷ gs) le h =
    let p = packed is_or depth outside (f ∷ g ∷ gs) le h in
    record {
      flat = rw (form-or (f ∷ g ∷ gs)) p.flat;
      ranged = rw (form-or (f ∷ g ∷ gs)) p.ranged;
      few = rw (form-or (f ∷ g ∷ gs)) p.few;
    }
