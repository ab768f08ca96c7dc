-- What is left at the end of a spill.
use Rattle.std.proofs.Common.{◌≡◌, ◌≢◌, ℕ, ◌+◌, ◌-◌, ◌<◌, ◌≤◌, Bool, true, false, List, [], ◌∷◌, ◌++◌, ◌⊎◌, inl, inr, ⊎_elim, length, refl, ap, ◌∙◌, arith}
use Rattle.aggregate.specs.Totals.{Entry}
use Rattle.consumer_trait.specs.Usages.{mark_by}

pub some_length : (es : List Entry) → es ≢ [] → 1 ≤ length es
some_length [] some = absurd (some refl)
some_length (e ∷ es) some = omega arith

some_or_none : (es : List Entry) → (es ≡ []) ⊎ (es ≢ [])
some_or_none [] = inl refl
some_or_none (e ∷ es) = inr (λ none. absurd (cc))

pub none_where : (es : List Entry) → (es ≢ [] → ⊥) → es ≡ []
none_where es h = ⊎_elim (λ none. none) (λ some. absurd (h some)) (some_or_none es)

pub front_none : (front es : List Entry) → front ++ es ≡ [] → front ≡ []
front_none [] es none = refl
front_none (e ∷ front) es none = absurd (cc)

pub front_some : (front es : List Entry) → es ≡ [] → front ++ es ≢ [] → front ≢ []
front_some front es none some = λ e. some (ap (λ (xs : List Entry). xs ++ es) e ∙ none)

-- a spill that wrote gave back, once what it wrote and was told is back
pub gave_back : (groups : List Entry) (freed : Bool) (mark costs used : ℕ) → (groups ≡ [] → used ≡ 0) → (groups ≢ [] → mark + costs ≡ used) → (freed ≡ false → groups ≢ [] → mark + costs < used) → (freed ≡ false → 1 ≤ used) → freed ≡ true
gave_back groups true mark costs used all room owes owes_all = refl
gave_back groups false mark costs used all room owes owes_all =
    absurd (⊎_elim (λ none. let a = all none in let b = owes_all refl in omega (arith, a, b)) (λ some. let a = room some in let b = owes refl some in omega (arith, a, b)) (some_or_none groups))

pub has_room : (spilling : Bool) (mark costs used : ℕ) → mark + costs ≡ used → mark_by spilling mark (used - costs) ≤ used - costs
has_room true mark costs used e = omega (arith, e)
has_room false mark costs used e = omega arith
