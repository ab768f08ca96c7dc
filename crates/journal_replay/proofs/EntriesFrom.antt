-- The entries from a place on: the first of them, and the others.
use Rattle.std.proofs.Common.{◌≡◌, ℕ, ◌+◌, ◌<◌, ◌≤◌, Bool, true, false, not, ◌&&◌, List, [], ◌∷◌, All, refl, sym, ap, subst, ◌∙◌, inl, inr, arith}
use Rattle.std.specs.Cmp.{first_so, nat_cmp_is}
use Rattle.std.specs.List.{AllByRecursion}
use Rattle.std.specs.List.Sorted.{IsStrictlySortedBy}
use Rattle.std.specs.Map.{keys_of}
use Rattle.std.specs.BTreeMap.Range.{range_contains}
use Rattle.std.specs.Ordering.{nat_cmp, is_le}
use Rattle.std.specs.declared.cmp.Ordering.{Ordering}
use Rattle.std.specs.declared.cmp.Ordering.TheVariants.{Less, Equal, Greater}
use Rattle.std.specs.declared.ops.Bound.TheVariants.{Included, Unbounded}
use Rattle.std.proofs.lemmas.Bool.{cases_eq, cases_lt, cond-true, cond-false}
use Rattle.std.proofs.lemmas.Cmp.{ranked}
use Rattle.std.proofs.lemmas.List.Elements.{All-head, filter_passes}
use Rattle.std.proofs.lemmas.Map.Keys.{le_from_is_le, sorted_head, sorted_tail}
use Rattle.journal_replay.specs.declared.placed.Placed.{Placed}
use Rattle.journal_replay.specs.UseOrder.{entries_from}

-- whether a place is this one or behind it
abbrev is_from : ℕ → ℕ → Bool
is_from from place = range_contains nat_cmp (Included from) Unbounded place

from_there : (from place : ℕ) → from ≤ place → is_from from place ≡ true
from_there from place there = elim (cases_eq from place) [
  | inl same ↦ ap (λ (o : Ordering). is_le o && not false) (sym (nat_cmp_is from place Equal same))
  | inr other ↦ ap (λ (o : Ordering). is_le o && not false) (sym (nat_cmp_is from place Less (omega (arith, there, other))))
]

not_there : (from place : ℕ) → place < from → is_from from place ≡ false
not_there from place below = ap (λ (o : Ordering). is_le o && not false) (sym (nat_cmp_is from place Greater below))

pub from_head : (from : ℕ) (e : ℕ × Placed) (es : List (ℕ × Placed)) → from ≤ e.0 → entries_from from (e ∷ es) ≡ e ∷ entries_from from es
from_head from e es there = cond-true (is_from from e.0) (e ∷ entries_from from es) (entries_from from es) (from_there from e.0 there)

pub from_tail : (from : ℕ) (e : ℕ × Placed) (es : List (ℕ × Placed)) → e.0 < from → entries_from from (e ∷ es) ≡ entries_from from es
from_tail from e es below = cond-false (is_from from e.0) (e ∷ entries_from from es) (entries_from from es) (not_there from e.0 below)

-- all are from their first place on
pub from_all : (from low : ℕ) → from ≤ low + 1 → (es : List (ℕ × Placed)) → AllByRecursion (λ y. nat_cmp low y ≡ Less) (keys_of es) → entries_from from es ≡ es
from_all from low order [] above = refl
from_all from low order (e ∷ es) above =
    let later : low < e.0 = ranked low e.0 Less (sym above.0) in
    from_head from e es (omega (arith, later, order)) ∙ ap (λ (l : List (ℕ × Placed)). e ∷ l) (from_all from low order es above.1)

-- behind the first are those from the next place on
next_from : (from : ℕ) (es : List (ℕ × Placed)) → IsStrictlySortedBy nat_cmp (keys_of es) → (e : ℕ × Placed) (t : List (ℕ × Placed)) → from ≤ e.0
    → entries_from from es ≡ e ∷ t → t ≡ entries_from (e.0 + 1) es
next_from from [] sorted e t there at = absurd (cc at)
next_from from (x ∷ xs) sorted e t there at = elim (cases_lt x.0 from) [
  | inl below ↦
      next_from from xs (sorted_tail nat_cmp x.0 (keys_of xs) sorted) e t there (sym (from_tail from x xs below) ∙ at)
      ∙ sym (from_tail (e.0 + 1) x xs (omega (arith, below, there)))
  | inr within ↦
      let both : x ∷ entries_from from xs ≡ e ∷ t = sym (from_head from x xs within) ∙ at in
      let first : x ≡ e = cc both in
      let rest : t ≡ entries_from from xs = cc both in
      let above = sorted_head nat_cmp x.0 (keys_of xs) sorted in
      rest
      ∙ from_all from x.0 (omega (arith, within)) xs above
      ∙ sym (from_all (x.0 + 1) x.0 (omega arith) xs above)
      ∙ sym (from_tail (x.0 + 1) x xs (omega arith))
      ∙ ap (λ (y : ℕ × Placed). entries_from (y.0 + 1) (x ∷ xs)) first
]

-- what a range from a place on gives first
pub first_is : (from : ℕ) (es r t : List (ℕ × Placed)) (e : ℕ × Placed) → IsStrictlySortedBy nat_cmp (keys_of es) → r ≡ entries_from from es → r ≡ e ∷ t
    → entries_from from es ≡ e ∷ entries_from (e.0 + 1) es
first_is from es r t e sorted is at =
    let inside = λ (x : ℕ × Placed). is_from from x.0 in
    let each = subst (All (λ x. inside x ≡ true)) (sym is ∙ at) (filter_passes inside es) in
    let there : from ≤ e.0 = le_from_is_le from e.0 (first_so _ true (All-head (λ x. inside x ≡ true) e t each)) in
    sym is ∙ at ∙ ap (λ (l : List (ℕ × Placed)). e ∷ l) (next_from from es sorted e t there (sym is ∙ at))
