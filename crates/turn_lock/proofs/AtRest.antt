-- Passes between two calls.
use Rattle.std.proofs.Common.{◌≡◌, ℕ, ◌^◌, ◌<◌, ◌≤◌, min, List, [], ◌∷◌, Contains, Option, refl, ap, sym, ◌∙◌, subst, arith}
use Rattle.std.proofs.lemmas.List.Elements.{Contains-append_left}
use Rattle.atomic_table.specs.Seated.{TableId}
use Rattle.atomic_table.specs.Table.{Me}
use Rattle.atomic_table.specs.declared.badge.Badge.{Badge}
use Rattle.turn_lock.specs.declared.view.View.{View}
use Rattle.turn_lock.specs.Passes.{WorkerView}
use Rattle.turn_lock.specs.Views.{state_of, view_at, view_of, emptied_view, joined_view, settled_view, IsAtRest}

-- the one view
pub view_is : (n s : ℕ) (l : TableId) (views : List View) (a : View) → IsAtRest n s l views → views ≡ a ∷ [] → (a ≡ view_at (state_of l a)) × (a.number ≡ n) × (a.spare ≡ s) × (s ≤ 2 ^ 32) × Contains a.speaks n
view_is n s l views a rest is =
    let r : IsAtRest n s l (a ∷ []) = subst (IsAtRest n s l) is rest in
    (ap view_of r.0, r.1, r.2, r.3, r.4)

-- a pass is at rest with one view that has no lists to compare
pub at_rest : (n s : ℕ) (l : TableId) (views : List View) (a : View) → views ≡ a ∷ [] → a ≡ view_at (state_of l a) → a.number ≡ n → a.spare ≡ s → s ≤ 2 ^ 32 → Contains a.speaks n → IsAtRest n s l views
at_rest n s l views a is same number spare most has = subst (IsAtRest n s l) (sym is) (ap (λ (v : View). v ∷ []) same, number, spare, most, has)

-- a pass that gave its numbers away
pub rests_emptied : (n s : ℕ) (l l' : TableId) (vs us : List View) (a v : View) → IsAtRest n s l vs → vs ≡ a ∷ [] → us ≡ v ∷ [] → v ≡ emptied_view a → IsAtRest n (2 ^ 32) l' us
rests_emptied n s l l' vs us a v rest vs_is us_is v_is =
    let k = view_is n s l vs a rest vs_is in
    at_rest n (2 ^ 32) l' us (emptied_view a) (us_is ∙ ap (λ (u : View). u ∷ []) v_is) (ap emptied_view k.0) k.1 refl (omega arith) k.4

-- a pass that took in another
pub rests_joined : (n s s' now : ℕ) (l l' : TableId) (vs us : List View) (a b v : View) → now ≡ min s s' → IsAtRest n s l vs → vs ≡ a ∷ [] → b.spare ≡ s' → us ≡ v ∷ [] → v ≡ settled_view (joined_view a b) → IsAtRest n now l' us
rests_joined n s s' now l l' vs us a b v now_is rest vs_is spare us_is v_is =
    let k = view_is n s l vs a rest vs_is in
    let least = k.3 in
    at_rest n now l' us (settled_view (joined_view a b)) (us_is ∙ ap (λ (u : View). u ∷ []) v_is) (ap (λ (u : View). record (settled_view (joined_view a b)) { stage = u.stage }) k.0) k.1 ((λ i. min (k.2 i) (spare i)) ∙ sym now_is) (omega arith)
    (Contains-append_left a.speaks b.speaks n k.4)

-- the view of a pass that was taken apart
pub seat_of : (views : List View) (a : View) (p : WorkerView) → views ≡ a ∷ [] → views ≡ view_at p ∷ [] → a ≡ view_at p
seat_of views a p is state = ap view_of (sym is ∙ state)

-- the views of a badge that was taken out of its place
pub views_before : (old out : Badge View) (a : View) → out ≡ old → out.views ≡ a ∷ [] → old.views ≡ a ∷ []
views_before old out a same is = ap (λ (b : Badge View). b.views) (sym same) ∙ is

-- the view of a seat, whatever slots it has
module _ {T : Type 0} where
  pub view_in : (me : Me (Option T) View) (v : View) (slots : List (ℕ × Option T)) → me ≡ (v, slots) → me.0 ≡ v
  view_in me v slots is = ap (λ (m : Me (Option T) View). m.0) is

-- what a pass that was taken apart might give away
pub spare_of : (v : View) (p : WorkerView) (spare : ℕ) → v ≡ view_at p → spare ≡ p.spare → v.spare ≡ spare
spare_of v p spare is same = ap (λ (u : View). u.spare) is ∙ sym same

-- it may still give away a number
pub spare_left : (views : List View) (a : View) (p : WorkerView) (lock : TableId) → views ≡ a ∷ [] → state_of lock (view_of views) ≡ p → p.spare < 2 ^ 32 → a.spare < 2 ^ 32
spare_left views a p lock is state left =
    let same : a.spare ≡ p.spare = ap (λ (vs : List View). (view_of vs).spare) (sym is) ∙ ap (λ (s : WorkerView). s.spare) state in
    omega arith
