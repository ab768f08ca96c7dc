-- A lock begins under its rule, and its last pass knows what it ends with.
use Rattle.std.proofs.Common.{◌≡◌, ℕ, zero, suc, ◌-◌, ◌<◌, ◌≤◌, List, [], ◌∷◌, ◌++◌, get_or, Contains, Option, Some, None, refl, ap, sym, ◌∙◌, subst, inl, ⊎_elim, arith}
use mathlib.Core.Logic.{dite}
use mathlib.Core.Option.{some, some-injective, some-ne-none}
use native.Mathlib.Decide.{ℕ_discrete}
use lib.ListN.{get_elem?}
use Rattle.atomic_table.specs.Table.{State, opening, Final, Seen}
use Rattle.pool_ledger.specs.declared.entry.Entry.{Entry}
use Rattle.turn_lock.specs.declared.view.Stage.TheVariants.{Idle}
use Rattle.turn_lock.specs.declared.view.View.{View}
use Rattle.turn_lock.specs.Passes.{WorkerView, CoversAll}
use Rattle.turn_lock.specs.Views.{first_view, stage_of, view_at}
use Rattle.turn_lock.specs.Turns.{IsOut, Stands, IsInTurn}
use Rattle.turn_lock.proofs.Parts.{none_in, part_self, part_whole}
use Rattle.turn_lock.proofs.Views.{same_at}
use Rattle.turn_lock.proofs.Splitting.{one_of}
use Rattle.turn_lock.proofs.Slots.{some_or}

module _ {T : Type 0} (history : T → List Entry) (fact : T → Type 0) where
  -- a lock that is made of this value
  begins : (x : T) → history x ≡ [] → fact x → IsInTurn history fact (opening (0 ∷ []) (Some x ∷ []) first_view)
  begins x empty good = record {
    past = [];
    turn = 0;
    next = 1;
    owner = λ _. 0;
    giver = 0;
    one_word = refl;
    bounded = omega arith;
    spoken = λ n less. record { view = first_view; at = refl; has = inl (0, omega arith, omega arith) };
    left = λ _. record { view = first_view; at = refl; spare_is = refl };
    written = λ k d h. absurd (omega arith);
    free = λ _. (refl, record { value = x; at = refl; history_is = empty; meets = good });
    held = λ j e. absurd (omega arith);
    each = one;
  }
    where
      one : (j : ℕ) (v : View) → get_elem? (first_view ∷ []) j ≡ some v → Stands {T = T} [] 0 1 (λ _. 0) 0 (some (Some x) ∷ []) j v
      one zero v e = subst (Stands {T = T} [] 0 1 (λ _. 0) 0 (some (Some x) ∷ []) 0) (some-injective first_view v e) record {
        knows = part_self (0 ∷ []) [];
        hears = part_self [] [];
        speaks = λ n h. let is = one_of 0 n h in (omega arith, refl);
        joined = λ n h. absurd (none_in n h);
        gives = λ _. (refl, refl);
        stage = tt;
      }
      one (suc j) v e = absurd (some-ne-none v (sym e))

  -- the same, for a list of slots that the value was put into
  pub begins_with : (x : T) (before slots : List (Option T)) → before ≡ [] → slots ≡ before ++ Some x ∷ [] → history x ≡ [] → fact x → IsInTurn history fact (opening (0 ∷ []) slots first_view)
  begins_with x before slots none is empty good =
      let same : slots ≡ Some x ∷ [] = is ∙ ap (λ (xs : List (Option T)). xs ++ Some x ∷ []) none in
      subst (λ (xs : List (Option T)). IsInTurn history fact (opening (0 ∷ []) xs first_view)) (sym same) (begins x empty good)

  -- the value that is there at the end, for the pass that has seen its history
  pub record IsEnd (seen : List Entry) (x : T) : Type 0 where
    pub meets : fact x
    pub history_is : history x ≡ seen

  end_of : (x : T) (past seen : List Entry) → history x ≡ past → past ≡ seen → fact x → IsEnd seen x
  end_of x past seen is same good = record { meets = good; history_is = is ∙ same }

  -- who covers all numbers speaks for each that was given away
  all_its : (s : State (Option T) View) (r : IsInTurn history fact s) (id : ℕ) (v : View) → get_elem? s.views id ≡ some v → CoversAll v.speaks v.spare → (n : ℕ) → n < r.next → Contains v.speaks n
  all_its s r id v at covers n less = let b = r.bounded in ⊎_elim (λ (h : Contains v.speaks n). h)
      (λ (h : v.spare ≤ n). absurd (let g = (r.each id v at).gives (omega arith) in let is = g.0 in omega arith)) (covers n (omega arith))

  ends : (id : ℕ) (v : View) (ws : List ℕ) (xs : List (Option T)) → v.stage ≡ Idle → CoversAll v.speaks v.spare → Final (Seen (IsInTurn history fact) id v) ws xs
      → (x : T) × (get_elem? xs 0 ≡ some (Some x)) × IsEnd v.seen x
  ends id v ws xs idle covers f =
      let s = f.0 in
      let r = f.1.0 in
      let at = f.1.1 in
      let k = r.each id v at in
      let turn_free : r.turn ≡ 0 = dite (ℕ_discrete r.turn 0) (λ e. e) (λ n.
      let j : ℕ = r.turn - 1 in
      let h = r.held j (omega arith) in
      let o = r.each j h.view h.at in
      let theirs = o.speaks h.view.number h.number in
      let mine = k.speaks h.view.number (all_its s r id v at covers h.view.number theirs.0) in
      let here : j ≡ id = sym theirs.1 ∙ mine.1 in
      let same : h.view ≡ v = same_at s.views id h.view v (subst (λ (i : ℕ). get_elem? s.views i ≡ some h.view) here h.at) at in
      absurd (subst IsOut (ap (λ (u : View). u.stage) same ∙ idle) h.out)) in
      let home = (r.free turn_free).1 in
      let past_seen : r.past ≡ v.seen = part_whole v.speaks v.seen r.past k.knows (λ i d l. all_its s r id v at covers (get_or r.past i d).worker (r.written i d l)) in
      (home.value, f.4 0 (Some home.value) home.at, end_of home.value r.past v.seen home.history_is past_seen home.meets)

  -- what is read from the slot of a lock that a pass closes
  pub closes : (id : ℕ) (v : View) (p : WorkerView) (ws : List ℕ) (xs : List (Option T)) (found : Option T) → v ≡ view_at p → p.base ≡ None → CoversAll p.speaks p.spare → Final (Seen (IsInTurn history fact) id v) ws xs → get_elem? xs 0 ≡ some found
      → (x : T) × (found ≡ Some x) × IsEnd p.seen x
  closes id v p ws xs found is free covers f at =
      let e = ends id v ws xs (ap (λ (u : View). u.stage) is ∙ ap stage_of free) (subst (λ (u : View). CoversAll u.speaks u.spare) (sym is) covers) f in
      (e.0, some-injective found (Some e.0) (sym at ∙ e.1), subst (λ (seen : List Entry). IsEnd seen e.0) (ap (λ (u : View). u.seen) is) e.2)

  pub end_is : (seen : List Entry) (x y : T) (found : Option T) → found ≡ Some x → found ≡ Some y → IsEnd seen x → IsEnd seen y
  end_is seen x y found one other e = subst (IsEnd seen) (ap (some_or x) (sym one ∙ other)) e
