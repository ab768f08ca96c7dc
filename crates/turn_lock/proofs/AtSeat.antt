-- The steps as the code makes them, at a seat of a table with one slot.
use Rattle.std.proofs.Common.{◌≡◌, ℕ, eqb, List, [], ◌∷◌, Contains, Option, Some, None, refl, ap, sym, ◌∙◌, subst}
use mathlib.Core.Option as maybe
use prog.Atomic.{either}
use Rattle.atomic_table.specs.Table.{Me, step, rest, Allows}
use Rattle.pool_ledger.specs.declared.entry.Entry.{Entry}
use Rattle.pool_ledger.specs.Workers.{Continues}
use Rattle.turn_lock.specs.declared.view.Stage.TheVariants.{Idle, Open, Taken}
use Rattle.turn_lock.specs.declared.view.View.{View}
use Rattle.turn_lock.specs.Views.{staged_view}
use Rattle.turn_lock.specs.Turns.{word_of, IsInTurn}
use Rattle.turn_lock.specs.Steps.{IsFound, TakesTurn, LeavesSlot, ReturnsSlot, SettlesSeen, GivesTurn}
use Rattle.turn_lock.proofs.Slots.{in_hand, hand_or}
use Rattle.turn_lock.proofs.Taking.{takes_turn}
use Rattle.turn_lock.proofs.Moving.{leaves_slot, returns_slot}
use Rattle.turn_lock.proofs.Giving.{gives_turn}
use Rattle.turn_lock.proofs.Settling.{settles}

module _ {T : Type 0} (history : T → List Entry) (fact : T → Type 0) (slots id : ℕ) (me : Me (Option T) View) (one : slots ≡ 1) where
  pub can_take : (new : ℕ) → me.1 ≡ [] → new ≡ word_of me.0.number → Contains me.0.speaks me.0.number
      → Allows (IsInTurn history fact) slots id me 0 (λ n. either (eqb n 0) new n) (TakesTurn history fact (step slots 0 0 new maybe.none) me)
  can_take new empty new_is has =
      subst (λ (k : ℕ × List (ℕ × Option T)). Allows (IsInTurn history fact) k.0 id (me.0, k.1) 0 (λ n. either (eqb n 0) new n) (TakesTurn history fact (step k.0 0 0 new maybe.none) (me.0, k.1))) (λ i. (sym one i, sym empty i)) (takes_turn history fact id new me.0 new_is has)

  pub can_leave : (base : List Entry) → me.0.stage ≡ Open base → me.1 ≡ (0, None) ∷ [] → Allows (IsInTurn history fact) slots id me 0 (λ n. n) (LeavesSlot (step slots 0 0 0 maybe.none) me)
  can_leave base is slot =
      subst (λ (k : ℕ × List (ℕ × Option T)). Allows (IsInTurn history fact) k.0 id (me.0, k.1) 0 (λ n. n) (LeavesSlot (step k.0 0 0 0 maybe.none) (me.0, k.1))) (λ i. (sym one i, sym slot i)) (leaves_slot history fact id me.0 base is)

  pub can_return : (base : List Entry) → me.0.stage ≡ Taken base → me.1 ≡ [] → Allows (IsInTurn history fact) slots id me 0 (λ n. n) (ReturnsSlot (step slots 0 0 0 maybe.none) me)
  can_return base is empty =
      subst (λ (k : ℕ × List (ℕ × Option T)). Allows (IsInTurn history fact) k.0 id (me.0, k.1) 0 (λ n. n) (ReturnsSlot (step k.0 0 0 0 maybe.none) (me.0, k.1))) (λ i. (sym one i, sym empty i)) (returns_slot history fact id me.0 base is)

  pub can_give : (base : List Entry) (x : T) → me.0.stage ≡ Open base → me.1 ≡ (0, Some x) ∷ [] → me.0.joined ≡ [] → me.0.told ≡ [] → Contains me.0.speaks me.0.number → fact x → Continues me.0.number base (history x)
      → Allows (IsInTurn history fact) slots id me 0 (λ _. 0) (GivesTurn history (step slots 0 0 0 maybe.none) me)
  can_give base x is slot no_joined no_told has good more =
      subst (λ (k : ℕ × List (ℕ × Option T)). Allows (IsInTurn history fact) k.0 id (me.0, k.1) 0 (λ _. 0) (GivesTurn history (step k.0 0 0 0 maybe.none) (me.0, k.1))) (λ i. (sym one i, sym slot i)) (gives_turn history fact id me.0 base x is no_joined no_told has good more)

  pub can_settle : Allows (IsInTurn history fact) slots id me 0 (λ n. n) (SettlesSeen (step slots 0 0 0 maybe.none) me)
  can_settle = subst (λ (k : ℕ). Allows (IsInTurn history fact) k id me 0 (λ n. n) (SettlesSeen (step k 0 0 0 maybe.none) me)) (sym one) (settles history fact id me)

module _ {T : Type 0} where
  -- the turn is given after the slot was out again and the value was put into it
  pub can_give_staged : (history : T → List Entry) (fact : T → Type 0) (slots id : ℕ) (v : View) (m m' : Me (Option T) View) → slots ≡ 1 → (base : List Entry) (x : T) → m ≡ (staged_view (Open base) v, (0, None) ∷ []) → m' ≡ (m.0, (0, Some x) ∷ rest m.1)
      → v.joined ≡ [] → v.told ≡ [] → Contains v.speaks v.number → fact x → Continues v.number base (history x) → Allows (IsInTurn history fact) slots id m' 0 (λ _. 0) (GivesTurn history (step slots 0 0 0 maybe.none) m')
  can_give_staged history fact slots id v m m' one base x back put no_joined no_told has good more =
      let now : m' ≡ (staged_view (Open base) v, (0, Some x) ∷ []) = put ∙ (λ i. ((back i).0, (0, Some x) ∷ rest (back i).1)) in
      subst (λ (k : Me (Option T) View). Allows (IsInTurn history fact) slots id k 0 (λ _. 0) (GivesTurn history (step slots 0 0 0 maybe.none) k)) (sym now)
      (can_give history fact slots id (staged_view (Open base) v, (0, Some x) ∷ []) one base x refl refl no_joined no_told has good more)

  -- the slot that was taken last
  pub in_slot : (m : Me (Option T) View) (x : T) → m.1 ≡ (0, Some x) ∷ [] → m.1 ≡ (0, Some x) ∷ rest m.1
  in_slot m x is = is ∙ ap (λ (r : List (ℕ × Option T)). (0, Some x) ∷ r) (sym (ap rest is))

  -- the turn is taken by an idle seat with this number
  pub can_take_as : (history : T → List Entry) (fact : T → Type 0) (slots id : ℕ) (m m0 : Me (Option T) View) → slots ≡ 1 → (number : ℕ) → m ≡ m0 → m0 ≡ (staged_view Idle m0.0, []) → m0.0.number ≡ number → Contains m0.0.speaks number
      → Allows (IsInTurn history fact) slots id m 0 (λ n. either (eqb n 0) (word_of number) n) (TakesTurn history fact (step slots 0 0 (word_of number) maybe.none) m)
  can_take_as history fact slots id m m0 one number same is_idle number_is has =
      subst (λ (k : Me (Option T) View). Allows (IsInTurn history fact) slots id k 0 (λ n. either (eqb n 0) (word_of number) n) (TakesTurn history fact (step slots 0 0 (word_of number) maybe.none) k)) (sym same)
      (can_take history fact slots id m0 one (word_of number) (ap (λ (k : Me (Option T) View). k.1) is_idle) (ap word_of (sym number_is)) (subst (Contains m0.0.speaks) (sym number_is) has))

  -- the slot goes home after the value was taken out of it
  pub can_leave_as : (history : T → List Entry) (fact : T → Type 0) (slots id : ℕ) (m m' : Me (Option T) View) → slots ≡ 1 → (x : T) → m.0.stage ≡ Open (history x) → m.1 ≡ (0, Some x) ∷ [] → m' ≡ (m.0, (0, None) ∷ rest m.1)
      → Allows (IsInTurn history fact) slots id m' 0 (λ n. n) (LeavesSlot (step slots 0 0 0 maybe.none) m')
  can_leave_as history fact slots id m m' one x is slot put =
      subst (λ (k : Me (Option T) View). Allows (IsInTurn history fact) slots id k 0 (λ n. n) (LeavesSlot (step slots 0 0 0 maybe.none) k)) (sym (put ∙ (λ i. (m.0, (0, None) ∷ rest (slot i)))))
      (can_leave history fact slots id (m.0, (0, None) ∷ []) one (history x) is refl)

  -- what the exchange told, where the turn was free
  abbrev pub Took : (T → List Entry) → (T → Type 0) → Me (Option T) View → Me (Option T) View → Type 0
  Took history fact m m' = (x : T) × (m' ≡ (staged_view (Open (history x)) m.0, (0, Some x) ∷ m.1)) × IsFound history fact m.0 x

  -- the holder has the slot with the value that was found
  pub may_take_out : (history : T → List Entry) (fact : T → Type 0) (m m0 m' : Me (Option T) View) → m ≡ m0 → m0 ≡ (staged_view Idle m0.0, []) → Took history fact m m'
      → (x : T) × (m'.0.stage ≡ Open (history x)) × (m'.1 ≡ (0, Some x) ∷ [])
  may_take_out history fact m m0 m' same idle t = (
    t.0,
    ap (λ (k : Me (Option T) View). k.0.stage) t.1,
    ap (λ (k : Me (Option T) View). k.1) t.1 ∙ ap (λ (r : List (ℕ × Option T)). (0, Some t.0) ∷ r) (ap (λ (k : Me (Option T) View). k.1) (same ∙ idle)),
  )

  -- the value that came out is the one that was found
  pub took : (history : T → List Entry) (fact : T → Type 0) (m m0 m' m'' : Me (Option T) View) (y : T) → m ≡ m0 → Took history fact m m' → m'.1 ≡ (0, Some y) ∷ [] → m'' ≡ (staged_view (Taken (history y)) m'.0, [])
      → (m'' ≡ (staged_view (Taken (history y)) m0.0, [])) × IsFound history fact m0.0 y
  took history fact m m0 m' m'' y same t out now =
      let e : (0, Some t.0) ∷ m.1 ≡ in_hand y = sym (ap (λ (k : Me (Option T) View). k.1) t.1) ∙ out in
      let x_is : t.0 ≡ y = ap (hand_or y) e in
      let v_is : staged_view (Taken (history y)) m'.0 ≡ staged_view (Taken (history y)) m0.0 = ap (λ (k : Me (Option T) View). staged_view (Taken (history y)) k.0) t.1 ∙ ap (λ (k : Me (Option T) View). staged_view (Taken (history y)) k.0) same in
      (now ∙ ap (λ (v : View). (v, [])) v_is, subst (λ (z : View × T). IsFound history fact z.0 z.1) (λ i. ((same i).0, x_is i)) t.2)
