-- What still holds of the table's views where one of them changes, and what a view may change.
use Rattle.std.proofs.Common.{◌≡◌, ◌⊎◌, ℕ, suc, List, Contains, Option, ap, sym, ◌∙◌, subst, set}
use mathlib.Core.Logic.{dite}
use mathlib.Core.Option.{some}
use mathlib.Core.Option as maybe
use native.Mathlib.Decide.{ℕ_discrete}
use lib.ListN.{get_elem?}
use Rattle.atomic_table.proofs.Lists.{set_here, set_else}
use Rattle.pool_ledger.specs.declared.entry.Entry.{Entry}
use Rattle.turn_lock.specs.declared.view.Stage.{Stage}
use Rattle.turn_lock.specs.declared.view.Stage.TheVariants.{Idle, Open, Taken}
use Rattle.turn_lock.specs.declared.view.View.{View}
use Rattle.turn_lock.specs.Views.{staged_view}
use Rattle.turn_lock.specs.Turns.{word_of, IsOut, IsInStage, SpeaksFor, MayGive, Stands, Holds}
use Rattle.turn_lock.proofs.Views.{at_below, same_at}

module _ {T : Type 0} where
  -- who does not hold the turn is at no stage of it
  pub stage_elsewhere : (past past' : List Entry) (turn turn' : ℕ) (homes homes' : List (maybe.Option (Option T))) (j : ℕ) (stage : Stage) → (turn ≡ suc j → ⊥) → IsInStage past turn homes j stage → IsInStage past' turn' homes' j stage
  stage_elsewhere past past' turn turn' homes homes' j Idle away k = tt
  stage_elsewhere past past' turn turn' homes homes' j (Open base) away k = absurd (away k.0)
  stage_elsewhere past past' turn turn' homes homes' j (Taken base) away k = absurd (away k.0)

  -- another seat's turn and slot change
  pub stands_elsewhere : (past : List Entry) (turn turn' next : ℕ) (owner : ℕ → ℕ) (giver : ℕ) (homes homes' : List (maybe.Option (Option T))) (j : ℕ) (v : View) → (turn ≡ suc j → ⊥)
      → Stands past turn next owner giver homes j v → Stands past turn' next owner giver homes' j v
  stands_elsewhere past turn turn' next owner giver homes homes' j v away k = record {
    knows = k.knows;
    hears = k.hears;
    speaks = k.speaks;
    joined = k.joined;
    gives = k.gives;
    stage = stage_elsewhere past past turn turn' homes homes' j v.stage away k.stage;
  }

  -- the same seat at another stage
  pub stands_staged : (past : List Entry) (turn turn' next : ℕ) (owner : ℕ → ℕ) (giver : ℕ) (homes homes' : List (maybe.Option (Option T))) (j : ℕ) (v : View) (stage : Stage)
      → Stands past turn next owner giver homes j v → IsInStage past turn' homes' j stage → Stands past turn' next owner giver homes' j (staged_view stage v)
  stands_staged past turn turn' next owner giver homes homes' j v stage k now = record {
    knows = k.knows;
    hears = k.hears;
    speaks = k.speaks;
    joined = k.joined;
    gives = k.gives;
    stage = now;
  }

-- the holder stays the holder
pub holds_reviewed : (views : List View) (id : ℕ) (v w : View) (n j : ℕ) → get_elem? views id ≡ some v → w.number ≡ v.number → (IsOut v.stage → IsOut w.stage) → ((m : ℕ) → Contains v.speaks m → Contains w.speaks m)
    → Holds n j views → Holds n j (set views id w)
holds_reviewed views id v w n j at number out grows h = dite (ℕ_discrete j id)
    (λ here.
    let same : h.view ≡ v = same_at views id h.view v (subst (λ (k : ℕ). get_elem? views k ≡ some h.view) here h.at) at in
    subst (λ (k : ℕ). Holds n k (set views id w)) (sym here) record {
      view = w;
      at = set_here views id w (at_below views id v at);
      word_is = h.word_is ∙ ap (λ (u : View). word_of u.number) same ∙ ap word_of (sym number);
      number = subst (Contains w.speaks) (sym number) (grows v.number (subst (λ (u : View). Contains u.speaks u.number) same h.number));
      out = out (subst (λ (u : View). IsOut u.stage) same h.out);
    })
    (λ other. record { view = h.view; at = set_else views id j w other ∙ h.at; word_is = h.word_is; number = h.number; out = h.out })

-- a number is spoken for
pub speaks_reviewed : (views : List View) (id : ℕ) (v w : View) (n j : ℕ) → get_elem? views id ≡ some v → (Contains v.speaks n ⊎ Contains v.joined n → Contains w.speaks n ⊎ Contains w.joined n) → SpeaksFor j n views → SpeaksFor j n (set views id w)
speaks_reviewed views id v w n j at grows h = dite (ℕ_discrete j id)
    (λ here.
    let same : h.view ≡ v = same_at views id h.view v (subst (λ (k : ℕ). get_elem? views k ≡ some h.view) here h.at) at in
    subst (λ (k : ℕ). SpeaksFor k n (set views id w)) (sym here)
    record { view = w; at = set_here views id w (at_below views id v at); has = grows (subst (λ (u : View). Contains u.speaks n ⊎ Contains u.joined n) same h.has) })
    (λ other. record { view = h.view; at = set_else views id j w other ∙ h.at; has = h.has })

-- one seat has the numbers that are left
pub gives_reviewed : (views : List View) (id : ℕ) (v w : View) (n j : ℕ) → get_elem? views id ≡ some v → w.spare ≡ v.spare → MayGive j n views → MayGive j n (set views id w)
gives_reviewed views id v w n j at spare h = dite (ℕ_discrete j id)
    (λ here.
    let same : h.view ≡ v = same_at views id h.view v (subst (λ (k : ℕ). get_elem? views k ≡ some h.view) here h.at) at in
    subst (λ (k : ℕ). MayGive k n (set views id w)) (sym here) record { view = w; at = set_here views id w (at_below views id v at); spare_is = spare ∙ ap (λ (u : View). u.spare) (sym same) ∙ h.spare_is })
    (λ other. record { view = h.view; at = set_else views id j w other ∙ h.at; spare_is = h.spare_is })
