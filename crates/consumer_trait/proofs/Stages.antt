-- How far a spill has come, by the numbers and flags that a consumer keeps.
use Rattle.std.proofs.Common.{◌≡◌, ℕ, ◌-◌, Bool, true, false, List, [], refl, sym, ap, Option}
use Rattle.aggregate.specs.declared.kind.Kind.{Kind}
use Rattle.aggregate.specs.Totals.{Entry, costs}
use Rattle.consumer_trait.specs.States.{State, current, progress_at}
use Rattle.consumer_trait.specs.declared.usage.Usage.{Usage}
use Rattle.consumer_trait.specs.Usages.{mark_by, stage_by, state_by}

module _ (kind : Option Kind) (entries left : List Entry) (usage : Usage) (least : ℕ) (serves : Kind → Bool) where
  abbrev its : State
  its = state_by kind entries left usage least serves

  pub current_asked : (current (state_by kind entries left usage least serves)).asked ≡ usage.asked
  current_asked = at usage.spilling refl
    where
      at : (b : Bool) → usage.spilling ≡ b → (progress_at its (stage_by b usage.asked usage.wrote usage.freed usage.mark left)).asked ≡ usage.asked
      at true e = refl
      at false e = sym (usage.unasked e)

  pub current_wrote : (current (state_by kind entries left usage least serves)).wrote ≡ usage.wrote
  current_wrote = at usage.spilling refl
    where
      at : (b : Bool) → usage.spilling ≡ b → (progress_at its (stage_by b usage.asked usage.wrote usage.freed usage.mark left)).wrote ≡ usage.wrote
      at true e = refl
      at false e = sym (usage.unwritten e)

  pub current_freed : (current (state_by kind entries left usage least serves)).freed ≡ usage.freed
  current_freed = at usage.spilling refl
    where
      at : (b : Bool) → usage.spilling ≡ b → (progress_at its (stage_by b usage.asked usage.wrote usage.freed usage.mark left)).freed ≡ usage.freed
      at true e = refl
      at false e = sym (usage.unfreed e)

  pub current_left : (usage.spilling ≡ false → left ≡ []) → (current (state_by kind entries left usage least serves)).left ≡ left
  current_left idle = at usage.spilling refl
    where
      at : (b : Bool) → usage.spilling ≡ b → (progress_at its (stage_by b usage.asked usage.wrote usage.freed usage.mark left)).left ≡ left
      at true e = refl
      at false e = sym (idle e)

  pub current_mark : usage.costs ≡ costs entries → (current (state_by kind entries left usage least serves)).mark ≡ mark_by usage.spilling usage.mark (usage.used - usage.costs)
  current_mark charged = at usage.spilling refl
    where
      at : (b : Bool) → usage.spilling ≡ b → (progress_at its (stage_by b usage.asked usage.wrote usage.freed usage.mark left)).mark ≡ mark_by b usage.mark (usage.used - usage.costs)
      at true e = refl
      at false e = ap (λ (n : ℕ). usage.used - n) (sym charged)
