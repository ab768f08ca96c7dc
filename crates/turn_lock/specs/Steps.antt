-- What each step at the lock's table tells its seat.
-- This project's own.
use Rattle.std.specs.Prelude.{◌≡◌, ◌≢◌, ℕ, List, [], ◌∷◌, Option, Some, None}
use Rattle.atomic_table.specs.Table.{Me, Step}
use Rattle.pool_ledger.specs.declared.entry.Entry.{Entry}
use Rattle.turn_lock.specs.declared.view.Stage.TheVariants.{Open, Taken}
use Rattle.turn_lock.specs.declared.view.View.{View}
use Rattle.turn_lock.specs.Parts.{IsPart}
use Rattle.turn_lock.specs.Views.{staged_view, settled_view, resting_view}

-- a seat's view, and the slot that is out with it
abbrev pub SeatState : Type 0 → Type 0
SeatState T = Me (Option T) View

module _ {T : Type 0} (history : T → List Entry) (fact : T → Type 0) where
  -- the value's fact holds, and the view's list is a part of its history
  pub record IsFound (view : View) (value : T) : Type 0 where
    pub meets : fact value
    pub part : IsPart view.speaks view.seen (history value)

  -- where the turn was free, it is taken, and the slot with its value; else nothing is
  abbrev pub TakesTurn : Step (Option T) → SeatState T → ℕ → SeatState T → Type 0
  TakesTurn step before word after =
      (word ≡ 0 → (value : T) × (after ≡ (staged_view (Open (history value)) before.0, (0, Some value) ∷ before.1)) × IsFound before.0 value)
      × (word ≢ 0 → after ≡ before)

module _ {T : Type 0} where
  -- the slot goes home with None, and the value stays with the holder
  abbrev pub LeavesSlot : Step (Option T) → SeatState T → ℕ → SeatState T → Type 0
  LeavesSlot step before word after = (base : List Entry) → before.0.stage ≡ Open base → after ≡ (staged_view (Taken base) before.0, [])

  -- the slot is out with the holder again
  abbrev pub ReturnsSlot : Step (Option T) → SeatState T → ℕ → SeatState T → Type 0
  ReturnsSlot step before word after = (base : List Entry) → before.0.stage ≡ Taken base → after ≡ (staged_view (Open base) before.0, (0, None) ∷ [])

  -- the two lists of a joined view are compared
  abbrev pub SettlesSeen : Step (Option T) → SeatState T → ℕ → SeatState T → Type 0
  SettlesSeen step before word after =
      (after ≡ (settled_view before.0, before.1))
      × IsPart before.0.speaks before.0.seen (settled_view before.0).seen
      × IsPart before.0.joined before.0.told (settled_view before.0).seen

module _ {T : Type 0} (history : T → List Entry) where
  -- the value goes home with its slot, and the turn is free
  abbrev pub GivesTurn : Step (Option T) → SeatState T → ℕ → SeatState T → Type 0
  GivesTurn step before word after = (value : T) → before.1 ≡ (0, Some value) ∷ [] → after ≡ (resting_view (history value) before.0, [])
