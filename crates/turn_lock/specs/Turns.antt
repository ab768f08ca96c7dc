-- The rule of the turn: five facts that hold of the lock's table between any two steps.
-- This project's own. Word 0 is the turn: 0 where it is free, else twice the holder's number and 1. Slot 0 has the value, or None while the value is out.
use Rattle.std.specs.Prelude.{◌≡◌, ◌⊎◌, ℕ, suc, ◌+◌, ◌*◌, ◌^◌, ◌<◌, ◌≤◌, List, length, All, Contains, slice_index, Option, Some, None}
use mathlib.Core.Option.{some}
use mathlib.Core.Option as maybe
use lib.ListN.{get_elem?}
use Rattle.atomic_table.specs.Table.{State}
use Rattle.pool_ledger.specs.declared.entry.Entry.{Entry}
use Rattle.turn_lock.specs.declared.view.Stage.{Stage}
use Rattle.turn_lock.specs.declared.view.Stage.TheVariants.{Idle, Open, Taken}
use Rattle.turn_lock.specs.declared.view.View.{View}
use Rattle.turn_lock.specs.Parts.{IsPart}

-- the word while the pass with this number holds the turn: odd, so that its low 32 bits are never 0
abbrev pub word_of : ℕ → ℕ
word_of number = number * 2 + 1

-- these numbers have been given away, to the seat alone
abbrev pub Owns : (ℕ → ℕ) → ℕ → ℕ → List ℕ → Type 0
Owns owner next seat numbers = (number : ℕ) → Contains numbers number → (number < next) × (owner number ≡ seat)

-- the seat speaks for the number
pub record SpeaksFor (seat number : ℕ) (views : List View) : Type 0 where
  pub view : View
  pub at : get_elem? views seat ≡ some view
  pub has : Contains view.speaks number ⊎ Contains view.joined number

-- the seat may give away the numbers from this one on
pub record MayGive (seat next : ℕ) (views : List View) : Type 0 where
  pub view : View
  pub at : get_elem? views seat ≡ some view
  pub spare_is : view.spare ≡ next

-- a stage at which the seat has the turn
abbrev pub IsOut : Stage → Type 0
IsOut Idle = ⊥
IsOut (Open base) = Unit {0}
IsOut (Taken base) = Unit {0}

-- the seat has the turn, and this is its word
pub record Holds (word seat : ℕ) (views : List View) : Type 0 where
  pub view : View
  pub at : get_elem? views seat ≡ some view
  pub word_is : word ≡ word_of view.number
  pub number : Contains view.speaks view.number
  pub out : IsOut view.stage

module _ {T : Type 0} where
  -- a holder's stage: the slot is out with it, or at home with None while it has the value alone
  abbrev pub IsInStage : List Entry → ℕ → List (maybe.Option (Option T)) → ℕ → Stage → Type 0
  IsInStage past turn homes seat Idle = Unit {0}
  IsInStage past turn homes seat (Open base) = (turn ≡ suc seat) × (base ≡ past)
  IsInStage past turn homes seat (Taken base) = (turn ≡ suc seat) × (base ≡ past) × (get_elem? homes 0 ≡ some (some None))

  -- what holds of the view of each seat
  pub record Stands (past : List Entry) (turn next : ℕ) (owner : ℕ → ℕ) (giver : ℕ) (homes : List (maybe.Option (Option T))) (seat : ℕ) (view : View) : Type 0 where
    pub knows : IsPart view.speaks view.seen past
    pub hears : IsPart view.joined view.told past
    pub speaks : Owns owner next seat view.speaks
    pub joined : Owns owner next seat view.joined
    pub gives : view.spare < 2 ^ 32 → (view.spare ≡ next) × (giver ≡ seat)
    pub stage : IsInStage past turn homes seat view.stage

module _ {T : Type 0} (history : T → List Entry) (fact : T → Type 0) where
  -- the value is in its slot, with this history, and its fact holds
  pub record IsAtHome (past : List Entry) (homes : List (maybe.Option (Option T))) : Type 0 where
    pub value : T
    pub at : get_elem? homes 0 ≡ some (some (Some value))
    pub history_is : history value ≡ past
    pub meets : fact value

  -- the rule
  pub record IsInTurn (state : State (Option T) View) : Type 0 where
    -- the history: that of the value at home while the turn is free, and that which the holder took
    pub past : List Entry
    -- 0 where the turn is free, else the holder's seat and 1
    pub turn : ℕ
    -- the numbers below it were given away, and no others
    pub next : ℕ
    -- the seat that each of them was given to
    pub owner : ℕ → ℕ
    -- the seat that may give away the numbers that are left
    pub giver : ℕ
    pub one_word : length state.words ≡ 1
    -- Numbers: each that was given away has one seat that speaks for it, one seat has those that are left, and who wrote has a number that was given away
    pub bounded : next ≤ 2 ^ 32
    pub spoken : (number : ℕ) → number < next → SpeaksFor (owner number) number state.views
    pub left : next < 2 ^ 32 → MayGive giver next state.views
    pub written : All (λ entry. entry.worker < next) past
    -- The value: while the turn is free it is at home, with this history and its fact
    pub free : turn ≡ 0 → (slice_index state.words 0 ≡ 0) × IsAtHome past state.homes
    -- The turn: else one seat holds it, and the word names it
    pub held : (seat : ℕ) → turn ≡ suc seat → Holds (slice_index state.words 0) seat state.views
    -- Beginnings and own entries: the list of each view begins the history, and has all entries of the numbers that the view speaks for
    pub each : (seat : ℕ) (view : View) → get_elem? state.views seat ≡ some view → Stands past turn next owner giver state.homes seat view
