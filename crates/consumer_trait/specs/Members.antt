-- A list of consumers, and what a call on one of them does to it.
-- This project's own.
use Rattle.std.specs.Prelude.{◌≡◌, ℕ, false, List, [], None, slice_index_or, slice_set}
use Rattle.consumer_trait.specs.States.{State, Rest}

-- a consumer that was never used: it stands for one that isn't there
abbrev pub blank : State
blank = record { kind = None; entries = []; fed = 0; stage = Rest; used = 0; least = 0; serves = λ _. false }

-- the consumer at a place
abbrev pub state_at : List State → ℕ → State
state_at states i = slice_index_or states i blank

-- no other consumer changed than the one at a place
abbrev pub OnlyAt : List State → List State → ℕ → Type 0
OnlyAt before after i = after ≡ slice_set before i (state_at after i)
