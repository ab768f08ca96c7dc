-- What reads do to the number of turns that a source has left.
-- This project's own.
use Rattle.std.specs.Prelude.{ℕ, ◌≤◌, ◌<◌, Result, MatchResult}

-- a read that gives a byte lowers the number of turns, and no other read raises it
abbrev pub TakesTurn : {E : Type 0} → ℕ → ℕ → Result ℕ E → Type 0
TakesTurn before now result = (now ≤ before) × MatchResult result (λ n. 0 < n → now < before) (λ _. Unit {0})
