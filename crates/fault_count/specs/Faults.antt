-- When an object of the outside may answer that it failed: where its count of faults rose. And an exact count.
-- This project's own.
use Rattle.std.specs.Prelude.{◌≡◌, ◌≤◌, ◌+◌, ◌-◌, ◌^◌, ℕ, min, Result, IsErrOf, OnErr, OnOk}

-- a count of faults is greater now, or stands at the last `u64`
abbrev pub Rose : ℕ → ℕ → Type 0
Rose before now = min (before + 1) (2 ^ 64 - 1) ≤ now

-- a count of faults never falls, and an `Err` comes only where it rose
pub record HasCause {T E : Type 0} (before now : ℕ) (result : Result T E) : Type 0 where
  pub later : before ≤ now
  pub failed : OnErr result (Rose before now)

-- a count of faults never falls, and this `Err` comes only where it rose
pub record HasCauseAt {T E : Type 0} (fault : E) (before now : ℕ) (result : Result T E) : Type 0 where
  pub later : before ≤ now
  pub failed : IsErrOf result fault → Rose before now

-- the count rose by one, as far as a `u64` counts, exactly where an `Err` came; an `Ok` leaves it as it was
pub record Counts {T E : Type 0} (before now : ℕ) (result : Result T E) : Type 0 where
  pub raised : OnErr result (now ≡ min (before + 1) (2 ^ 64 - 1))
  pub kept : OnOk result (now ≡ before)

-- the count rose by one, as far as a `u64` counts, exactly where this `Err` came; any other answer leaves it as it was
pub record CountsAt {T E : Type 0} (fault : E) (before now : ℕ) (result : Result T E) : Type 0 where
  pub raised : IsErrOf result fault → now ≡ min (before + 1) (2 ^ 64 - 1)
  pub kept : (IsErrOf result fault → ⊥) → now ≡ before
