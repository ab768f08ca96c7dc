-- What a task holds of the pool, in bytes, and what its attempts were granted.
-- This project's own.
use Rattle.std.specs.Prelude.{◌≡◌, ℕ, ◌+◌, ◌-◌, ◌≤◌, ◌<◌, ◌^◌, Option, Some}

-- the bytes that the task holds, the most that it ever held, what its last attempt asked and was granted, how many of its attempts
-- were granted less than they asked, and what such a grant leaves it with, at least; a wait is no grant
pub record Held : Type 0 where
  pub held : ℕ
  pub peak : ℕ
  pub asked : ℕ
  pub got : Option ℕ
  pub shorts : ℕ
  pub floor : ℕ

-- an attempt was granted so much
pub record Grants (old new : Held) (want granted : ℕ) : Type 0 where
  pub most : granted ≤ want
  pub held : new.held ≡ old.held + granted
  pub asked : new.asked ≡ want
  pub got : new.got ≡ Some granted
  pub counts : old.shorts ≤ new.shorts
  pub short : granted < want → old.shorts < new.shorts
  pub small : new.held ≤ 2 ^ 50
  pub floor_is : new.floor ≡ old.floor
  pub floored : granted < want → new.floor ≤ new.held

-- bytes were given back
abbrev pub less_by : Held → ℕ → Held
less_by account bytes = record account { held = account.held - bytes }

-- the last attempt was granted less than it asked, and less than had to be got
pub record WasShort (account : Held) (must : ℕ) : Type 0 where
  pub granted : ℕ
  pub got : account.got ≡ Some granted
  pub short : granted < account.asked
  pub less : granted < must
