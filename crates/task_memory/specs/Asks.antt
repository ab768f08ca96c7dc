-- The asks for bytes that are being served, the outermost first.
-- This project's own.
use Rattle.std.specs.Prelude.{◌≡◌, ℕ, ◌+◌, ◌-◌, ◌≤◌, ◌<◌, min, List, length, slice_index_or, slice_set, sum_by}
use Rattle.task_memory.specs.declared.ask.Ask.{Ask}
use Rattle.task_pool.specs.Accounts.{Held, Grants, less_by}

-- it stands for an ask that isn't there
abbrev pub no_ask : Ask
no_ask = record { place = 0; need = 0; got = 0; freed = 0 }

-- the ask at a place
abbrev pub ask_at : List Ask → ℕ → Ask
ask_at asks k = slice_index_or asks k no_ask

-- the innermost ask
abbrev pub top_of : List Ask → Ask
top_of asks = ask_at asks (length asks - 1)

-- the bytes that the task holds for an ask: what was got for it, and what its consumer's spill gave back before it asked
abbrev pub held_for : Ask → ℕ
held_for ask = ask.got + ask.freed

-- the same of all asks
abbrev pub pending_of : List Ask → ℕ
pending_of asks = sum_by held_for asks

-- 1 where the ask lacks bytes
abbrev pub lacking : Ask → ℕ
lacking ask = min 1 (ask.need - ask.got)

-- an attempt for the innermost ask
pub record Tries (old new : Held) (asks asks' : List Ask) (want : ℕ) : Type 0 where
  pub granted : ℕ
  pub grants : Grants old new want granted
  pub top : asks' ≡ slice_set asks (length asks - 1) (record (top_of asks) { got = (top_of asks).got + granted })

-- what a spill freed was given back, and what the innermost ask lacks was attempted
pub record Settles (old new : Held) (asks asks' : List Ask) (given : ℕ) : Type 0 where
  pub lacks : (top_of asks).got < (top_of asks).need → Tries (less_by old given) new asks asks' ((top_of asks).need - (top_of asks).got)
  pub meets : (top_of asks).need ≤ (top_of asks).got → (new ≡ less_by old given) × (asks' ≡ asks)
