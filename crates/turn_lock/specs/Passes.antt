-- What contracts see of a pass, and what each call makes of it.
-- This project's own.
use Rattle.std.specs.Prelude.{ℕ, ◌⊎◌, ◌+◌, ◌^◌, ◌<◌, ◌≤◌, min, List, [], ◌∷◌, ◌++◌, Contains, Option, Some, None}
use Rattle.std.specs.Coded.{Coded}
use Rattle.atomic_table.specs.Seated.{TableId, table_id_coded}
use Rattle.pool_ledger.specs.declared.entry.Entry.{Entry}
use Rattle.turn_lock.specs.Parts.{longer}

-- which lock it is: that of its table, and no other has the same
abbrev pub LockId : Type 0
LockId = TableId

-- a lock's name as a ghost value, for a type above whose own value it is
abbrev pub lock_id_coded : Coded LockId
lock_id_coded = table_id_coded

-- what contracts see of a pass
pub record WorkerView : Type 0 where
  -- the lock that it is a pass of
  pub lock : LockId
  -- the worker that its entries are by
  pub number : ℕ
  -- the numbers that it speaks for: its own, and those of the passes that were joined into it
  pub speaks : List ℕ
  -- it may give away the numbers from this one on and below 2 ^ 32: none, where this is 2 ^ 32
  pub spare : ℕ
  -- a history that the lock's value had, with all entries of the numbers that it speaks for
  pub seen : List Entry
  -- while it holds the turn, the history of the value that it took
  pub base : Option (List Entry)

-- each number is one that the pass speaks for or may still give away
abbrev pub CoversAll : List ℕ → ℕ → Type 0
CoversAll speaks spare = (number : ℕ) → number < 2 ^ 32 → Contains speaks number ⊎ (spare ≤ number)

-- the first pass of a lock
abbrev pub first_pass : LockId → WorkerView
first_pass lock = record { lock = lock; number = 0; speaks = 0 ∷ []; spare = 1; seen = []; base = None }

-- the pass, with no number left to give away
abbrev pub without_spare : WorkerView → WorkerView
without_spare pass = record pass { spare = 2 ^ 32 }

-- the pass that the lowest number goes to, with all the rest
abbrev pub split_from : WorkerView → WorkerView
split_from pass = record { lock = pass.lock; number = pass.spare; speaks = pass.spare ∷ []; spare = pass.spare + 1; seen = pass.seen; base = None }

-- the pass with another joined in: it speaks for the numbers of both, and may give away what both might
abbrev pub joined_with : WorkerView → WorkerView → WorkerView
joined_with pass other = record { lock = pass.lock; number = pass.number; speaks = pass.speaks ++ other.speaks; spare = min pass.spare other.spare; seen = longer pass.seen other.seen; base = pass.base }

-- the pass with the turn, after it took a value with this history
abbrev pub holding : List Entry → WorkerView → WorkerView
holding base pass = record pass { base = Some base }

-- the pass without the turn, after it gave back a value with this history
abbrev pub resting : List Entry → WorkerView → WorkerView
resting seen pass = record pass { seen = seen; base = None }
