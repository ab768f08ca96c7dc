-- The workers of one manager, numbered from 0, and what each of them finds at the end.
-- This project's own.
use Rattle.std.specs.Prelude.{◌≡◌, ℕ, ◌+◌, ◌<◌, ◌^◌, List, [], ◌∷◌, length, None, slice_index_or}
use Rattle.pool_ledger.specs.declared.entry.Entry.{Entry}
use Rattle.turn_lock.specs.Passes.{LockId, WorkerView}
use Rattle.turn_lock.specs.Parts.{IsPart}

-- a new worker of this number, which may give away the numbers from `spare` on
abbrev pub new_worker : LockId → ℕ → ℕ → WorkerView
new_worker lock number spare = record { lock = lock; number = number; speaks = number ∷ []; spare = spare; seen = []; base = None }

-- worker `number` of so many, of which the last may give away the other numbers
pub record IsWorker (lock : LockId) (count number : ℕ) (worker : WorkerView) : Type 0 where
  pub lock_is : worker.lock ≡ lock
  pub number_is : worker.number ≡ number
  pub speaks_is : worker.speaks ≡ number ∷ []
  pub last : number + 1 ≡ count → worker.spare ≡ count
  pub others : number + 1 < count → worker.spare ≡ 2 ^ 32
  pub free : worker.base ≡ None

-- all workers of a manager, in the order of their numbers
abbrev pub AreWorkers : LockId → ℕ → List WorkerView → Type 0
AreWorkers lock count workers =
    (length workers ≡ count) × ((number : ℕ) (any : WorkerView) → number < count → IsWorker lock count number (slice_index_or workers number any))

-- new workers, which have seen nothing
abbrev pub AreNew : List WorkerView → Type 0
AreNew workers = (number : ℕ) (any : WorkerView) → number < length workers → (slice_index_or workers number any).seen ≡ []

-- the journal begins with all that each worker has seen, and has of each worker's entries just those that it made
abbrev pub HasAll : List WorkerView → List Entry → Type 0
HasAll workers journal =
    (number : ℕ) (any : WorkerView) → number < length workers → IsPart (number ∷ []) (slice_index_or workers number any).seen journal
