-- How a legal history grows by an entry that is no eviction.
-- This project's own.
use Rattle.std.specs.Prelude.{ℕ, ◌≡◌, ◌≤◌, ◌<◌, ◌^◌, true, false, Some, None, [], ◌∷◌}
use Rattle.pool_ledger.specs.declared.entry.Entry.{Entry}
use Rattle.pool_ledger.specs.declared.entry.Event.{Event}
use Rattle.pool_ledger.specs.declared.entry.Event.TheVariants.{Begin, Attempt, Release, End, Grow}
use Rattle.pool_ledger.specs.Sizes.{Sizes}
use Rattle.pool_ledger.specs.History.{History, CanGrow, held, was_begun, open_task}
use Rattle.pool_ledger.specs.Answers.{growth, answer}
use Rattle.pool_ledger.specs.Legal.{is_eviction, settled, is_own_turn, MayFollow, IsLegal}

-- an event of a worker
abbrev pub entry_by : ℕ → Event → Entry
entry_by worker event = record { worker = worker; event = event }

-- where no eviction is pending, it is any worker's turn, and nothing is unsettled
pub record IsWhole (history : History) : Type 0 where
  pub any_turn : (worker : ℕ) → is_own_turn history worker ≡ true
  pub all_settled : settled history ≡ history

-- after a legal history, an entry that may follow and is no eviction leaves it legal
abbrev pub StaysLegal : Sizes → History → Type 0
StaysLegal setup history = (entry : Entry) → MayFollow setup history entry → is_eviction entry.event ≡ false → IsLegal setup (entry ∷ history)

-- a worker without a task may begin one that was never begun
abbrev pub MayBegin : Sizes → History → Type 0
MayBegin setup history =
    (worker task : ℕ) → worker < setup.workers → open_task history worker ≡ None → was_begun history task ≡ false
    → MayFollow setup history (entry_by worker (Begin task))

-- the attempt of a worker's task, with what moves and what is granted by the rules, where it evicts nothing
abbrev pub attempt_by : Sizes → History → ℕ → ℕ → ℕ → Entry
attempt_by setup history worker task asked =
    entry_by worker (Attempt task asked (growth setup history asked).moved 0 (answer setup history task asked))

-- a worker's task may make that attempt
abbrev pub MayAttempt : Sizes → History → Type 0
MayAttempt setup history =
    (worker task asked : ℕ) → worker < setup.workers → open_task history worker ≡ Some task → 1 ≤ asked → asked ≤ 2 ^ 50
    → (growth setup history asked).evicted ≡ [] → MayFollow setup history (attempt_by setup history worker task asked)

-- a worker's task may release at most what it holds
abbrev pub MayRelease : Sizes → History → Type 0
MayRelease setup history =
    (worker task freed : ℕ) → worker < setup.workers → open_task history worker ≡ Some task → freed ≤ held history task
    → MayFollow setup history (entry_by worker (Release task freed))

-- a worker's task may end, and then frees all that it holds
abbrev pub MayEnd : Sizes → History → Type 0
MayEnd setup history =
    (worker task : ℕ) → worker < setup.workers → open_task history worker ≡ Some task
    → MayFollow setup history (entry_by worker (End task (held history task)))

-- the first worker may make the pools larger
abbrev pub MayGrow : Sizes → History → Type 0
MayGrow setup history = (worker bytes : ℕ) → worker < setup.workers → CanGrow setup history worker bytes → MayFollow setup history (entry_by worker (Grow bytes))

-- all of these
pub record Grows (setup : Sizes) (history : History) : Type 0 where
  pub whole : IsWhole history
  pub stays : StaysLegal setup history
  pub begins : MayBegin setup history
  pub attempts : MayAttempt setup history
  pub releases : MayRelease setup history
  pub ends : MayEnd setup history
  pub grows : MayGrow setup history
