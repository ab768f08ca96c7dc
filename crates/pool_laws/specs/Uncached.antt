-- Histories in which no block was ever stored, in bytes.
-- After Spark: UnifiedMemoryManager, where no storage level was given.
use Rattle.std.specs.Prelude.{ℕ, ◌≡◌, ◌≢◌, ◌-◌, ◌≤◌, ◌<◌, ◌^◌, ◌==◌, min, if◌then◌else◌, Option, Some, None, []}
use Rattle.pool_ledger.specs.Sizes.{Sizes}
use Rattle.pool_ledger.specs.History.{History, held, open_task, maximum, execution_free}
use Rattle.pool_ledger.specs.Blocks.{residents, stored, storage_free, victims}
use Rattle.pool_ledger.specs.Answers.{growth, answer}
use Rattle.pool_ledger.specs.Legal.{MayFollow}
use Rattle.pool_laws.specs.Growing.{attempt_by}
use Rattle.pool_laws.specs.Laws.{IsIdle}

-- what an ask moves where there are no blocks: what it lacks, as far as storage has it free
abbrev pub moved_for : Sizes → History → ℕ → ℕ
moved_for setup history asked = min (asked - execution_free setup history) (storage_free setup history)

-- nothing is in memory, nothing can be evicted, and an ask takes free bytes alone
pub record StoresNothing (setup : Sizes) (history : History) : Type 0 where
  pub no_block : residents history ≡ []
  pub no_bytes : stored history ≡ 0
  pub no_victims : (need : ℕ) (except : Option ℕ) → victims history need except ≡ (if need == 0 then Some [] else None)
  pub grows : (asked : ℕ)
      → growth setup history asked ≡ record { unused = moved_for setup history asked; need = 0; evicted = []; moved = moved_for setup history asked }

-- each attempt of a worker's task may follow, with what moves and what is granted by the rules
abbrev pub MayAlwaysAttempt : Sizes → History → Type 0
MayAlwaysAttempt setup history =
    (worker task asked : ℕ) → worker < setup.workers → open_task history worker ≡ Some task → 1 ≤ asked → asked ≤ 2 ^ 50
    → MayFollow setup history (attempt_by setup history worker task asked)

-- every other task that a worker has open holds nothing and isn't active
abbrev pub HoldsAlone : History → ℕ → Type 0
HoldsAlone history task = (worker other : ℕ) → open_task history worker ≡ Some other → other ≢ task → IsIdle history other

-- a task that holds alone is granted what it asks, as far as there is any, and never told to wait
abbrev pub LoneTaskIsGranted : Sizes → History → Type 0
LoneTaskIsGranted setup history =
    (task asked : ℕ) → HoldsAlone history task → answer setup history task asked ≡ Some (min asked (maximum setup history - held history task))
