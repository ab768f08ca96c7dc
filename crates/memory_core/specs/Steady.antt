-- What a memory state keeps of its history, and how it goes on.
-- This project's own.
use Rattle.std.specs.Prelude.{ℕ, zero, suc, ◌≡◌, ◌+◌, ◌*◌, ◌≤◌, ◌<◌, ◌^◌, true, false, min, Bool, Option, Some, None, List, [], ◌∷◌, ◌++◌, map, is_some}
use Rattle.pool_ledger.specs.declared.entry.Event.{Event}
use Rattle.pool_ledger.specs.declared.entry.Event.TheVariants.{Begin, Attempt, Release, End, Refused, Pin, Unpin, Grow}
use Rattle.pool_ledger.specs.Sizes.{Sizes, IsInRange}
use Rattle.pool_ledger.specs.declared.entry.Level.{Level}
use Rattle.pool_ledger.specs.History.{History, CanGrow, held, open_task, total, was_begun}
use Rattle.pool_ledger.specs.Blocks.{Name, Resident, is_resident, leaves_copy, pin_of, residents, unpin_of, worker_pin}
use Rattle.pool_ledger.specs.Answers.{admission, growth}
use Rattle.pool_ledger.specs.Journal.{journal_of}
use Rattle.pool_ledger.specs.Legal.{IsLegal, IsPermitted, MayFollow, pending}
use Rattle.pool_ledger.specs.Workers.{Continues}
use Rattle.pool_laws.specs.Growing.{entry_by}
use Rattle.pool_laws.specs.Evicting.{IsEvicting, evicting_attempt_by}
use Rattle.block_store.specs.declared.block.Block.{Block}
use Rattle.block_store.specs.Stores.{HeldBlock, held_at, held_of, pins_at, unpinned, without}
use Rattle.block_store.specs.Copies.{copy_rows, has_copy}
use Rattle.memory_core.specs.Caches.{AreGiven, Cache, FitsRows, Memory, RowsByName, resident_of}
use Rattle.memory_core.specs.Changes.{Clears, ReadsAlone, RemovesInTurn, StillFits, StillFitsWith}
use Rattle.memory_core.specs.Evictions.{EvictsInTurn, admission_by, refusal_by}

-- 1 for a worker with a task
abbrev pub end_owed : Option ℕ → ℕ
end_owed None = 0
end_owed (Some task) = 1

-- 1 for a worker with a pin
abbrev pub unpin_owed : Option Name → ℕ
unpin_owed None = 0
unpin_owed (Some name) = 1

-- the number of ends and unpins that the workers below a number still owe: one for each that has a task, and one for each that has a pin
abbrev pub owed : ℕ → History → ℕ
owed zero history = 0
owed (suc worker) history = owed worker history + end_owed (open_task history worker) + unpin_owed (worker_pin history worker)

-- the blocks are those of the history, in use order, each with its pins, and each copy was left by an eviction
pub record IsInStep (history : History) (cache : Cache) : Type 0 where
  pub blocks : map resident_of cache.blocks ≡ residents history
  pub pins : (dataset part : ℕ) → pins_at cache.blocks dataset part + total (unpin_of dataset part) history ≡ total (pin_of dataset part) history
  pub copies : (dataset part : ℕ) → has_copy cache.copies dataset part ≡ true → 0 < total (leaves_copy dataset part) history

-- its sizes are in range, each entry was permitted, and the blocks are those of the history
pub record IsAmid (setup : Sizes) (history : History) (cache : Cache) : Type 0 where
  pub range : IsInRange setup.maximum setup.region setup.workers
  pub permitted : IsPermitted setup history
  pub in_step : IsInStep history cache

-- the same, and no eviction is pending
pub record IsSteady (setup : Sizes) (history : History) (cache : Cache) : Type 0 where
  pub amid : IsAmid setup history cache
  pub whole : pending history ≡ []

-- whether an event leaves all blocks, pins and copies as they were
abbrev pub is_quiet : Event → Bool
is_quiet (Begin task) = true
is_quiet (Attempt task asked moved evictions got) = true
is_quiet (Release task freed) = true
is_quiet (End task freed) = true
is_quiet (Refused dataset part size borrowed evictions) = true
is_quiet (Pin dataset part copy) = copy
is_quiet (Grow bytes) = true
is_quiet _ = false

-- how the state goes on

-- nothing is pending after, the worker, who owed so many entries, then owes so many, and all that was added is its own
pub record GoesSteadily (setup : Sizes) (before after : History) (worker was now : ℕ) : Type 0 where
  pub whole : pending after ≡ []
  pub owed_is : owed setup.workers after + was ≡ owed setup.workers before + now
  pub own : Continues worker (journal_of before) (journal_of after)

-- where a worker's event may come, the state goes on with it
pub record StatesGoOn : Type 0 where
  pub legal : (setup : Sizes) (history : History) (cache : Cache) → IsSteady setup history cache → IsLegal setup history
  pub owes_nothing : (workers : ℕ) → owed workers [] ≡ 0
  pub owes_few : (workers : ℕ) (history : History) → owed workers history ≤ 2 * workers
  pub begins : (setup : Sizes) (history : History) (cache : Cache) (worker task : ℕ) → IsSteady setup history cache → worker < setup.workers
      → open_task history worker ≡ None → was_begun history task ≡ false
      → MayFollow setup history (entry_by worker (Begin task)) × GoesSteadily setup history (entry_by worker (Begin task) ∷ history) worker 0 1
  pub releases : (setup : Sizes) (history : History) (cache : Cache) (worker task bytes : ℕ) → IsSteady setup history cache → worker < setup.workers
      → open_task history worker ≡ Some task
      → MayFollow setup history (entry_by worker (Release task (min bytes (held history task))))
      × GoesSteadily setup history (entry_by worker (Release task (min bytes (held history task))) ∷ history) worker 0 0
  pub ends : (setup : Sizes) (history : History) (cache : Cache) (worker task : ℕ) → IsSteady setup history cache → worker < setup.workers
      → open_task history worker ≡ Some task
      → MayFollow setup history (entry_by worker (End task (held history task))) × GoesSteadily setup history (entry_by worker (End task (held history task)) ∷ history) worker 1 0
  pub grows : (setup : Sizes) (history : History) (cache : Cache) (worker bytes : ℕ) → IsSteady setup history cache → worker < setup.workers
      → CanGrow setup history worker bytes
      → MayFollow setup history (entry_by worker (Grow bytes)) × GoesSteadily setup history (entry_by worker (Grow bytes) ∷ history) worker 0 0
  pub pins : (setup : Sizes) (history : History) (worker dataset part : ℕ) → worker < setup.workers → worker_pin history worker ≡ None
      → GoesSteadily setup history (entry_by worker (Pin dataset part false) ∷ history) worker 0 1
  pub reads : (setup : Sizes) (history : History) (cache : Cache) (worker dataset part : ℕ) → IsSteady setup history cache → worker < setup.workers
      → is_resident history dataset part ≡ false → worker_pin history worker ≡ None → has_copy cache.copies dataset part ≡ true
      → MayFollow setup history (entry_by worker (Pin dataset part true)) × GoesSteadily setup history (entry_by worker (Pin dataset part true) ∷ history) worker 0 0
  pub unpins : (setup : Sizes) (history : History) (worker dataset part : ℕ) (name : Name) → worker < setup.workers → worker_pin history worker ≡ Some name
      → GoesSteadily setup history (entry_by worker (Unpin dataset part) ∷ history) worker 1 0
  pub attempts : (setup : Sizes) (base amid : History) (had has : Cache) (worker task asked : ℕ) → IsSteady setup base had → worker < setup.workers
      → open_task base worker ≡ Some task → 1 ≤ asked → asked ≤ 2 ^ 50
      → EvictsInTurn worker (growth setup base asked).evicted base had amid has → IsEvicting amid base worker None (growth setup base asked).evicted []
      → MayFollow setup amid (evicting_attempt_by setup base worker task asked) × GoesSteadily setup base (evicting_attempt_by setup base worker task asked ∷ amid) worker 0 0
  pub admits : (setup : Sizes) (base amid : History) (had has : Cache) (worker dataset part size : ℕ) (level : Level) → IsSteady setup base had → worker < setup.workers
      → is_resident base dataset part ≡ false → (admission setup base dataset size).admitted ≡ true
      → EvictsInTurn worker (admission setup base dataset size).evicted base had amid has → IsEvicting amid base worker (Some dataset) (admission setup base dataset size).evicted []
      → MayFollow setup amid (admission_by setup base worker dataset part size level) × GoesSteadily setup base (admission_by setup base worker dataset part size level ∷ amid) worker 0 0
  pub refuses : (setup : Sizes) (base amid : History) (had has : Cache) (worker dataset part size : ℕ) → IsSteady setup base had → worker < setup.workers
      → is_resident base dataset part ≡ false → (admission setup base dataset size).admitted ≡ false
      → EvictsInTurn worker (admission setup base dataset size).evicted base had amid has → IsEvicting amid base worker (Some dataset) (admission setup base dataset size).evicted []
      → MayFollow setup amid (refusal_by setup base worker dataset part size) × GoesSteadily setup base (refusal_by setup base worker dataset part size ∷ amid) worker 0 0
  pub removes : (setup : Sizes) (before after : History) (had has : List HeldBlock) (worker dataset from end : ℕ) (gone : List Resident) → worker < setup.workers → pending before ≡ []
      → RemovesInTurn worker dataset from end gone before had after has → GoesSteadily setup before after worker 0 0
  -- rows
  pub evicts : (worker : ℕ) (blocks : List Resident) (before after : History) (had has : Cache) → EvictsInTurn worker blocks before had after has → StillFits had has
  pub clears : (worker dataset : ℕ) (before after : Memory) → Clears worker dataset before after → StillFits before.cache after.cache
  pub admits_rows : (block : Block) (before after : Cache) → after ≡ record before { blocks = before.blocks ++ held_of 0 block ∷ [] } → StillFitsWith block before after
  pub pins_rows : (dataset part was now : ℕ) (block : Block) (before after : Cache) → held_at before.blocks dataset part ≡ Some (held_of was block)
      → after ≡ record before { blocks = without dataset part before.blocks ++ held_of now block ∷ [] } → StillFits before after
  pub unpins_rows : (dataset part : ℕ) (before after : Cache) → after ≡ record before { blocks = map (unpinned dataset part) before.blocks } → StillFits before after
  pub hits_rows : (dataset part was : ℕ) (block : Block) (before : Cache) → held_at before.blocks dataset part ≡ Some (held_of was block)
      → (given : RowsByName) → FitsRows given before → AreGiven given dataset part block.page.rows
  pub copies_rows : (dataset part : ℕ) (block : Block) (before : Cache) → (is_some before.files ≡ true → copy_rows before.files before.copies dataset part ≡ Some block.page.rows)
      → (given : RowsByName) → FitsRows given before → AreGiven given dataset part block.page.rows
  pub reads_alone : (before after : Cache) → ReadsAlone before after → StillFits before after
