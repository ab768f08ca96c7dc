-- What evictions change, and the asks and admissions that they are for.
-- After Spark: MemoryStore.evictBlocksToFreeSpace, BlockManager.dropFromMemory. Copies and fates are this project's own.
use Rattle.std.specs.Prelude.{ℕ, ◌≡◌, ◌≤◌, true, false, List, [], ◌∷◌, ◌++◌, length, is_some}
use Rattle.fault_count.specs.Faults.{Rose}
use Rattle.pool_ledger.specs.declared.entry.Entry.{Entry}
use Rattle.pool_ledger.specs.declared.entry.Event.TheVariants.{Admit, Refused as RefusedEvent}
use Rattle.pool_ledger.specs.declared.entry.Fate.{Fate}
use Rattle.pool_ledger.specs.declared.entry.Fate.TheVariants.{Disk as ToDisk, Gone}
use Rattle.pool_ledger.specs.declared.entry.Level.TheVariants.{Memory as InMemory, Disk as OnDisk}
use Rattle.pool_ledger.specs.declared.entry.Level.{Level}
use Rattle.pool_ledger.specs.Sizes.{Sizes}
use Rattle.pool_ledger.specs.History.{History}
use Rattle.pool_ledger.specs.Blocks.{Resident, is_resident}
use Rattle.pool_ledger.specs.Answers.{growth, admission}
use Rattle.pool_laws.specs.Growing.{entry_by}
use Rattle.pool_laws.specs.Evicting.{eviction_by, evicting_attempt_by}
use Rattle.block_store.specs.declared.block.Block.{Block}
use Rattle.block_store.specs.Stores.{held_of, rows_at, without}
use Rattle.block_store.specs.Copies.{copy_rows, has_copy}
use Rattle.block_store.specs.Evictions.{BeginsAtMost, KeepsOthers, WritesRows}
use Rattle.memory_core.specs.declared.admission.Admission.{Admission as Answer}
use Rattle.memory_core.specs.declared.admission.Admission.TheVariants.{Admitted, Refused, Resident as AlreadyResident}
use Rattle.memory_core.specs.Caches.{Cache, Memory}

-- Evictions

-- the copies, the files and the count of faults are as before
pub record KeepsStore (before after : Cache) : Type 0 where
  pub copies : after.copies ≡ before.copies
  pub files : after.files ≡ before.files
  pub faults : after.faults ≡ before.faults

-- a block that may be evicted went out of memory with this fate
pub record Drops (block : Resident) (fate : Fate) (before after : Cache) : Type 0 where
  -- it went, and the others stay in their order
  pub blocks : after.blocks ≡ without block.dataset block.part before.blocks
  -- one of level memory is dropped
  pub memory : block.level ≡ InMemory → (fate ≡ Gone) × KeepsStore before after
  -- for one of level disk that has a copy nothing is written
  pub copied : block.level ≡ OnDisk → has_copy before.copies block.dataset block.part ≡ true → (fate ≡ ToDisk) × KeepsStore before after
  -- one that has none is dropped only where the disk failed in its write, want of memory aside
  pub gone : block.level ≡ OnDisk → fate ≡ Gone → Rose before.faults after.faults
  -- one that went to disk has a copy, with the rows that it had in memory if it had no copy before
  pub copy : fate ≡ ToDisk → has_copy after.copies block.dataset block.part ≡ true
  pub rows : fate ≡ ToDisk → has_copy before.copies block.dataset block.part ≡ false → is_some before.files ≡ true
      → copy_rows after.files after.copies block.dataset block.part ≡ rows_at before.blocks block.dataset block.part
  -- one that didn't gained none
  pub lost : (fate ≡ ToDisk → ⊥) → after.copies ≡ before.copies
  -- no file of the store disk changed but the one that was made for its copy, and has its page then
  pub written : fate ≡ ToDisk → has_copy before.copies block.dataset block.part ≡ false
      → WritesRows before.files after.files (rows_at before.blocks block.dataset block.part)
  -- nor where it got none, but for at most one that was begun
  pub begun : (fate ≡ ToDisk → ⊥) → BeginsAtMost before.files after.files
  -- the copies of the other blocks stay
  pub others : KeepsOthers block.dataset block.part before.files before.copies after.files after.copies
  pub tells : is_some after.files ≡ is_some before.files
  pub later : before.faults ≤ after.faults

-- a worker evicted these blocks, in this order
abbrev pub EvictsInTurn : ℕ → List Resident → History → Cache → History → Cache → Type 0
EvictsInTurn worker [] before had after has = (after ≡ before) × (has ≡ had)
EvictsInTurn worker (block ∷ blocks) before had after has =
    (fate : Fate) × (amid : Cache) × Drops block fate had amid × EvictsInTurn worker blocks (eviction_by worker block fate ∷ before) amid after has

-- Asks and admissions

-- the victims of an ask's growth were evicted, and then its attempt was added
abbrev pub Attempts : ℕ → ℕ → ℕ → Memory → Memory → Type 0
Attempts worker task asked before after =
    (amid : History) × EvictsInTurn worker (growth before.setup before.history asked).evicted before.history before.cache amid after.cache
    × (after.history ≡ evicting_attempt_by before.setup before.history worker task asked ∷ amid)

-- the admission of a block by a worker, with what the rules give it after what came before the evictions
abbrev pub admission_by : Sizes → History → ℕ → ℕ → ℕ → ℕ → Level → Entry
admission_by setup base worker dataset part size level =
    entry_by worker (Admit dataset part size level (admission setup base dataset size).borrowed (length (admission setup base dataset size).evicted))

-- the same of its refusal
abbrev pub refusal_by : Sizes → History → ℕ → ℕ → ℕ → ℕ → Entry
refusal_by setup base worker dataset part size =
    entry_by worker (RefusedEvent dataset part size (admission setup base dataset size).borrowed (length (admission setup base dataset size).evicted))

-- the victims of a block's admission were evicted, and then the block was put behind the others
abbrev pub Admits : ℕ → Block → ℕ → Memory → Memory → Type 0
Admits worker block size before after =
    (amid : History) × (room : Cache) × EvictsInTurn worker (admission before.setup before.history block.dataset size).evicted before.history before.cache amid room
    × (after.history ≡ admission_by before.setup before.history worker block.dataset block.part size block.level ∷ amid)
    × (after.cache ≡ record room { blocks = room.blocks ++ held_of 0 block ∷ [] })

-- the victims of a block's admission were evicted, and there was still no room for it
abbrev pub EvictsInVain : ℕ → Block → ℕ → Memory → Memory → Type 0
EvictsInVain worker block size before after =
    (amid : History) × EvictsInTurn worker (admission before.setup before.history block.dataset size).evicted before.history before.cache amid after.cache
    × (after.history ≡ refusal_by before.setup before.history worker block.dataset block.part size ∷ amid)

-- what a block is answered, and what was done with it
abbrev pub IsAnswered : Answer → ℕ → Block → ℕ → Memory → Memory → Type 0
IsAnswered Admitted worker block size before after =
    (is_resident before.history block.dataset block.part ≡ false)
    × ((admission before.setup before.history block.dataset size).admitted ≡ true) × Admits worker block size before after
IsAnswered Refused worker block size before after =
    (is_resident before.history block.dataset block.part ≡ false)
    × ((admission before.setup before.history block.dataset size).admitted ≡ false) × EvictsInVain worker block size before after
IsAnswered AlreadyResident worker block size before after =
    (is_resident before.history block.dataset block.part ≡ true) × (after ≡ before)
