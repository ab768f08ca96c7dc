-- A memory state as its callers see it.
-- After Spark: BlockManager, which keeps blocks in memory and on the store disk. Pins are this project's own.
use Rattle.std.specs.Prelude.{ℕ, List, Option, Some, None, is_some, false, ◌≡◌}
use Rattle.std.specs.Coded.{Coded, coded_ℕ, coded_list}
use Rattle.std.specs.FinMap as map
use Rattle.spill_disk.specs.Files.{Files}
use Rattle.pool_ledger.specs.Sizes.{Sizes}
use Rattle.pool_ledger.specs.History.{History}
use Rattle.pool_ledger.specs.Blocks.{Resident}
use Rattle.block_store.specs.declared.block_copy.BlockCopy.{BlockCopy}
use Rattle.block_store.specs.Stores.{HeldBlock, Rows, rows_at}
use Rattle.block_store.specs.Copies.{copy_rows}

-- files as a ghost value
abbrev pub files_coded : Coded Files
files_coded = map.code coded_ℕ (coded_list coded_ℕ)

-- what a history says of a block in memory
abbrev pub resident_of : HeldBlock → Resident
resident_of held = record { dataset = held.dataset; part = held.part; size = held.size; level = held.level }

-- what is kept of blocks: those in memory in use order, the copies of evicted ones, and of the store disk its files,
-- where it tells them, and its count of faults
pub record Cache : Type 0 where
  pub blocks : List HeldBlock
  pub copies : List BlockCopy
  pub files : Option Files
  pub faults : ℕ

-- a memory state: the setup, the history, the number of entries for which there is room beyond those that are kept for
-- ends and unpins, and the blocks
pub record Memory : Type 0 where
  pub setup : Sizes
  pub history : History
  pub spare : ℕ
  pub cache : Cache

-- what rows a basis gives for a block, if it gives any
abbrev pub RowsByName : Type 0
RowsByName = ℕ → ℕ → Option Rows

-- where a basis gives rows for this block, these are the ones
abbrev pub AreGiven : RowsByName → ℕ → ℕ → Rows → Type 0
AreGiven given dataset part rows = (wanted : Rows) → given dataset part ≡ Some wanted → rows ≡ wanted

-- each block in memory, and each copy on a store disk that tells, has the rows that the basis gives for it; where the
-- disk doesn't tell, it gives none
pub record FitsRows (given : RowsByName) (cache : Cache) : Type 0 where
  pub resident : (dataset part : ℕ) (rows : Rows) → rows_at cache.blocks dataset part ≡ Some rows → AreGiven given dataset part rows
  pub copied : (dataset part : ℕ) (rows : Rows) → copy_rows cache.files cache.copies dataset part ≡ Some rows → AreGiven given dataset part rows
  pub untold : is_some cache.files ≡ false → (dataset part : ℕ) → given dataset part ≡ None

-- what is kept under a memory state: the same, where `spare` counts all entries for which there is room, and the number
-- of blocks for which there is room
pub record PoolView : Type 0 where
  pub setup : Sizes
  pub history : History
  pub spare : ℕ
  pub room : ℕ
  pub cache : Cache
