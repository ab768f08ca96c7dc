-- What pins and removals change, and that rows stay.
-- This project's own, after Spark's BlockManager (getLocalValues, removeRdd).
use Rattle.std.specs.Prelude.{ℕ, ◌≡◌, ◌+◌, ◌≤◌, true, false, not, ◌==◌, ◌&&◌, nat_lt, Bool, List, [], ◌∷◌, ◌++◌, filter, map, is_some, Some}
use Rattle.std.specs.List.{list_any}
use Rattle.std.specs.List.Sorted.{IsPermutation}
use Rattle.std.specs.Arc.{arc_value}
use Rattle.fault_count.specs.Faults.{Rose}
use Rattle.pool_ledger.specs.declared.entry.Event.TheVariants.{Pin, Remove}
use Rattle.pool_ledger.specs.declared.entry.Level.TheVariants.{Disk as OnDisk}
use Rattle.pool_ledger.specs.History.{History}
use Rattle.pool_ledger.specs.Blocks.{Resident, is_pinned, is_resident}
use Rattle.pool_laws.specs.Growing.{entry_by}
use Rattle.block_store.specs.declared.block.Block.{Block}
use Rattle.block_store.specs.Stores.{HeldBlock, held_at, held_of, pins_at, without}
use Rattle.block_store.specs.Copies.{copy_rows, has_copy, has_file, only_of}
use Rattle.block_store.specs.Evictions.{KeepsDatasets, file_at}
use Rattle.memory_core.specs.declared.pinned.Pinned.{Pinned}
use Rattle.memory_core.specs.declared.pinned.Pinned.TheVariants.{Hit, OnDisk as ReadBack, Miss}
use Rattle.memory_core.specs.Caches.{AreGiven, Cache, FitsRows, Memory, RowsByName, resident_of}
pub use Rattle.memory_core.specs.Evictions.{Attempts, EvictsInTurn, IsAnswered}

-- Pins

-- the blocks, the copies and the files are as before
pub record ReadsAlone (before after : Cache) : Type 0 where
  pub blocks : after.blocks ≡ before.blocks
  pub copies : after.copies ≡ before.copies
  pub files : after.files ≡ before.files
  pub later : before.faults ≤ after.faults

-- the block is the one in memory; it then is the last one, with a pin more
pub record IsHit (worker dataset part : ℕ) (block : Block) (before after : Memory) : Type 0 where
  pub resident : is_resident before.history dataset part ≡ true
  pub value : held_at before.cache.blocks dataset part ≡ Some (held_of (pins_at before.cache.blocks dataset part) block)
  pub history : after.history ≡ entry_by worker (Pin dataset part false) ∷ before.history
  pub cache : after.cache ≡ record before.cache {
    blocks = without dataset part before.cache.blocks ++ held_of (pins_at before.cache.blocks dataset part + 1) block ∷ [];
  }

-- the block isn't in memory; it is its copy, read back
pub record IsReadBack (worker dataset part : ℕ) (block : Block) (before after : Memory) : Type 0 where
  pub absent : is_resident before.history dataset part ≡ false
  pub copied : has_copy before.cache.copies dataset part ≡ true
  pub rows : is_some before.cache.files ≡ true → copy_rows before.cache.files before.cache.copies dataset part ≡ Some block.page.rows
  pub dataset_is : block.dataset ≡ dataset
  pub part_is : block.part ≡ part
  pub level_is : block.level ≡ OnDisk
  pub history : after.history ≡ entry_by worker (Pin dataset part true) ∷ before.history
  pub cache : ReadsAlone before.cache after.cache

-- the block isn't in memory; if it has a copy, a disk that tells failed
pub record IsMissed (dataset part : ℕ) (before after : Memory) : Type 0 where
  pub absent : is_resident before.history dataset part ≡ false
  pub failed : has_copy before.cache.copies dataset part ≡ true → is_some before.cache.files ≡ true → Rose before.cache.faults after.cache.faults
  pub history : after.history ≡ before.history
  pub cache : ReadsAlone before.cache after.cache

-- what a pin is answered, and what was done for it
abbrev pub IsPinned : Pinned → ℕ → ℕ → ℕ → Memory → Memory → Type 0
IsPinned (Hit block) worker dataset part before after = IsHit worker dataset part (arc_value block) before after
IsPinned (ReadBack block) worker dataset part before after = IsReadBack worker dataset part (arc_value block) before after
IsPinned Miss worker dataset part before after = IsMissed dataset part before after

-- what a pin hands out has the rows that a basis gives for the block, if the blocks and copies had them
abbrev pub HandsGiven : Pinned → ℕ → ℕ → Cache → Type 0
HandsGiven (Hit block) dataset part before = (given : RowsByName) → FitsRows given before → AreGiven given dataset part (arc_value block).page.rows
HandsGiven (ReadBack block) dataset part before = (given : RowsByName) → FitsRows given before → AreGiven given dataset part (arc_value block).page.rows
HandsGiven Miss dataset part before = Unit {0}

-- a block that is handed out is the one that was asked for
abbrev pub IsNamed : Pinned → ℕ → ℕ → Type 0
IsNamed (Hit block) dataset part = ((arc_value block).dataset ≡ dataset) × ((arc_value block).part ≡ part)
IsNamed (ReadBack block) dataset part = ((arc_value block).dataset ≡ dataset) × ((arc_value block).part ≡ part)
IsNamed Miss dataset part = Unit {0}

-- Removals

-- a worker removed these blocks of a dataset, ascending by part, from this part up to before that one
abbrev pub RemovesInTurn : ℕ → ℕ → ℕ → ℕ → List Resident → History → List HeldBlock → History → List HeldBlock → Type 0
RemovesInTurn worker dataset from end [] before had after has = (from ≤ end) × (after ≡ before) × (has ≡ had)
RemovesInTurn worker dataset from end (block ∷ blocks) before had after has =
    (block.dataset ≡ dataset) × (from ≤ block.part)
    × RemovesInTurn worker dataset (block.part + 1) end blocks
    (entry_by worker (Remove dataset block.part block.size) ∷ before) (without dataset block.part had) after has

-- whether a block in memory is of this dataset and no pin keeps it
abbrev pub may_be_removed : ℕ → HeldBlock → Bool
may_be_removed dataset held = held.dataset == dataset && not (nat_lt 0 held.pins)

-- the same, and its part is below this
abbrev pub may_be_removed_below : ℕ → ℕ → HeldBlock → Bool
may_be_removed_below dataset end held = may_be_removed dataset held && nat_lt held.part end

-- the blocks of the dataset that may be removed, as a history names them, in use order
abbrev pub removable_of : ℕ → List HeldBlock → List Resident
removable_of dataset blocks = map resident_of (filter (may_be_removed dataset) blocks)

-- the dataset's blocks are gone but for pinned ones, and so are all its copies; the others stay
pub record Clears (worker dataset : ℕ) (before after : Memory) : Type 0 where
  pub gone : List Resident
  pub end : ℕ
  pub removes : RemovesInTurn worker dataset 0 end gone before.history before.cache.blocks after.history after.cache.blocks
  -- each that may be removed is gone, and no other
  pub goes : IsPermutation gone (removable_of dataset before.cache.blocks)
  pub none_left : list_any (may_be_removed dataset) after.cache.blocks ≡ false
  pub forgotten : (part : ℕ) → has_copy after.cache.copies dataset part ≡ false
  pub others : KeepsDatasets dataset before.cache.files before.cache.copies after.cache.files after.cache.copies
  -- no file of the store disk changed but those of the dataset's copies
  pub files : (file : ℕ) → has_file (only_of dataset before.cache.copies) file ≡ false → file_at after.cache.files file ≡ file_at before.cache.files file
  pub tells : is_some after.cache.files ≡ is_some before.cache.files
  pub later : before.cache.faults ≤ after.cache.faults

-- no block of the dataset is in memory without a pin
abbrev pub HasPinnedAlone : ℕ → History → Type 0
HasPinnedAlone dataset history = (part : ℕ) → is_resident history dataset part ≡ true → is_pinned history dataset part ≡ true

-- Rows

-- whatever rows a basis gives, a cache that fits it still fits it
abbrev pub StillFits : Cache → Cache → Type 0
StillFits before after = (given : RowsByName) → FitsRows given before → FitsRows given after

-- the same, where the block that is admitted has the rows that the basis gives for it
abbrev pub StillFitsWith : Block → Cache → Cache → Type 0
StillFitsWith block before after = (given : RowsByName) → AreGiven given block.dataset block.part block.page.rows → FitsRows given before → FitsRows given after
