-- What is handed out: the rows of a block, and how the worker that asked for them stands.
-- This project's own.
use Rattle.std.specs.Prelude.{◌≡◌, ℕ, ◌<◌, ◌≤◌, List, length, IsSome, Option, Some, None, Result, Ok, Err, ⊤}
use Rattle.std.specs.Arc.{arc_value}
use Rattle.std.specs.List.{AllByRecursion}
use Rattle.fault_count.specs.Faults.{Rose}
use Rattle.row_page.specs.Pages.{PageView}
use Rattle.spill_disk.specs.Files.{Files}
use Rattle.row_form.specs.Forms.{IsWellFormed}
use Rattle.run_file.specs.declared.run.Run.{Run}
use Rattle.row_filter.specs.declared.chain.Chain.{Chain}
use Rattle.row_filter.specs.Chains.{level_at}
use Rattle.block_store.specs.declared.block.Block.{Block}
use Rattle.turn_lock.specs.Passes.{WorkerView}
use Rattle.memory_lock.specs.Workers.{HasNoPin, HasPin}
use Rattle.lineage.specs.declared.rows.Rows.{Rows}
use Rattle.lineage.specs.declared.rows.Rows.TheVariants.{Pinned, Own}
use Rattle.lineage.specs.declared.rows_fault.RowsFault.{RowsFault}
use Rattle.lineage.specs.declared.rows_fault.RowsFault.TheVariants.{DiskFault, Damaged, NoMemory}
use Rattle.lineage.specs.Checking.{AreRightFor}
use Rattle.lineage.specs.LineageViews.{LineageView, form_for, name_for, run_for}

-- the block whose rows are handed out
abbrev pub block_in : Rows → Block
block_in (Pinned block) = arc_value block
block_in (Own block) = arc_value block

-- its rows
abbrev pub rows_in : Rows → List (List (List ℕ))
rows_in rows = (block_in rows).page.rows

-- the block is that of a kept dataset in this partition, and its rows may be rows of it
pub record IsKeptBlock (lineage : LineageView) (dataset part : ℕ) (block : Block) : Type 0 where
  pub dataset_is : block.dataset ≡ name_for lineage.chain dataset
  pub part_is : block.part ≡ part
  pub kept : IsSome (level_at lineage.chain dataset)
  pub right : AreRightFor lineage part block.page.rows

-- a block of the dataset in this partition, with these rows
pub record IsBlockWith (chain : Chain) (dataset part : ℕ) (rows : List (List (List ℕ))) (block : Block) : Type 0 where
  pub dataset_is : block.dataset ≡ name_for chain dataset
  pub part_is : block.part ≡ part
  pub rows_are : block.page.rows ≡ rows

-- no pin keeps them
abbrev pub IsOwn : Rows → Type 0
IsOwn (Pinned block) = ⊥
IsOwn (Own block) = ⊤

-- the worker has the block pinned that is handed out as pinned, and else none
abbrev pub HoldsPin : WorkerView → Rows → Type 0
HoldsPin worker (Pinned block) = HasPin worker (arc_value block).dataset (arc_value block).part
HoldsPin worker (Own block) = HasNoPin worker

-- the same of a block that was looked for; where none is used it has none
abbrev pub FindsPin : WorkerView → Option Rows → Type 0
FindsPin worker (Some rows) = HoldsPin worker rows
FindsPin worker None = HasNoPin worker

-- only a kept dataset's block is handed out as pinned
abbrev pub IsOfKept : LineageView → ℕ → ℕ → Rows → Type 0
IsOfKept lineage dataset part (Pinned block) = IsKeptBlock lineage dataset part (arc_value block)
IsOfKept lineage dataset part (Own block) = ⊤

-- the same of what was answered; after a fault the worker has none
abbrev pub LeavesPin : LineageView → ℕ → ℕ → WorkerView → Result Rows RowsFault → Type 0
LeavesPin lineage dataset part worker (Ok rows) = HoldsPin worker rows × IsOfKept lineage dataset part rows
LeavesPin lineage dataset part worker (Err fault) = HasNoPin worker

-- they are well formed for landed rows of the partition, and no more than it has
pub record AreFormed (lineage : LineageView) (part : ℕ) (rows : List (List (List ℕ))) : Type 0 where
  pub formed : AllByRecursion (IsWellFormed (form_for lineage) (run_for lineage part).greatest) rows
  pub few : length rows ≤ (run_for lineage part).count

-- these rows are read from the partition's run; and no damage is found
abbrev pub GivesPage : List (List (List ℕ)) → Result PageView RowsFault → Type 0
GivesPage rows (Ok page) = page.rows ≡ rows
GivesPage rows (Err DiskFault) = ⊤
GivesPage rows (Err (Damaged damage)) = ⊥
GivesPage rows (Err NoMemory) = ⊤

-- these rows are handed out; and no damage is found
abbrev pub GivesRows : List (List (List ℕ)) → Result Rows RowsFault → Type 0
GivesRows rows (Ok given) = rows_in given ≡ rows
GivesRows rows (Err DiskFault) = ⊤
GivesRows rows (Err (Damaged damage)) = ⊥
GivesRows rows (Err NoMemory) = ⊤

-- the disk has the files that it had, and its count of faults didn't fall
pub record LeavesFiles (before after : Option Files) (faults now : ℕ) : Type 0 where
  pub same : after ≡ before
  pub later : faults ≤ now

-- a fault of the disk is told only where its count rose; damage only of this run, on the one disk that there is, where fewer rows
-- were found than it has
abbrev pub HasCauseIn : {T : Type 0} → Run → ℕ → ℕ → Result T RowsFault → Type 0
HasCauseIn run before now (Ok x) = ⊤
HasCauseIn run before now (Err DiskFault) = Rose before now
HasCauseIn run before now (Err (Damaged damage)) = (damage.disk ≡ 0) × (damage.file ≡ run.file) × (damage.kept ≡ run.count) × (damage.found < damage.kept)
HasCauseIn run before now (Err NoMemory) = ⊤
