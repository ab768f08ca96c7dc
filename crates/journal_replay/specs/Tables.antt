-- What a replay keeps of a history, and what the tables tell of it.
-- After Spark: MemoryStore, whose entries stand in access order. The tables are this project's own.
use Rattle.std.specs.Prelude.{ℕ, ◌≡◌, ◌==◌, ◌<◌, ◌≤◌, ◌+◌, ◌-◌, ◌^◌, nat_eq, if◌then◌else◌, sum_by, unwrap_or, Bool, false, not, ◌&&◌, List, [], ◌∷◌, ◌++◌, Option, Some, None, slice_get, slice_set, count_by, ⊤}
use Rattle.std.specs.HashMap.{HashMap, get as map_get}
use Rattle.std.specs.HashSet as bag
use Rattle.std.specs.HashSet.{HashSet}
use Rattle.std.specs.List.{list_any}
use Rattle.std.specs.Option.{option_map}
use Rattle.pool_ledger.specs.declared.entry.Event.{Event}
use Rattle.pool_ledger.specs.declared.entry.Event.TheVariants.{Admit, Evict, Pin, Remove, Unpin}
use Rattle.pool_ledger.specs.History.{History, total, was_begun}
use Rattle.pool_ledger.specs.Blocks.{Name, Resident, is_block, leaves_copy, pin_of, residents, unpin_of, worker_pin}
use Rattle.eviction.specs.declared.candidate.Candidate.{Candidate}
use Rattle.journal_replay.specs.declared.block_name.BlockName.{BlockName}
use Rattle.journal_replay.specs.declared.blocks.Kept.{Kept}

-- the block of this dataset and part
abbrev pub named : ℕ → ℕ → BlockName
named dataset part = record { dataset = dataset; part = part }

-- whether two names are one
abbrev pub same_name : BlockName → BlockName → Bool
same_name a b = a.dataset == b.dataset && a.part == b.part

-- Tasks

-- the tasks are those that the history began
abbrev pub TellsBegun : {S : Type 0} → HashSet ℕ S → History → Type 0
TellsBegun tasks history = (task : ℕ) → bag.contains nat_eq tasks task ≡ was_begun history task

-- Copies

-- whether the block is among the copies
abbrev pub has_copy : {S : Type 0} → HashSet BlockName S → ℕ → ℕ → Bool
has_copy copies dataset part = bag.contains same_name copies (named dataset part)

-- the copies are those that evictions of the history left
abbrev pub TellsCopies : {S : Type 0} → HashSet BlockName S → History → Type 0
TellsCopies copies history =
    (dataset part : ℕ) → has_copy copies dataset part ≡ not (total (leaves_copy dataset part) history == 0)

-- Bytes by dataset

-- the bytes of a dataset's blocks
abbrev pub bytes_of : ℕ → List Resident → ℕ
bytes_of dataset blocks = sum_by (λ block. if block.dataset == dataset then block.size else 0) blocks

-- the bytes that are kept of a dataset; one that isn't there has none
abbrev pub bytes_at : {S : Type 0} → HashMap ℕ ℕ S → ℕ → ℕ
bytes_at bytes dataset = unwrap_or (map_get nat_eq bytes dataset) 0

-- the bytes of a dataset after an event, where they were so many
abbrev pub bytes_after : Event → ℕ → ℕ → ℕ
bytes_after (Admit d part size level borrowed evictions) dataset bytes = if d == dataset then bytes + size else bytes
bytes_after (Evict d part size fate) dataset bytes = if d == dataset then bytes - size else bytes
bytes_after (Remove d part size) dataset bytes = if d == dataset then bytes - size else bytes
bytes_after _ dataset bytes = bytes

-- an admission makes no more bytes than a number has
abbrev pub IsSmall : {S : Type 0} → Event → HashMap ℕ ℕ S → Type 0
IsSmall (Admit dataset part size level borrowed evictions) bytes = bytes_at bytes dataset + size ≤ 2 ^ 50
IsSmall _ bytes = ⊤

-- the bytes are those of the datasets' blocks after this history
abbrev pub TellsBytes : {S : Type 0} → HashMap ℕ ℕ S → History → Type 0
TellsBytes bytes history = (dataset : ℕ) → bytes_at bytes dataset ≡ bytes_of dataset (residents history)

-- Pins

-- whether the pin is of this block
abbrev pub is_pin : ℕ → ℕ → Option BlockName → Bool
is_pin dataset part None = false
is_pin dataset part (Some name) = name.dataset == dataset && name.part == part

-- a name as pins have it
abbrev pub as_pin : Name → BlockName
as_pin name = named name.dataset name.part

-- the pins by worker after an event of this worker
abbrev pub pins_after : ℕ → Event → List (Option BlockName) → List (Option BlockName)
pins_after worker (Pin dataset part false) pins = slice_set pins worker (Some (named dataset part))
pins_after worker (Unpin dataset part) pins = slice_set pins worker None
pins_after worker _ pins = pins

-- the pins by worker are those of the history, and of each block so many as weren't taken back
pub record TellsPins (pins : List (Option BlockName)) (history : History) : Type 0 where
  pub own : (worker : ℕ) → worker < 16 → slice_get pins worker ≡ Some (option_map as_pin (worker_pin history worker))
  pub counted : (dataset part : ℕ)
      → count_by (is_pin dataset part) pins + total (unpin_of dataset part) history ≡ total (pin_of dataset part) history

-- Blocks

-- a block of this name with what is kept of it
abbrev pub resident_of : ℕ → ℕ → Kept → Resident
resident_of dataset part kept = record { dataset = dataset; part = part; size = kept.size; level = kept.level }

-- a kept block
abbrev pub block_of : BlockName × Kept → Resident
block_of entry = resident_of entry.0.dataset entry.0.part entry.1

-- the blocks in use order, of which the last used is kept first
abbrev pub blocks_in : List (BlockName × Kept) → List Resident
blocks_in [] = []
blocks_in (entry ∷ entries) = blocks_in entries ++ block_of entry ∷ []

-- an admission is of a block that isn't among these
abbrev pub IsNewBlock : Event → List Resident → Type 0
IsNewBlock (Admit dataset part size level borrowed evictions) blocks = list_any (is_block dataset part) blocks ≡ false
IsNewBlock _ blocks = ⊤

-- a block as a choice of victims sees it, with these pins
abbrev pub candidate_in : List (Option BlockName) → Resident → Candidate
candidate_in pins block =
    record { dataset = block.dataset; part = block.part; size = block.size; pinned = list_any (is_pin block.dataset block.part) pins }
