-- What a history says of blocks: which are in memory, in use order, which are pinned, and which would be evicted.
-- After Spark: MemoryStore (use order, eviction), StorageMemoryPool (stored bytes). Pins are this project's own.
use Rattle.std.specs.Prelude.{ℕ, ◌≡◌, ◌-◌, ◌==◌, nat_lt, Bool, false, not, ◌&&◌, if◌then◌else◌, Option, Some, None, List, [], ◌∷◌, ◌++◌, filter, sum_by}
use Rattle.std.specs.List.{find, list_any}
use Rattle.std.specs.Option.{option_map}
use Rattle.pool_ledger.specs.declared.entry.Event.{Event}
use Rattle.pool_ledger.specs.declared.entry.Event.TheVariants.{Admit, Evict, Pin, Unpin, Remove}
use Rattle.pool_ledger.specs.declared.entry.Level.{Level}
use Rattle.pool_ledger.specs.declared.entry.Fate.TheVariants.{Disk}
use Rattle.pool_ledger.specs.History.{History, total, storage_pool}
use Rattle.pool_ledger.specs.Sizes.{Sizes}

-- a block's name: its dataset and its part
pub record Name : Type 0 where
  pub dataset : ℕ
  pub part : ℕ

-- a block in memory, with its bytes
pub record Resident : Type 0 where
  pub dataset : ℕ
  pub part : ℕ
  pub size : ℕ
  pub level : Level

-- its name
abbrev pub name_of : Resident → Name
name_of block = record { dataset = block.dataset; part = block.part }

-- whether it is the block of this dataset and part
abbrev pub is_block : ℕ → ℕ → Resident → Bool
is_block dataset part block = block.dataset == dataset && block.part == part

-- the blocks but for this one
abbrev pub without : ℕ → ℕ → List Resident → List Resident
without dataset part blocks = filter (λ block. not (is_block dataset part block)) blocks

-- this block alone
abbrev pub only : ℕ → ℕ → List Resident → List Resident
only dataset part blocks = filter (is_block dataset part) blocks

-- the blocks in memory after an event: an admission or a pin makes its block the last one
abbrev pub residents_after : Event → List Resident → List Resident
residents_after (Admit dataset part size level borrowed evictions) blocks =
    blocks ++ record { dataset = dataset; part = part; size = size; level = level } ∷ []
residents_after (Evict dataset part size fate) blocks = without dataset part blocks
residents_after (Remove dataset part size) blocks = without dataset part blocks
residents_after (Pin dataset part copy) blocks =
    if copy then blocks else without dataset part blocks ++ only dataset part blocks
residents_after _ blocks = blocks

-- the blocks that were admitted and neither evicted nor removed since, in use order: the one whose last
-- admission or pin is the oldest comes first
abbrev pub residents : History → List Resident
residents [] = []
residents (entry ∷ before) = residents_after entry.event (residents before)

-- 1 for a block that was stored
abbrev pub admission_of : Event → ℕ
admission_of (Admit dataset part size level borrowed evictions) = 1
admission_of _ = 0

-- no block was ever stored
abbrev pub CachesNothing : History → Type 0
CachesNothing history = total admission_of history ≡ 0

-- the sizes of blocks, added up, in bytes
abbrev pub sizes : List Resident → ℕ
sizes blocks = sum_by (λ block. block.size) blocks

-- the bytes of the blocks in memory
abbrev pub stored : History → ℕ
stored history = sizes (residents history)

-- the bytes of the storage pool that no block takes
abbrev pub storage_free : Sizes → History → ℕ
storage_free setup history = storage_pool setup history - stored history

-- the block in memory, if it is there
abbrev pub resident_at : History → ℕ → ℕ → Option Resident
resident_at history dataset part = find (is_block dataset part) (residents history)

-- whether the block is in memory
abbrev pub is_resident : History → ℕ → ℕ → Bool
is_resident history dataset part = list_any (is_block dataset part) (residents history)

-- Pins

-- 1 for a pin of the block in memory
abbrev pub pin_of : ℕ → ℕ → Event → ℕ
pin_of dataset part (Pin d p false) = if dataset == d && part == p then 1 else 0
pin_of dataset part _ = 0

-- 1 for an unpin of the block
abbrev pub unpin_of : ℕ → ℕ → Event → ℕ
unpin_of dataset part (Unpin d p) = if dataset == d && part == p then 1 else 0
unpin_of dataset part _ = 0

-- a block is pinned where its pins are more than its unpins
abbrev pub is_pinned : History → ℕ → ℕ → Bool
is_pinned history dataset part = nat_lt (total (unpin_of dataset part) history) (total (pin_of dataset part) history)

-- the worker's pin after an event of this worker
abbrev pub pin_after : Event → Option Name → Option Name
pin_after (Pin dataset part copy) was = if copy then was else Some (record { dataset = dataset; part = part })
pin_after (Unpin dataset part) was = None
pin_after _ was = was

-- the block that the worker has pinned
abbrev pub worker_pin : History → ℕ → Option Name
worker_pin [] worker = None
worker_pin (entry ∷ before) worker =
    if entry.worker == worker then pin_after entry.event (worker_pin before worker) else worker_pin before worker

-- 1 for an eviction of the block that left a copy on the store disk
abbrev pub leaves_copy : ℕ → ℕ → Event → ℕ
leaves_copy dataset part (Evict d p size Disk) = if d == dataset && p == part then 1 else 0
leaves_copy dataset part _ = 0

-- Victims

-- the shortest front of a list whose sizes add up to at least `need`; none if all of them don't reach it
abbrev pub front_reaching : {X : Type 0} → (X → ℕ) → ℕ → List X → Option (List X)
front_reaching size need [] = if need == 0 then Some [] else None
front_reaching size need (x ∷ xs) =
    if need == 0 then Some [] else option_map (λ front. x ∷ front) (front_reaching size (need - size x) xs)

-- whether the dataset is the one that is excepted
abbrev pub is_excepted : Option ℕ → ℕ → Bool
is_excepted None dataset = false
is_excepted (Some d) dataset = dataset == d

-- the residents that may be evicted, in use order
abbrev pub evictable : History → Option ℕ → List Resident
evictable history except =
    filter (λ block. not (is_pinned history block.dataset block.part) && not (is_excepted except block.dataset)) (residents history)

-- the blocks to evict so that `need` bytes become free, the first to go first
abbrev pub victims : History → ℕ → Option ℕ → Option (List Resident)
victims history need except = front_reaching (λ block. block.size) need (evictable history except)
