-- Which histories are legal: what may follow what.
-- This project's own, over the rules of Spark's UnifiedMemoryManager.
use Rattle.std.specs.Prelude.{ℕ, ◌≡◌, ◌≤◌, ◌<◌, ◌^◌, ◌==◌, Bool, true, false, not, ◌||◌, if◌then◌else◌, Option, Some, None, List, [], ◌∷◌, ◌++◌, map, length}
use Rattle.pool_ledger.specs.declared.entry.Entry.{Entry}
use Rattle.pool_ledger.specs.declared.entry.Event.{Event}
use Rattle.pool_ledger.specs.declared.entry.Event.TheVariants.{Begin, Attempt, Release, End, Evict, Admit, Refused, Pin, Unpin, Remove, Grow}
use Rattle.pool_ledger.specs.declared.entry.Fate.{Fate}
use Rattle.pool_ledger.specs.declared.entry.Fate.TheVariants.{Disk, Gone, NoMemory}
use Rattle.pool_ledger.specs.declared.entry.Level.{Level}
use Rattle.pool_ledger.specs.declared.entry.Level.TheVariants.{Memory, Disk as OnDisk}
use Rattle.pool_ledger.specs.Sizes.{Sizes}
use Rattle.pool_ledger.specs.History.{History, CanGrow, total, held, was_begun, open_task}
use Rattle.pool_ledger.specs.Blocks.{Resident, resident_at, is_resident, is_pinned, worker_pin, leaves_copy}
use Rattle.pool_ledger.specs.Answers.{growth, answer, admission}

-- whether the event puts a block out of memory
abbrev pub is_eviction : Event → Bool
is_eviction (Evict dataset part size fate) = true
is_eviction _ = false

-- an evicted block: its name and its size in bytes
pub record Evicted : Type 0 where
  pub dataset : ℕ
  pub part : ℕ
  pub size : ℕ

-- the block that an eviction names
abbrev pub evicted_by : Event → Evicted
evicted_by (Evict dataset part size fate) = record { dataset = dataset; part = part; size = size }
evicted_by _ = record { dataset = 0; part = 0; size = 0 }

-- the same of a block in memory
abbrev pub evicted_of : Resident → Evicted
evicted_of block = record { dataset = block.dataset; part = block.part; size = block.size }

-- the blocks whose evictions no attempt or admission has followed yet, in order
abbrev pub pending : History → List Evicted
pending [] = []
pending (entry ∷ before) = if is_eviction entry.event then pending before ++ evicted_by entry.event ∷ [] else []

-- what came before the pending evictions
abbrev pub settled : History → History
settled [] = []
settled (entry ∷ before) = if is_eviction entry.event then settled before else entry ∷ before

-- whether pending evictions, if there are any, are the worker's
abbrev pub is_own_turn : History → ℕ → Bool
is_own_turn [] worker = true
is_own_turn (entry ∷ before) worker = not (is_eviction entry.event) || entry.worker == worker

-- a block of level memory leaves no copy
abbrev pub SuitsLevel : Fate → Level → Type 0
SuitsLevel Gone level = Unit {0}
SuitsLevel Disk Memory = ⊥
SuitsLevel Disk OnDisk = Unit {0}
SuitsLevel NoMemory Memory = ⊥
SuitsLevel NoMemory OnDisk = Unit {0}

-- the block is in memory with this size and isn't pinned
pub record MayLeave (history : History) (dataset part size : ℕ) (block : Resident) : Type 0 where
  pub resident : resident_at history dataset part ≡ Some block
  pub size_is : block.size ≡ size
  pub unpinned : is_pinned history dataset part ≡ false

-- these blocks, and no others, are evicted just before, in order
pub record Evicts (history : History) (blocks : List Resident) (evictions : ℕ) : Type 0 where
  pub blocks_are : pending history ≡ map evicted_of blocks
  pub number : evictions ≡ length blocks

-- the attempt has the growth and the answer that the rules give, and just before it the evictions of that growth
pub record AttemptIsRight (setup : Sizes) (history : History) (task asked moved evictions : ℕ) (got : Option ℕ) : Type 0 where
  pub asked_some : 1 ≤ asked
  pub asked_small : asked ≤ 2 ^ 50
  pub evicts : Evicts history (growth setup (settled history) asked).evicted evictions
  pub moves : moved ≡ (growth setup (settled history) asked).moved
  pub answers : got ≡ answer setup (settled history) task asked

-- the block isn't in memory, and the admission is the one that the rules give, with its evictions just before it
pub record AdmissionIsRight (setup : Sizes) (history : History) (dataset part size borrowed evictions : ℕ) (admitted : Bool) : Type 0 where
  pub absent : is_resident (settled history) dataset part ≡ false
  pub answers : admitted ≡ (admission setup (settled history) dataset size).admitted
  pub borrows : borrowed ≡ (admission setup (settled history) dataset size).borrowed
  pub evicts : Evicts history (admission setup (settled history) dataset size).evicted evictions

-- the event may come next, by this worker
abbrev pub MayCome : Sizes → History → ℕ → Event → Type 0
MayCome setup history worker (Begin task) =
    (pending history ≡ []) × (open_task history worker ≡ None) × (was_begun history task ≡ false)
MayCome setup history worker (Attempt task asked moved evictions got) =
    (open_task history worker ≡ Some task) × AttemptIsRight setup history task asked moved evictions got
MayCome setup history worker (Release task freed) =
    (pending history ≡ []) × (open_task history worker ≡ Some task) × (freed ≤ held history task)
MayCome setup history worker (End task freed) =
    (pending history ≡ []) × (open_task history worker ≡ Some task) × (freed ≡ held history task)
MayCome setup history worker (Evict dataset part size fate) =
    (block : Resident) × MayLeave history dataset part size block × SuitsLevel fate block.level
MayCome setup history worker (Admit dataset part size level borrowed evictions) =
    AdmissionIsRight setup history dataset part size borrowed evictions true
MayCome setup history worker (Refused dataset part size borrowed evictions) =
    AdmissionIsRight setup history dataset part size borrowed evictions false
MayCome setup history worker (Pin dataset part false) =
    (pending history ≡ []) × (is_resident history dataset part ≡ true) × (worker_pin history worker ≡ None)
MayCome setup history worker (Pin dataset part true) =
    (pending history ≡ []) × (is_resident history dataset part ≡ false) × (worker_pin history worker ≡ None) × (0 < total (leaves_copy dataset part) history)
MayCome setup history worker (Unpin dataset part) =
    (pending history ≡ []) × (worker_pin history worker ≡ Some (record { dataset = dataset; part = part }))
MayCome setup history worker (Remove dataset part size) =
    (pending history ≡ []) × (block : Resident) × MayLeave history dataset part size block
MayCome setup history worker (Grow bytes) = (pending history ≡ []) × CanGrow setup history worker bytes

-- an entry may follow a history
pub record MayFollow (setup : Sizes) (history : History) (entry : Entry) : Type 0 where
  pub worker_known : entry.worker < setup.workers
  pub own_turn : is_own_turn history entry.worker ≡ true
  pub event : MayCome setup history entry.worker entry.event

-- each entry may follow those before it
abbrev pub IsPermitted : Sizes → History → Type 0
IsPermitted setup [] = Unit {0}
IsPermitted setup (entry ∷ before) = IsPermitted setup before × MayFollow setup before entry

-- each entry may follow those before it, and no eviction is pending
pub record IsLegal (setup : Sizes) (history : History) : Type 0 where
  pub permitted : IsPermitted setup history
  pub whole : pending history ≡ []
