-- The rules that an entry has to keep after the entries before it, in their order, and the first one that it breaks.
-- This project's own, over the rules of Spark's UnifiedMemoryManager.
use Rattle.std.specs.Prelude.{ℕ, ◌+◌, ◌^◌, ◌==◌, nat_lt, Bool, true, false, not, ◌&&◌, ◌||◌, if◌then◌else◌, Option, Some, None, is_some, List, [], ◌∷◌, length}
use Rattle.pool_ledger.specs.declared.entry.Entry.{Entry}
use Rattle.pool_ledger.specs.declared.entry.Event.{Event}
use Rattle.pool_ledger.specs.declared.entry.Event.TheVariants.{Begin, Attempt, Release, End, Evict, Admit, Refused, Pin, Unpin, Remove, Grow}
use Rattle.pool_ledger.specs.declared.entry.Fate.{Fate}
use Rattle.pool_ledger.specs.declared.entry.Fate.TheVariants.{Disk, Gone, NoMemory}
use Rattle.pool_ledger.specs.declared.entry.Level.{Level}
use Rattle.pool_ledger.specs.declared.entry.Level.TheVariants.{Memory, Disk as OnDisk}
use Rattle.pool_ledger.specs.Sizes.{Sizes}
use Rattle.pool_ledger.specs.History.{History, total, maximum, held, was_begun, open_task}
use Rattle.pool_ledger.specs.Blocks.{Name, Resident, resident_at, is_resident, is_pinned, worker_pin, leaves_copy}
use Rattle.pool_ledger.specs.Answers.{growth, answer, admission}
use Rattle.pool_ledger.specs.Legal.{Evicted, is_eviction, pending, settled, is_own_turn}
use Rattle.journal_audit.specs.declared.rules.Rule.{Rule}
use Rattle.journal_audit.specs.declared.rules.Rule.TheVariants.{Worker, Pending, Task, Asked, Block, Pin as Pinned, Victims, Growth, Share, Store, Freed, Grow as Grown}

-- a rule, and whether it is broken
pub record Check : Type 0 where
  pub rule : Rule
  pub broken : Bool

-- the same
abbrev pub breaks : Rule → Bool → Check
breaks rule broken = record { rule = rule; broken = broken }

-- the first rule that is broken
abbrev pub first_in : List Check → Option Rule
first_in [] = None
first_in (check ∷ checks) = if check.broken then Some check.rule else first_in checks

-- whether the number is there
abbrev pub is_the : Option ℕ → ℕ → Bool
is_the None n = false
is_the (Some m) n = m == n

-- whether it is the block of this dataset and part
abbrev pub is_name : Option Name → ℕ → ℕ → Bool
is_name None dataset part = false
is_name (Some name) dataset part = name.dataset == dataset && name.part == part

-- whether two answers are the same; none is a wait
abbrev pub is_answer : Option ℕ → Option ℕ → Bool
is_answer None None = true
is_answer (Some granted) (Some got) = granted == got
is_answer None (Some got) = false
is_answer (Some granted) None = false

-- whether evictions wait for the event that they are for
abbrev pub is_waiting : History → Bool
is_waiting [] = false
is_waiting (entry ∷ before) = is_eviction entry.event

-- whether the event may come while evictions wait: one more of them, or one that they can be for
abbrev pub follows_evictions : Event → Bool
follows_evictions (Evict dataset part size fate) = true
follows_evictions (Attempt task asked moved evictions got) = true
follows_evictions (Admit dataset part size level borrowed evictions) = true
follows_evictions (Refused dataset part size borrowed evictions) = true
follows_evictions _ = false

-- whether a block of this level can be evicted with this fate
abbrev pub suits : Fate → Level → Bool
suits Gone level = true
suits Disk Memory = false
suits Disk OnDisk = true
suits NoMemory Memory = false
suits NoMemory OnDisk = true

-- the same of the block in memory, if there is one
abbrev pub suits_block : Fate → Option Resident → Bool
suits_block fate None = true
suits_block fate (Some block) = suits fate block.level

-- whether the block in memory has this size
abbrev pub has_size : Option Resident → ℕ → Bool
has_size None size = false
has_size (Some block) size = block.size == size

-- whether the block is in memory with this size and isn't pinned
abbrev pub may_leave : History → ℕ → ℕ → ℕ → Bool
may_leave history dataset part size = has_size (resident_at history dataset part) size && not (is_pinned history dataset part)

-- whether the evictions are of these blocks and no others, in order
abbrev pub are_evicted : List Evicted → List Resident → Bool
are_evicted [] [] = true
are_evicted (gone ∷ more) (block ∷ blocks) =
    ((gone.dataset == block.dataset && gone.part == block.part) && gone.size == block.size) && are_evicted more blocks
are_evicted [] (block ∷ blocks) = false
are_evicted (gone ∷ more) [] = false

-- whether these blocks are evicted just before, so many of them
abbrev pub goes : History → List Resident → ℕ → Bool
goes history blocks evictions = are_evicted (pending history) blocks && evictions == length blocks

-- the rules of an event of this worker, in their order, and which of them it breaks
abbrev pub event_checks : Sizes → History → ℕ → Event → List Check
event_checks setup history worker (Begin task) =
    breaks Task (was_begun history task || is_some (open_task history worker)) ∷ []
event_checks setup history worker (Attempt task asked moved evictions got) =
    breaks Task (not (is_the (open_task history worker) task))
    ∷ breaks Asked (asked == 0 || nat_lt (2 ^ 50) asked)
    ∷ breaks Victims (not (goes history (growth setup (settled history) asked).evicted evictions))
    ∷ breaks Growth (not (moved == (growth setup (settled history) asked).moved))
    ∷ breaks Share (not (is_answer got (answer setup (settled history) task asked))) ∷ []
event_checks setup history worker (Release task freed) =
    breaks Task (not (is_the (open_task history worker) task)) ∷ breaks Freed (nat_lt (held history task) freed) ∷ []
event_checks setup history worker (End task freed) =
    breaks Task (not (is_the (open_task history worker) task)) ∷ breaks Freed (not (freed == held history task)) ∷ []
event_checks setup history worker (Evict dataset part size fate) =
    breaks Block (not (may_leave history dataset part size))
    ∷ breaks Block (not (suits_block fate (resident_at history dataset part))) ∷ []
event_checks setup history worker (Admit dataset part size level borrowed evictions) =
    breaks Block (is_resident history dataset part)
    ∷ breaks Victims (not (goes history (admission setup (settled history) dataset size).evicted evictions))
    ∷ breaks Store (not (borrowed == (admission setup (settled history) dataset size).borrowed))
    ∷ breaks Store (not (admission setup (settled history) dataset size).admitted) ∷ []
event_checks setup history worker (Refused dataset part size borrowed evictions) =
    breaks Block (is_resident history dataset part)
    ∷ breaks Victims (not (goes history (admission setup (settled history) dataset size).evicted evictions))
    ∷ breaks Store (not (borrowed == (admission setup (settled history) dataset size).borrowed))
    ∷ breaks Store (admission setup (settled history) dataset size).admitted ∷ []
event_checks setup history worker (Pin dataset part false) =
    breaks Block (not (is_resident history dataset part)) ∷ breaks Pinned (is_some (worker_pin history worker)) ∷ []
event_checks setup history worker (Pin dataset part true) =
    breaks Block (is_resident history dataset part) ∷ breaks Block (total (leaves_copy dataset part) history == 0)
    ∷ breaks Pinned (is_some (worker_pin history worker)) ∷ []
event_checks setup history worker (Unpin dataset part) =
    breaks Pinned (not (is_name (worker_pin history worker) dataset part)) ∷ []
event_checks setup history worker (Remove dataset part size) = breaks Block (not (may_leave history dataset part size)) ∷ []
event_checks setup history worker (Grow bytes) =
    breaks Grown (((not (worker == 0) || bytes == 0) || nat_lt (2 ^ 36) bytes) || nat_lt (2 ^ 41) (maximum setup history + bytes)) ∷ []

-- the first rule that an entry breaks after the entries before it; none where it may follow them
abbrev pub first_broken : Sizes → History → Entry → Option Rule
first_broken setup history entry =
    first_in (breaks Worker (not (nat_lt entry.worker setup.workers))
    ∷ breaks Pending (is_waiting history && not (follows_evictions entry.event && is_own_turn history entry.worker))
    ∷ event_checks setup history entry.worker entry.event)
