-- What a ledger asks of an entry. This is less than that it may legally follow: shares and victims aren't asked for.
-- This project's own.
use Rattle.std.specs.Prelude.{ℕ, ◌≡◌, ◌+◌, ◌≤◌, ◌<◌, false, not, Option, Some, None, unwrap_or, [], ◌∷◌}
use Rattle.pool_ledger.specs.declared.entry.Entry.{Entry}
use Rattle.pool_ledger.specs.declared.entry.Event.{Event}
use Rattle.pool_ledger.specs.declared.entry.Event.TheVariants.{Begin, Attempt, Release, End, Evict, Admit, Refused, Pin, Unpin, Remove, Grow}
use Rattle.pool_ledger.specs.Sizes.{Sizes}
use Rattle.pool_ledger.specs.History.{History, CanGrow, held, exec, was_begun, open_task, maximum, execution_pool}
use Rattle.pool_ledger.specs.Blocks.{Resident, resident_at, is_resident, stored}

-- the worker has no task, and the task was never begun
pub record IsBegin (history : History) (worker task : ℕ) : Type 0 where
  pub free : open_task history worker ≡ None
  pub new : was_begun history task ≡ false

-- the task is the worker's, and neither pool nor sum passes what there is
pub record CanAttempt (setup : Sizes) (history : History) (worker task moved : ℕ) (got : Option ℕ) : Type 0 where
  pub open_now : open_task history worker ≡ Some task
  pub pool_fits : execution_pool setup history + moved ≤ maximum setup history
  pub sum_fits : exec history + unwrap_or got 0 ≤ maximum setup history

-- the task is the worker's, and frees at most what it holds
pub record CanRelease (history : History) (worker task freed : ℕ) : Type 0 where
  pub open_now : open_task history worker ≡ Some task
  pub holds : freed ≤ held history task

-- the block is in memory with this size
pub record IsLeaving (history : History) (dataset part size : ℕ) (block : Resident) : Type 0 where
  pub resident : resident_at history dataset part ≡ Some block
  pub size_is : block.size ≡ size

-- the block isn't in memory, execution can lend the bytes, and the stored bytes don't pass what there is
pub record IsAdmit (setup : Sizes) (history : History) (dataset part size borrowed : ℕ) : Type 0 where
  pub absent : is_resident history dataset part ≡ false
  pub in_pool : borrowed ≤ execution_pool setup history
  pub sum_fits : stored history + size ≤ maximum setup history

-- the event can be recorded next, by this worker
abbrev pub CanCome : Sizes → History → ℕ → Event → Type 0
CanCome setup history worker (Begin task) = IsBegin history worker task
CanCome setup history worker (Attempt task asked moved evictions got) = CanAttempt setup history worker task moved got
CanCome setup history worker (Release task freed) = CanRelease history worker task freed
CanCome setup history worker (End task freed) = CanRelease history worker task freed
CanCome setup history worker (Evict dataset part size fate) = (block : Resident) × IsLeaving history dataset part size block
CanCome setup history worker (Admit dataset part size level borrowed evictions) = IsAdmit setup history dataset part size borrowed
CanCome setup history worker (Refused dataset part size borrowed evictions) = borrowed ≤ execution_pool setup history
CanCome setup history worker (Pin dataset part copy) = is_resident history dataset part ≡ not copy
CanCome setup history worker (Unpin dataset part) = Unit {0}
CanCome setup history worker (Remove dataset part size) = (block : Resident) × IsLeaving history dataset part size block
CanCome setup history worker (Grow bytes) = CanGrow setup history worker bytes

-- the entry can be recorded next
pub record CanFollow (setup : Sizes) (history : History) (entry : Entry) : Type 0 where
  pub worker_known : entry.worker < setup.workers
  pub event_fits : CanCome setup history entry.worker entry.event

-- each entry could be recorded after those before it
abbrev pub IsRecorded : Sizes → History → Type 0
IsRecorded setup [] = Unit {0}
IsRecorded setup (entry ∷ before) = IsRecorded setup before × CanFollow setup before entry
