-- What an attempt of a task and an admission of a block are answered, in bytes, with quotients rounded down.
-- After Spark: UnifiedMemoryManager (growth, admission), ExecutionMemoryPool (share). The amounts evicted and moved are this project's own.
use Rattle.std.specs.Prelude.{ℕ, ◌+◌, ◌-◌, ◌*◌, ◌/◌, ◌==◌, min, max, nat_lt, nat_le, Bool, false, ◌&&◌, if◌then◌else◌, Option, Some, None, unwrap_or, List, []}
use Rattle.pool_ledger.specs.Sizes.{Sizes, block_limit_of}
use Rattle.pool_ledger.specs.History.{History, held, exec, is_active, active, maximum, execution_pool, storage_pool, execution_free}
use Rattle.pool_ledger.specs.Blocks.{Resident, sizes, stored, storage_free, victims}

-- Growth

-- the bytes that an ask takes from storage: what it lacks, out of what storage has free or beyond its region
abbrev pub target_of : ℕ → ℕ → ℕ → ℕ → ℕ → ℕ
target_of asked execution_free storage_pool storage_free region =
    min (asked - execution_free) (max storage_free (storage_pool - region))

-- the blocks that are evicted for execution
abbrev pub evicted_for : History → ℕ → List Resident
evicted_for history need = if need == 0 then [] else unwrap_or (victims history need None) []

-- what an ask takes from storage: free bytes, bytes that blocks have to give, those blocks, and what moves in all
pub record Growth : Type 0 where
  pub unused : ℕ
  pub need : ℕ
  pub evicted : List Resident
  pub moved : ℕ

-- the growth of the execution pool for an ask
abbrev pub growth : Sizes → History → ℕ → Growth
growth setup history asked =
    let free = storage_free setup history in
    let target = target_of asked (execution_free setup history) (storage_pool setup history) free setup.region in
    let unused = min target free in
    let evicted = evicted_for history (target - unused) in
    record { unused = unused; need = target - unused; evicted = evicted; moved = unused + sizes evicted }

-- Shares

-- the numbers that an answer depends on, taken after the growth and with the task counted as active
pub record Moment : Type 0 where
  pub maximum : ℕ
  pub region : ℕ
  pub stored : ℕ
  pub pool : ℕ
  pub exec : ℕ
  pub held : ℕ
  pub active : ℕ
  pub asked : ℕ

-- the fair share, the most bytes that a task may come to hold: what storage can't keep, divided by the active tasks
abbrev pub greatest_share : Moment → ℕ
greatest_share at = (at.maximum - min at.stored at.region) / at.active

-- half an equal part of the execution pool, in bytes, which a short grant has to reach (Spark: minMemoryPerTask)
abbrev pub least_share : Moment → ℕ
least_share at = at.pool / (2 * at.active)

-- what a task gets if it doesn't wait: what it asks, up to its fair share and to what is free
abbrev pub grant_of : Moment → ℕ
grant_of at = min (min at.asked (greatest_share at - at.held)) (at.pool - at.exec)

-- what is granted; none where the task has to wait, since a short grant wouldn't reach the least share
abbrev pub share_of : Moment → Option ℕ
share_of at =
    if nat_lt (grant_of at) at.asked && nat_lt (at.held + grant_of at) (least_share at) then None else Some (grant_of at)

-- the numbers at an attempt of the task
abbrev pub moment : Sizes → History → ℕ → ℕ → Moment
moment setup history task asked =
    let grown = growth setup history asked in
    record {
      maximum = maximum setup history;
      region = setup.region;
      stored = stored history - sizes grown.evicted;
      pool = execution_pool setup history + grown.moved;
      exec = exec history;
      held = held history task;
      active = active history + (if is_active history task then 0 else 1);
      asked = asked;
    }

-- the answer to an attempt of the task for `asked` bytes; none is a wait
abbrev pub answer : Sizes → History → ℕ → ℕ → Option ℕ
answer setup history task asked = share_of (moment setup history task asked)

-- Admission

-- the bytes that are borrowed from execution for a block of this size
abbrev pub borrowed_for : ℕ → ℕ → ℕ → ℕ
borrowed_for size storage_free execution_free = min execution_free (size - storage_free)

-- whether a block is admitted, what was borrowed from execution, and the blocks that are evicted
pub record Admission : Type 0 where
  pub admitted : Bool
  pub borrowed : ℕ
  pub evicted : List Resident

-- a block that is too large is refused with nothing borrowed and nothing evicted
abbrev pub refused_at_once : Admission
refused_at_once = record { admitted = false; borrowed = 0; evicted = [] }

-- the answer to a block of this size that isn't resident
abbrev pub admission : Sizes → History → ℕ → ℕ → Admission
admission setup history dataset size =
    let free = storage_free setup history in
    let borrowed = borrowed_for size free (execution_free setup history) in
    let need = size - (free + borrowed) in
    let evicted = if need == 0 then [] else unwrap_or (victims history need (Some dataset)) [] in
    if nat_le size (block_limit_of setup) && nat_le size (maximum setup history - exec history)
    then record { admitted = nat_le size (free + borrowed + sizes evicted); borrowed = borrowed; evicted = evicted }
    else refused_at_once
