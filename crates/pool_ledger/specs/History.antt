-- What a history says of tasks and of the pools' sizes, in bytes.
-- After Spark: ExecutionMemoryPool (what tasks hold, active tasks), UnifiedMemoryManager (the pools' sizes). Begin and End are this project's own.
use Rattle.std.specs.Prelude.{ℕ, ◌+◌, ◌-◌, ◌≡◌, ◌≤◌, ◌^◌, ◌==◌, Bool, true, false, not, ◌&&◌, if◌then◌else◌, Option, Some, None, unwrap_or, List, [], ◌∷◌, sum_by, count_by}
use Rattle.std.specs.List.{list_any}
use Rattle.pool_ledger.specs.declared.entry.Entry.{Entry}
use Rattle.pool_ledger.specs.declared.entry.Event.{Event}
use Rattle.pool_ledger.specs.declared.entry.Event.TheVariants.{Begin, Attempt, Release, End, Admit, Refused, Grow}
use Rattle.pool_ledger.specs.Sizes.{Sizes}

-- the entries of a journal, the newest first: what follows an entry is what came before it
abbrev pub History : Type 0
History = List Entry

-- an amount of an event, added up over all events
abbrev pub total : (Event → ℕ) → History → ℕ
total amount [] = 0
total amount (entry ∷ before) = total amount before + amount entry.event

-- Tasks

-- the bytes that an event grants to the task; a wait grants 0
abbrev pub granted_by : ℕ → Event → ℕ
granted_by task (Attempt t asked moved evictions got) = if t == task then unwrap_or got 0 else 0
granted_by task _ = 0

-- the bytes that a release or the end of the task frees
abbrev pub freed_by : ℕ → Event → ℕ
freed_by task (Release t freed) = if t == task then freed else 0
freed_by task (End t freed) = if t == task then freed else 0
freed_by task _ = 0

-- the bytes that the task holds
abbrev pub held : History → ℕ → ℕ
held history task = total (granted_by task) history - total (freed_by task) history

-- the tasks that were begun, after an event
abbrev pub begun_after : Event → List ℕ → List ℕ
begun_after (Begin task) tasks = task ∷ tasks
begun_after _ tasks = tasks

-- the tasks that were begun, the newest first
abbrev pub begun : History → List ℕ
begun [] = []
begun (entry ∷ before) = begun_after entry.event (begun before)

-- whether the task was begun
abbrev pub was_begun : History → ℕ → Bool
was_begun history task = list_any (λ t. t == task) (begun history)

-- the bytes that all tasks hold
abbrev pub exec : History → ℕ
exec history = sum_by (held history) (begun history)

-- whether the task is active after an event, if it was or wasn't before, and then holds this many bytes
abbrev pub active_after : ℕ → Event → Bool → ℕ → Bool
active_after task (Attempt t asked moved evictions got) was holds = if t == task then true else was
active_after task (Release t freed) was holds = if t == task then was && not (holds == 0) else was
active_after task (End t freed) was holds = if t == task then was && not (holds == 0) else was
active_after task _ was holds = was

-- a task is active from an attempt until a release or its end leaves it with nothing
abbrev pub is_active : History → ℕ → Bool
is_active [] task = false
is_active (entry ∷ before) task =
    active_after task entry.event (is_active before task) (held (entry ∷ before) task)

-- how many tasks are active
abbrev pub active : History → ℕ
active history = count_by (is_active history) (begun history)

-- the worker's task after an event of this worker
abbrev pub task_after : Event → Option ℕ → Option ℕ
task_after (Begin task) was = Some task
task_after (End task freed) was = None
task_after _ was = was

-- the task that the worker has begun and not ended
abbrev pub open_task : History → ℕ → Option ℕ
open_task [] worker = None
open_task (entry ∷ before) worker =
    if entry.worker == worker then task_after entry.event (open_task before worker) else open_task before worker

-- 1 for the begin of the task
abbrev pub begin_of : ℕ → Event → ℕ
begin_of task (Begin t) = if t == task then 1 else 0
begin_of task _ = 0

-- 1 for the end of the task
abbrev pub end_of : ℕ → Event → ℕ
end_of task (End t freed) = if t == task then 1 else 0
end_of task _ = 0

-- how often the task was begun
abbrev pub begins : History → ℕ → ℕ
begins history task = total (begin_of task) history

-- how often the task was ended
abbrev pub ends : History → ℕ → ℕ
ends history task = total (end_of task) history

-- Pools

-- the bytes that an attempt moves from storage to execution
abbrev pub moved_by : Event → ℕ
moved_by (Attempt task asked moved evictions got) = moved
moved_by _ = 0

-- the bytes that an admission, also a refused one, moves from execution to storage
abbrev pub borrowed_by : Event → ℕ
borrowed_by (Admit dataset part size level borrowed evictions) = borrowed
borrowed_by (Refused dataset part size borrowed evictions) = borrowed
borrowed_by _ = 0

-- the bytes that a growth adds to both pools together
abbrev pub grown_by : Event → ℕ
grown_by (Grow bytes) = bytes
grown_by _ = 0

-- the bytes of both pools together
abbrev pub maximum : Sizes → History → ℕ
maximum setup history = setup.maximum + total grown_by history

-- the first worker may make the pools so much larger: by 2^36 bytes at most, and to 2^41 at most
pub record CanGrow (setup : Sizes) (history : History) (worker bytes : ℕ) : Type 0 where
  pub first : worker ≡ 0
  pub some : 1 ≤ bytes
  pub few : bytes ≤ 2 ^ 36
  pub fits : maximum setup history + bytes ≤ 2 ^ 41

-- the bytes of the execution pool
abbrev pub execution_pool : Sizes → History → ℕ
execution_pool setup history =
    (maximum setup history - setup.region) + total moved_by history - total borrowed_by history

-- the bytes of the storage pool
abbrev pub storage_pool : Sizes → History → ℕ
storage_pool setup history = maximum setup history - execution_pool setup history

-- the bytes of the execution pool that no task holds
abbrev pub execution_free : Sizes → History → ℕ
execution_free setup history = execution_pool setup history - exec history
