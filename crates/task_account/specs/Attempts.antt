-- What a worker's own entries say of its task: what it holds, in bytes, and what its attempts were granted.
-- This project's own.
use Rattle.std.specs.Prelude.{ℕ, ◌==◌, ◌&&◌, nat_lt, if◌then◌else◌, max, Option, Some, None, [], ◌∷◌}
use Rattle.pool_ledger.specs.declared.entry.Event.{Event}
use Rattle.pool_ledger.specs.declared.entry.Event.TheVariants.{Attempt}
use Rattle.pool_ledger.specs.History.{History, held, total}
use Rattle.turn_lock.specs.Passes.{WorkerView}
use Rattle.task_pool.specs.Workers.{own_of}
use Rattle.task_pool.specs.Accounts.{Held}

-- what an attempt asked and was granted; a wait is no grant
pub record Answered : Type 0 where
  pub asked : ℕ
  pub got : Option ℕ

-- a task's last attempt after an event
abbrev pub last_after : ℕ → Event → Answered → Answered
last_after task (Attempt t asked moved evictions got) was = if t == task then record { asked = asked; got = got } else was
last_after task _ was = was

-- a task's last attempt, if there was one
abbrev pub last_attempt : History → ℕ → Answered
last_attempt [] task = record { asked = 0; got = None }
last_attempt (entry ∷ before) task = last_after task entry.event (last_attempt before task)

-- 1 for an attempt of the task that was granted less than it asked
abbrev pub short_of : ℕ → Event → ℕ
short_of task (Attempt t asked moved evictions (Some got)) = if t == task && nat_lt got asked then 1 else 0
short_of task _ = 0

-- how many of a task's attempts were granted less than they asked
abbrev pub shorts : History → ℕ → ℕ
shorts history task = total (short_of task) history

-- the most that a task ever held
abbrev pub most_held : History → ℕ → ℕ
most_held [] task = 0
most_held (entry ∷ before) task = max (most_held before task) (held (entry ∷ before) task)

-- what a worker knows of its task, in a pool with this floor
abbrev pub held_by : ℕ → ℕ → WorkerView → Held
held_by floor task worker = record {
  held = held (own_of worker) task;
  peak = most_held (own_of worker) task;
  asked = (last_attempt (own_of worker) task).asked;
  got = (last_attempt (own_of worker) task).got;
  shorts = shorts (own_of worker) task;
  floor = floor;
}
