use Rattle.std.proofs.Common.{◌≡◌, ◌+◌, ◌<◌, ℕ, length, slice_index_or}
use Rattle.turn_lock.specs.Passes.{WorkerView}
use Rattle.memory_lock.specs.Crew.{new_worker}
use Rattle.memory_lock.proofs.manager.Manager.start.Given as goal

-- the workers so far, and the newest, which may give away the other numbers
abbrev pub invariant-loop-number : goal.invariant-loop-number
invariant-loop-number g l = record {
  count : length l.workers.items + 1 ≡ l._number;
  newest : l.newest ≡ new_worker l.manager (length l.workers.items) l._number;
  made : (k : ℕ) (d : WorkerView) → k < length l.workers.items → slice_index_or l.workers.items k d ≡ new_worker l.manager k 4294967296;
}
