-- The owner of a task, where a job's workers and tasks are numbered from 0.
use Rattle.std.proofs.Common.{◌≡◌, ℕ, ◌+◌, ◌*◌, ◌%◌, Some, None, ap, arith}
use Rattle.std.specs.Prelude.{nat_lt, if◌then◌else◌}
use Rattle.job_ending.specs.Tasks.{behind, owner_of, worker_at}

pub owner_is : (workers partitions passes task : ℕ) → owner_of 0 0 workers partitions passes task ≡ (if nat_lt task (passes * (partitions + 1)) then Some (worker_at workers partitions (task % (partitions + 1))) else None)
unfolding behind
owner_is workers partitions passes task =
    let its = worker_at workers partitions (task % (partitions + 1)) in
    let same : its + 0 ≡ its = omega arith in
    ap (λ (n : ℕ). if nat_lt task (passes * (partitions + 1)) then Some n else None) same
