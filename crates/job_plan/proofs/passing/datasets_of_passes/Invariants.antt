use Rattle.std.proofs.Common.{◌≡◌}
use Rattle.job_plan.proofs.PassLists.{first_datasets}
use Rattle.job_plan.proofs.passing.datasets_of_passes.Given as goal

-- the datasets of the first `i` queries, each once
abbrev pub invariant-loop-i : goal.invariant-loop-i
invariant-loop-i l = l.passes.items ≡ first_datasets l.datasets l.i
