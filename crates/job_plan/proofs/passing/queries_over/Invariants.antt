use Rattle.std.proofs.Common.{◌≡◌}
use Rattle.std.specs.Prelude.{◌==◌, slice_index_or}
use Rattle.std.specs.List.{filter, range_with_len}
use Rattle.job_plan.proofs.passing.queries_over.Given as goal

-- those of the first `i` queries that go over the dataset
abbrev pub invariant-loop-i : goal.invariant-loop-i
invariant-loop-i l = l.queries.items ≡ filter (λ q. slice_index_or l.datasets q 0 == l.dataset) (range_with_len 0 l.i)
