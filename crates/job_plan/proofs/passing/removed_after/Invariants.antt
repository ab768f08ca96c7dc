use Rattle.std.proofs.Common.{◌≡◌}
use Rattle.std.specs.Prelude.{◌&&◌}
use Rattle.std.specs.List.{filter, range_with_len}
use Rattle.row_filter.specs.Chains.{links_of}
use Rattle.job_plan.specs.Passes.{has_level, is_last_use}
use Rattle.job_plan.proofs.passing.removed_after.Given as goal

-- those of the first datasets that are removed
abbrev pub invariant-loop-before : goal.invariant-loop-before
invariant-loop-before l =
    l.datasets.items ≡ filter (λ d. has_level (links_of l.chain) d && is_last_use (links_of l.chain) l.passes d l.pass) (range_with_len 1 l.before)
