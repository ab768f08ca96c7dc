use Rattle.std.proofs.Common.{◌≡◌, ◌++◌, take}
use Rattle.std.specs.List.{flat_map}
use Rattle.job_plan.specs.Columns.{filter_numbers}
use Rattle.job_plan.proofs.filter_numbers.+put_filter.Given as goal

-- those of each filter so far are put
abbrev pub invariant-put_each-loop-filter : goal.invariant-put_each-loop-filter
invariant-put_each-loop-filter l = record { put : l.into.items ≡ l.fn.into.items ++ flat_map filter_numbers (take l.filter-index l.fn.filters) }
