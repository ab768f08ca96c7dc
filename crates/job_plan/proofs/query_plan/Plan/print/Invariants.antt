use Rattle.std.proofs.Common.{◌≡◌, ◌++◌}
use Rattle.std.specs.Prelude.{string_bytes}
use Rattle.std.specs.List.{flat_map, range_with_len}
use Rattle.job_plan.specs.PlanText.{columns_line, pass_text}
use Rattle.job_plan.specs.Plans.{column_names_in}
use Rattle.job_plan.proofs.query_plan.Plan.print.Given as goal

-- the first `i` passes are put
abbrev pub invariant-loop-i : goal.invariant-loop-i
invariant-loop-i l = string_bytes l.out ≡ columns_line (column_names_in l.self) ++ flat_map (pass_text l.self) (range_with_len 0 l.i)
