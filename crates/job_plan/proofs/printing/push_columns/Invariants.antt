use Rattle.std.proofs.Common.{◌≡◌, ◌++◌, map, take}
use Rattle.std.specs.Prelude.{codes, string_bytes}
use Rattle.job_plan.specs.PlanText.{column_text, comma_joined}
use Rattle.job_plan.proofs.printing.push_columns.Given as goal

-- the first `i` columns are put
abbrev pub invariant-loop-i : goal.invariant-loop-i
invariant-loop-i l = string_bytes l.out ≡ (string_bytes l.fn.out ++ codes "columns ") ++ comma_joined (map column_text (take l.i l.columns))
