use Rattle.std.proofs.Common.{◌≡◌, ◌++◌, map, take}
use Rattle.std.specs.Prelude.{string_bytes}
use Rattle.std.specs.Fmt.{decimal}
use Rattle.job_plan.specs.PlanText.{comma_joined}
use Rattle.job_plan.proofs.printing.push_numbers.Given as goal

-- the first `i` numbers are put
abbrev pub invariant-loop-i : goal.invariant-loop-i
invariant-loop-i l = string_bytes l.out ≡ string_bytes l.initial.out ++ comma_joined (map decimal (take l.i l.numbers))
