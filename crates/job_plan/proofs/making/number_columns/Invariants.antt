use Rattle.std.proofs.Common.{◌≡◌, ◌++◌, take}
use Rattle.std.specs.List.{flat_map}
use Rattle.job_plan.specs.Columns.{told_in}
use Rattle.job_plan.specs.declared.planned.Planned.{Planned}
use Rattle.job_plan.proofs.making.number_columns.Given as goal

abbrev pub invariant-loop-planned : goal.invariant-loop-planned
invariant-loop-planned l =
    l.columns.items ≡ l.strict ++ flat_map (λ (planned : Planned). told_in planned.kept) (take l.planned-index l.queries)
