use Rattle.std.proofs.Common.{◌≡◌, map, take}
use Rattle.job_plan.specs.declared.planned.Planned.{Planned}
use Rattle.job_plan.proofs.making.datasets_of.Given as goal

abbrev pub invariant-loop-planned : goal.invariant-loop-planned
invariant-loop-planned l =
    l.datasets.items ≡ map (λ (planned : Planned). planned.dataset) (take l.planned-index l.queries)
