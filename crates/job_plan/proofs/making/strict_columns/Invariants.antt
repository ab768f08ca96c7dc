use Rattle.std.proofs.Common.{◌≡◌, ◌++◌, take}
use Rattle.std.specs.List.{flat_map}
use Rattle.row_filter.specs.declared.chain.Link.{Link}
use Rattle.job_plan.specs.Columns.{numbers_for, ordered_in}
use Rattle.job_plan.specs.declared.planned.Planned.{Planned}
use Rattle.job_plan.proofs.making.strict_columns.Given as goal

abbrev pub invariant-loop-planned : goal.invariant-loop-planned
invariant-loop-planned l =
    l.columns.items ≡ flat_map (λ (link : Link). numbers_for link.filter) l.links
    ++ flat_map (λ (planned : Planned). ordered_in planned.kept) (take l.planned-index l.queries)
