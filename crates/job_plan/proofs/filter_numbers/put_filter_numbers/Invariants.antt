use Rattle.std.proofs.Common.{◌≡◌, ◌++◌, take}
use Rattle.std.specs.List.{flat_map}
use Rattle.row_filter.specs.declared.chain.Link.{Link}
use Rattle.job_plan.specs.Columns.{numbers_for}
use Rattle.job_plan.proofs.filter_numbers.put_filter_numbers.Given as goal

abbrev pub invariant-loop-link : goal.invariant-loop-link
invariant-loop-link l =
    l.into.items ≡ l.initial.into.items ++ flat_map (λ (link : Link). numbers_for link.filter) (take l.link-index l.links)
