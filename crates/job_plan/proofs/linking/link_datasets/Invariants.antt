use Rattle.std.proofs.Common.{◌≡◌, map, slice_index, take}
use Rattle.job_plan.specs.Moved.{link_over}
use Rattle.job_plan.proofs.linking.link_datasets.Given as goal

abbrev pub invariant-loop-dataset : goal.invariant-loop-dataset
invariant-loop-dataset l = l.links.items ≡ map (link_over (slice_index l.kept)) (take l.dataset-index l.datasets)
