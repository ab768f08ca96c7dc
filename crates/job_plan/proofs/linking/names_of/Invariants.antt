use Rattle.std.proofs.Common.{◌≡◌, map, take}
use Rattle.job_text.specs.declared.job.Dataset.{Dataset}
use Rattle.job_plan.proofs.linking.names_of.Given as goal

abbrev pub invariant-loop-dataset : goal.invariant-loop-dataset
invariant-loop-dataset l = l.names.items ≡ map (λ (dataset : Dataset). dataset.name) (take l.dataset-index l.datasets)
