use Rattle.std.proofs.Common.{◌≡◌, false, take}
use Rattle.std.specs.List.{list_any}
use Rattle.row_filter.specs.Chains.{links_of}
use Rattle.row_filter.specs.Lines.{derives}
use Rattle.job_plan.proofs.passing.some_derives.Given as goal

-- none so far does
abbrev pub invariant-loop-dataset : goal.invariant-loop-dataset
invariant-loop-dataset l = list_any (λ d. derives (links_of l.chain) d l.from) (take l.dataset-index l.datasets) ≡ false
