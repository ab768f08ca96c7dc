use Rattle.std.proofs.Common.{◌≡◌, ◌++◌, take}
use Rattle.std.specs.Prelude.{string_bytes}
use Rattle.std.specs.List.{flat_map}
use Rattle.job_plan.specs.PlanText.{removal_line}
use Rattle.job_plan.proofs.printing.push_removed.Given as goal

-- the lines of the datasets so far are put
abbrev pub invariant-loop-dataset : goal.invariant-loop-dataset
invariant-loop-dataset l =
    string_bytes l.out ≡ string_bytes l.initial.out ++ flat_map (removal_line l.names l.place) (take l.dataset-index l.removed)
