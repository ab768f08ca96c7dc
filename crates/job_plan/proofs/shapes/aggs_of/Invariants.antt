use Rattle.std.proofs.Common.{◌≡◌, map, take}
use Rattle.job_text.specs.declared.job.Part.{Part}
use Rattle.job_plan.proofs.shapes.aggs_of.Given as goal

abbrev pub invariant-loop-part : goal.invariant-loop-part
invariant-loop-part l =
    l.aggs.items ≡ map (λ (part : Part). part.agg) (take l.part-index l.parts)
