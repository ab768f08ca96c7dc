use Rattle.row_filter.specs.Chains.{links_of}
use Rattle.job_plan.specs.Making.{AreFirstPasses}
use Rattle.job_plan.proofs.passing.make_passes.Given as goal

-- the first `i` passes are made
abbrev pub invariant-loop-i : goal.invariant-loop-i
invariant-loop-i l = AreFirstPasses (links_of l.chain) l.datasets l.i l.passes.items
