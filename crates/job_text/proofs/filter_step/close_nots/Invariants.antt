use Rattle.std.proofs.Common.{◌≡◌, length}
use Rattle.job_text.specs.FilterStep.{close_nots}
use Rattle.job_text.proofs.filter_step.close_nots.Given as goal

-- what is left to close makes the same unit
abbrev pub invariant-loop-alloc : goal.invariant-loop-alloc
invariant-loop-alloc l = close_nots l.around l.unit ≡ close_nots l.fn.around l.fn.unit

abbrev pub decreases-loop-alloc : goal.decreases-loop-alloc
decreases-loop-alloc l = length l.around
