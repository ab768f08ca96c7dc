use Rattle.spill_tests.specs.Scripts.{GoesAlong, IsSet}
use Rattle.spill_tests.proofs.tests.steps.take_steps.Given as goal

-- the memory is set for the next step
abbrev pub invariant-loop-step : goal.invariant-loop-step
invariant-loop-step g l = record {
  set : IsSet (g.M.Memory.scene l.memory) l.count;
  along : GoesAlong (g.M.Memory.scene l.fn.memory) (g.M.Memory.scene l.memory);
}
