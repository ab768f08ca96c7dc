use Rattle.spill_tests.specs.Scripts.{GoesAlong, IsFreed}
use Rattle.spill_tests.proofs.tests.steps.take_rooms.Given as goal

-- the memory is ready for the next step
abbrev pub invariant-loop-step : goal.invariant-loop-step
invariant-loop-step g l = record {
  freed : IsFreed (g.M.Memory.scene l.memory) l.count l.roomed;
  along : GoesAlong (g.M.Memory.scene l.fn.memory) (g.M.Memory.scene l.memory);
}
