use Rattle.spill_tests.specs.Scripts.{GoesAlong, IsSet}
use Rattle.spill_tests.proofs.Scripted.{AreDrained}
use Rattle.spill_tests.proofs.tests.steps.drain_all.Given as goal

-- the first consumers are drained
abbrev pub invariant-loop-consumer : goal.invariant-loop-consumer
invariant-loop-consumer g l = record {
  set : IsSet (g.M.Memory.scene l.memory) l.count;
  drained : AreDrained (g.M.Memory.scene l.memory) l.consumer;
  along : GoesAlong (g.M.Memory.scene l.fn.memory) (g.M.Memory.scene l.memory);
}
