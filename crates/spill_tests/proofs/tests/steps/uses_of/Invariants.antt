use Rattle.std.proofs.Common.{◌≡◌, length}
use Rattle.task_memory.specs.Scenes.{IsLive}
use Rattle.spill_tests.proofs.tests.steps.uses_of.Given as goal

-- nothing changes
abbrev pub invariant-loop-consumer : goal.invariant-loop-consumer
invariant-loop-consumer g l = record {
  live : IsLive (g.M.Memory.scene l.memory);
  consumers : length (g.M.Memory.scene l.memory).stack.picks ≡ l.count;
  same : g.M.Memory.scene l.memory ≡ g.M.Memory.scene l.fn.memory;
}
