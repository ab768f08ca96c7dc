use Rattle.std.proofs.Common.{◌≡◌}
use Rattle.memory_lock.specs.Workers.{HasNoPin, IsOpen, SeesMore}
use Rattle.job_tests.proofs.tests.playing.take_steps.Given as goal

-- the worker's task is open, and it has no pin
abbrev pub invariant-loop-step : goal.invariant-loop-step
invariant-loop-step g l = record {
  lock : l.worker.lock ≡ l.executor.manager.now;
  its_task : IsOpen l.worker l.task;
  free : HasNoPin l.worker;
  sees : SeesMore l.fn.worker l.worker;
}
