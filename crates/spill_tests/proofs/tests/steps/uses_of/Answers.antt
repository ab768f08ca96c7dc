use Rattle.std.proofs.Common.{◌∙◌}
use Rattle.spill_tests.proofs.tests.steps.uses_of.Goals as goal

pub loop-consumer-preserved : goal.loop-consumer-preserved
loop-consumer-preserved g c = record {
  live = rw c.used-used.ensures.same c.loop-consumer.invariant.live;
  consumers = rw c.used-used.ensures.same c.loop-consumer.invariant.consumers;
  same = c.used-used.ensures.same ∙ c.loop-consumer.invariant.same;
}
