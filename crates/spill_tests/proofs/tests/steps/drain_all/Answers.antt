use Rattle.std.proofs.Common.{arith, refl}
use Rattle.task_memory.specs.Scenes.{Scene}
use Rattle.spill_tests.proofs.Scripted.{all_dry, along_on, drained_more, set_drained}
use Rattle.spill_tests.proofs.tests.steps.drain_all.Goals as goal

pub loop-consumer-init : goal.loop-consumer-init
loop-consumer-init g c = record {
  set = c.requires.set;
  drained = λ j below. absurd (omega (arith, below));
  along = (c.pools_go_on.ensures.none _ c.requires.set.live.between.rests.at_work, refl);
}

pub loop-consumer-preserved : goal.loop-consumer-preserved
loop-consumer-preserved g c =
    let old : Scene = g.M.Memory.scene c.loop-consumer.memory in
    let new : Scene = g.M.Memory.scene c.drain.new.self in
    let before = c.loop-consumer.invariant in
    let drain = c.in_ok-drained.ensures in
    let goes = c.drain.ensures.goes in
    record {
      set = set_drained old new c.args.count _ _ before.set drain.drains goes drain.fails.live_is;
      drained = drained_more old new c.args.count c.loop-consumer.consumer _ before.set c.loop-consumer-test.true before.drained drain.drains;
      along = along_on (g.M.Memory.scene c.args.memory.now) old new before.along (goes.pool, goes.stays.lent);
    }

pub returns-clause-dry : goal.returns-clause-dry
returns-clause-dry g c =
    all_dry (g.M.Memory.scene c.loop-consumer.memory) c.args.count c.loop-consumer.invariant.set
    (λ j below. c.loop-consumer.invariant.drained j (omega (arith, below, c.loop-consumer-test.false)))

pub returns-in_err-drained-clause-along : goal.returns-in_err-drained-clause-along
returns-in_err-drained-clause-along g c =
    let goes = c.drain.ensures.goes in
    along_on (g.M.Memory.scene c.args.memory.now) (g.M.Memory.scene c.loop-consumer.memory) (g.M.Memory.scene c.drain.new.self) c.loop-consumer.invariant.along (goes.pool, goes.stays.lent)

pub returns-then-is_err-clause-along : goal.returns-then-is_err-clause-along
returns-then-is_err-clause-along g c =
    let goes = c.drain.ensures.goes in
    along_on (g.M.Memory.scene c.args.memory.now) (g.M.Memory.scene c.loop-consumer.memory) (g.M.Memory.scene c.drain.new.self) c.loop-consumer.invariant.along (goes.pool, goes.stays.lent)
