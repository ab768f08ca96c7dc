use Rattle.spill_tests.proofs.Scripted.{along_on}
use Rattle.spill_tests.proofs.tests.steps.take_steps.Goals as goal

pub loop-step-preserved : goal.loop-step-preserved
loop-step-preserved g c = record {
  set = rw c.uses_of-uses.ensures.same c.in-Ok.ensures.set;
  along = rw c.uses_of-uses.ensures.same (along_on (g.M.Memory.scene c.args.memory.now) (g.M.Memory.scene c.loop-step.memory) (g.M.Memory.scene c.take_step.new.memory) c.loop-step.invariant.along c.take_step.ensures.along);
}

pub returns-in-Err-clause-along : goal.returns-in-Err-clause-along
returns-in-Err-clause-along g c =
    along_on (g.M.Memory.scene c.args.memory.now) (g.M.Memory.scene c.loop-step.memory) (g.M.Memory.scene c.take_step.new.memory) c.loop-step.invariant.along c.take_step.ensures.along
