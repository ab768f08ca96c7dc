use Rattle.spill_tests.proofs.Scripted.{along_on}
use Rattle.spill_tests.proofs.tests.steps.take_rooms.Goals as goal

pub loop-step-preserved : goal.loop-step-preserved
loop-step-preserved g c = record {
  freed = rw c.uses_of-uses.ensures.same c.in-Ok.ensures.freed;
  along = rw c.uses_of-uses.ensures.same (along_on (g.M.Memory.scene c.args.memory.now) (g.M.Memory.scene c.loop-step.memory) (g.M.Memory.scene c.take_room.new.memory) c.loop-step.invariant.along c.take_room.ensures.along);
}

pub returns-in_err-push-in-Ok : goal.returns-in_err-push-in-Ok
returns-in_err-push-in-Ok g c = record {
  along = rw c.uses_of-uses.ensures.same (along_on (g.M.Memory.scene c.args.memory.now) (g.M.Memory.scene c.loop-step.memory) (g.M.Memory.scene c.take_room.new.memory) c.loop-step.invariant.along c.take_room.ensures.along);
}

pub returns-in_err-push-in-Err : goal.returns-in_err-push-in-Err
returns-in_err-push-in-Err g c = record {
  along = along_on (g.M.Memory.scene c.args.memory.now) (g.M.Memory.scene c.loop-step.memory) (g.M.Memory.scene c.take_room.new.memory) c.loop-step.invariant.along c.take_room.ensures.along;
}
