use Rattle.std.proofs.Common.{◌≡◌, length, refl, arith}
use Rattle.task_memory.specs.Stacks.{Stack}
use Rattle.task_memory.specs.Words.{scene_of}
use Rattle.task_memory.proofs.Serving.{served_is}
use Rattle.task_memory.proofs.steps.TaskMemorySpillsServing.step.Goals as goal

pub returns-then-len-eq1-clause-steps : goal.returns-then-len-eq1-clause-steps
returns-then-len-eq1-clause-steps g c =
    let old : Stack = (scene_of g.C.Consumer.state g.P.Pool.state g.D.Disk.files g.D.Disk.faults c.args.self.now).stack in
    let one : length old.asks ≡ 1 = omega (arith, c.len.ensures, c.args.self.now.spills.asks.ok, c.if-len-eq1.true) in
    record {
      steps = (refl, served_is old c.requires.stands.stack one (rw c.in-Ok-None.field-0-is at c.in-Ok-None.ensures.next));
      page = c.requires.stands.page;
    }
