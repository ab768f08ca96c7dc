use Rattle.std.proofs.Common.{◌≤◌}
use Rattle.task_memory.specs.Inner.{IsStanding}
use Rattle.task_memory.specs.Scenes.{GoesOn, Scene}
use Rattle.task_memory.specs.Asks.{lacking, top_of}
use Rattle.task_memory.specs.Stacks.{IsTried}
use Rattle.task_memory.specs.Serving.{AddsRunsWithin, GetsFew, KeepsInSteps, remaining}
use Rattle.task_memory.specs.Words.{scene_of}
use Rattle.task_memory.proofs.steps.TaskMemorySpillsServing.serve.Given as goal

abbrev pub invariant-spills : goal.invariant-spills
invariant-spills g l =
    let first : Scene = scene_of g.C.Consumer.state g.P.Pool.state g.D.Disk.files g.D.Disk.faults l.fn.self in
    let now : Scene = scene_of g.C.Consumer.state g.P.Pool.state g.D.Disk.files g.D.Disk.faults l.self in
    record {
      stands : IsStanding now;
      tried : IsTried now.stack;
      moves : KeepsInSteps first.stack now.stack;
      few : GetsFew first.stack now.stack;
      few_runs : AddsRunsWithin (lacking (top_of first.stack.asks)) first.stack now.stack;
      falls : remaining now.stack ≤ remaining first.stack;
      goes : GoesOn first now;
    }

abbrev pub decreases-spills : goal.decreases-spills
decreases-spills g l = remaining (scene_of g.C.Consumer.state g.P.Pool.state g.D.Disk.files g.D.Disk.faults l.self).stack
