use Rattle.task_memory.specs.Words.{scene_of}
use Rattle.task_memory.proofs.FeedLoop.{IsFeeding}
use Rattle.task_memory.proofs.feeding.TaskMemorySpillsFeeding.feed_at.Given as goal

-- bytes were got so many times
abbrev pub invariant-loop-got : goal.invariant-loop-got
invariant-loop-got g l =
    IsFeeding (scene_of g.C.Consumer.state g.P.Pool.state g.D.Disk.files g.D.Disk.faults l.fn.self) (scene_of g.C.Consumer.state g.P.Pool.state g.D.Disk.files g.D.Disk.faults l.self) l.place (record { key = l.key; value = l.value }) l._got
