use Rattle.std.proofs.Common.{ℕ}
use Rattle.std.specs.Prelude.{IfOk}
use Rattle.std.specs.Global.{Vec}
use Rattle.std.proofs.lemmas.Result.{IfOk-weaker}
use Rattle.run_file.specs.declared.run.Run.{Run}
use Rattle.task_memory.specs.Scenes.{Drains, Scene, place_in}
use Rattle.task_memory.specs.Words.{scene_of}
use Rattle.task_memory.proofs.Between.{drains_live}
use Rattle.task_memory.proofs.memory.TaskMemorySpillsMemory.drain.Goals as goal

pub returns-clause-drains : goal.returns-clause-drains
returns-clause-drains g c =
    let old : Scene = scene_of g.C.Consumer.state g.P.Pool.state g.D.Disk.files g.D.Disk.faults c.args.self.now in
    let new : Scene = scene_of g.C.Consumer.state g.P.Pool.state g.D.Disk.files g.D.Disk.faults c.drain_at-result.new.self in
    let place : ℕ = place_in old c.args.consumer in
    let drains : IfOk c.drain_at-result.result (λ runs. Drains old new place runs.items) = rw c.picks.ensures at c.drain_at-result.ensures.drains in
    IfOk-weaker c.drain_at-result.result (λ (runs : Vec Run). Drains old new place runs.items) (λ (runs : Vec Run). Drains old (record new { live = c.is_ok-self.result }) place runs.items)
    (λ runs drained. drains_live old new place runs.items c.is_ok-self.result drained) drains
