use Rattle.std.proofs.Common.{◌<◌, List, length, ap, subst, sym, ◌∙◌}
use Rattle.std.specs.Prelude.{All}
use Rattle.run_file.specs.declared.run.Run.{Run}
use Rattle.task_memory.specs.RunLists.{IsTaskRun, lists_of}
use Rattle.task_memory.specs.Scenes.{IsBetween, Scene}
use Rattle.task_memory.specs.Words.{scene_of}
use Rattle.task_memory.proofs.Between.{between_kept, between_taken}
use Rattle.task_memory.proofs.Taken.{adds_only, drains_totals, takes_new}
use Rattle.task_memory.proofs.draining.TaskMemorySpillsDraining.drain_at.Goals as goal

pub returns-in-Ok-clause-drains : goal.returns-in-Ok-clause-drains
returns-in-Ok-clause-drains g c =
    let consumers = c.args.self.now.consumers.now in
    let old : Scene = scene_of g.C.Consumer.state g.P.Pool.state g.D.Disk.files g.D.Disk.faults c.args.self.now in
    let mid : Scene = scene_of g.C.Consumer.state g.P.Pool.state g.D.Disk.files g.D.Disk.faults c.empty.new.self in
    let new : Scene = scene_of g.C.Consumer.state g.P.Pool.state g.D.Disk.files g.D.Disk.faults (record c.empty.new.self { spills = c.take_runs.new.self }) in
    let runs = lists_of c.empty.new.self.spills.runs.items in
    let taken : List Run = c.take_runs.result.items in
    let within : c.args.place < length old.stack.states = c.requires.within in
    let empties = c.in-Ok.ensures.empties in
    let keeps = empties.keeps in
    let goes = c.empty.ensures.goes in
    let between : IsBetween mid = between_kept old mid c.requires.between keeps goes empties.page in
    let picks = ap (λ (each : _). each.items) c.take_runs.ensures.picks in
    record {
      empty = empties.empty;
      kept = keeps.kept;
      picks = picks ∙ keeps.picks;
      bounded = subst (λ (list : List Run). All IsTaskRun list) (sym c.take_runs.ensures.taken) (keeps.ready.bounded c.args.place);
      totals = drains_totals old.stack new.stack runs c.args.place taken within goes.same keeps.runs.totals empties.empty c.take_runs.ensures.taken c.take_runs.ensures.runs;
      new_files = takes_new old.stack runs c.args.place taken keeps.runs.grow keeps.runs.added c.take_runs.ensures.taken;
      only = adds_only old.stack new.stack runs c.args.place taken keeps.runs c.take_runs.ensures.taken c.take_runs.ensures.runs;
      between = between_taken mid _ _ _ _ _ _ c.args.place between c.take_runs.ensures.runs picks c.take_runs.ensures.page (ap (λ (each : _). each.items) c.take_runs.ensures.asks) c.take_runs.ensures.deepest;
    }
