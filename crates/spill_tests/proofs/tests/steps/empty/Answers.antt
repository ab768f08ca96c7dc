use Rattle.spill_tests.proofs.Scripted.{set_drained}
use Rattle.spill_tests.proofs.tests.steps.empty.Goals as goal

pub returns-clause-set : goal.returns-clause-set
returns-clause-set g c =
    set_drained (g.M.Memory.scene c.args.memory.now) (g.M.Memory.scene c.drain.new.self) c.args.count _ _
    c.requires.set c.in_ok-drained.ensures.drains c.drain.ensures.goes c.in_ok-drained.ensures.fails.live_is
