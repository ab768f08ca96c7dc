use Rattle.spill_tests.proofs.Scripted.{set_acquired}
use Rattle.spill_tests.proofs.tests.steps.ask.Goals as goal

pub returns-clause-set : goal.returns-clause-set
returns-clause-set g c =
    set_acquired (g.M.Memory.scene c.args.memory.now) (g.M.Memory.scene c.acquire.new.self) c.args.count _ _ _ _
    c.requires.set c.in_ok-got.ensures.acquires c.acquire.ensures.goes c.in_ok-got.ensures.fails.live_is
