use Rattle.spill_tests.proofs.Scripted.{set_fed}
use Rattle.spill_tests.proofs.tests.steps.put.Goals as goal

pub returns-clause-set : goal.returns-clause-set
returns-clause-set g c =
    set_fed (g.M.Memory.scene c.args.memory.now) (g.M.Memory.scene c.feed.new.self) c.args.count _ _
    c.requires.set c.in_ok-feed.ensures.feeds.fed c.feed.ensures.goes c.in_ok-feed.ensures.fails.live_is
