use Rattle.spill_tests.proofs.Scripted.{freed_is}
use Rattle.spill_tests.proofs.tests.steps.free.Goals as goal

pub returns-clause-freed : goal.returns-clause-freed
returns-clause-freed g c =
    freed_is (g.M.Memory.scene c.drain_all.new.memory) (g.M.Memory.scene c.free_leasts.new.self) c.args.count
    c.in_ok-drain_all.ensures.set c.in_ok-drain_all.ensures.dry c.in_ok-free_leasts.ensures.frees c.free_leasts.ensures.draws c.in_ok-free_leasts.ensures.fails.live_is
