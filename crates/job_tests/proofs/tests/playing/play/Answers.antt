use Rattle.job_plan.specs.Plans.{chain_in}
use Rattle.job_tests.proofs.Alone.{last_is}
use Rattle.job_tests.proofs.Planned.{planned}
use Rattle.job_tests.proofs.tests.playing.play.Goals as goal

pub play_steps-requires-clause-worker : goal.play_steps-requires-clause-worker
play_steps-requires-clause-worker g c =
    last_is c.in_ok-manager.manager g.B.Basis.sizes.workers c.in_ok-manager.workers.items c.pop.new.self.items c.in-Some.worker c.in_ok-manager.ensures.workers c.in-Some.ensures.items

pub play_steps-requires-clause-lineage : goal.play_steps-requires-clause-lineage
play_steps-requires-clause-lineage g c =
    planned c.chain-2.result.now (chain_in c.in_ok-plan.plan) c.deref.result.now 4 c.base.result c.chain-2.ensures.fits c.chain-2.ensures.is (rw c.chain.ensures.is at c.base.ensures) c.if-base-gt4096.false
