use Rattle.std.proofs.Common.{◌≡◌, arith}
use Rattle.memory_core.proofs.Turning.{none_left_to_go, through_all, through_more, through_next, through_none}
use Rattle.memory_core.proofs.pool.Pool.evict.Goals as goal

pub loop-step-init : goal.loop-step-init
loop-step-init g c = through_none c.args.worker c.args.except c.args.count c.args.self.now c.requires.amid c.requires.whole

pub evict_first-requires-clause-next : goal.evict_first-requires-clause-next
evict_first-requires-clause-next g c =
    through_next c.args.worker c.args.except c.args.count c.loop-step._step c.args.self.now c.loop-step.self c.loop-step-test.true c.requires.few c.loop-step.invariant

pub loop-step-preserved : goal.loop-step-preserved
loop-step-preserved g c =
    through_more c.args.worker c.args.except c.args.count c.loop-step._step c.args.self.now c.loop-step.self c.evict_first.new.self c.loop-step-test.true c.requires.few c.loop-step.invariant
    c.evict_first.ensures.amid c.evict_first.ensures.evicts c.evict_first.ensures.spare c.evict_first.ensures.room c.evict_first.ensures.setup

pub returns-clause-evicts : goal.returns-clause-evicts
returns-clause-evicts g c =
    let last : c.loop-step._step ≡ c.args.count = omega (arith, c.loop-step.auto._step-end, c.loop-step-test.false) in
    (through_all c.args.worker c.args.except c.args.count c.loop-step._step c.args.self.now c.loop-step.self last c.loop-step.invariant).evicts

pub returns-clause-evicting : goal.returns-clause-evicting
returns-clause-evicting g c =
    let last : c.loop-step._step ≡ c.args.count = omega (arith, c.loop-step.auto._step-end, c.loop-step-test.false) in
    none_left_to_go c.args.worker c.args.except c.args.count c.args.self.now c.loop-step.self
    (through_all c.args.worker c.args.except c.args.count c.loop-step._step c.args.self.now c.loop-step.self last c.loop-step.invariant)
