use Rattle.std.proofs.Common.{◌∷◌, []}
use Rattle.pool_ledger.specs.Journal.{journal_of}
use Rattle.pool_ledger.specs.declared.entry.Event.TheVariants.{Grow}
use Rattle.pool_laws.specs.Growing.{entry_by}
use Rattle.memory_lock.proofs.Adding.{can_as}
use Rattle.memory_lock.proofs.Ending.{ends_so}
use Rattle.memory_lock.proofs.Staying.{through_growth}
use Rattle.memory_lock.proofs.Turned.{keeps_pin, keeps_task, pools_grow, turned}
use Rattle.memory_lock.proofs.manager.Manager.grow.Goals as goal

pub grow-grown-requires-clause-can : goal.grow-grown-requires-clause-can
grow-grown-requires-clause-can g c =
    can_as g.B.Basis.sizes c.worker.inside.pass c.args.worker.now c.number-number.result c.args.bytes c.take-locked.result c.worker.view_is c.number-number.ensures c.take-locked.ensures.own
    record { first = c.requires.first; some = c.requires.some; few = c.requires.few; fits = c.requires.fits }

pub returns-clause-grows : goal.returns-clause-grows
returns-clause-grows g c =
    let before = journal_of c.take-locked.result.history in
    let after = journal_of c.grow-grown.new.self.history in
    let turn = turned c.worker.inside.pass c.args.worker.now c.take-locked.new.pass c.give.new.pass c.number-number.result before after
    c.worker.view_is c.number-number.ensures c.take-locked.ensures.own c.take-locked.ensures.pass c.give.ensures in
    pools_grow c.grow-grown.result c.args.bytes c.args.worker.now c.give.new.pass c.number-number.result before after turn c.grow-grown.ensures.ok

pub returns-clause-task : goal.returns-clause-task
returns-clause-task g c =
    let before = journal_of c.take-locked.result.history in
    let after = journal_of c.grow-grown.new.self.history in
    let turn = turned c.worker.inside.pass c.args.worker.now c.take-locked.new.pass c.give.new.pass c.number-number.result before after
    c.worker.view_is c.number-number.ensures c.take-locked.ensures.own c.take-locked.ensures.pass c.give.ensures in
    keeps_task c.args.worker.now c.give.new.pass c.number-number.result before after turn
    (through_growth c.grow-grown.result c.number-number.result c.args.bytes before after c.grow-grown.ensures.ok c.grow-grown.ensures.err).task

pub returns-clause-pin : goal.returns-clause-pin
returns-clause-pin g c =
    let before = journal_of c.take-locked.result.history in
    let after = journal_of c.grow-grown.new.self.history in
    let turn = turned c.worker.inside.pass c.args.worker.now c.take-locked.new.pass c.give.new.pass c.number-number.result before after
    c.worker.view_is c.number-number.ensures c.take-locked.ensures.own c.take-locked.ensures.pass c.give.ensures in
    keeps_pin c.args.worker.now c.give.new.pass c.number-number.result before after turn
    (through_growth c.grow-grown.result c.number-number.result c.args.bytes before after c.grow-grown.ensures.ok c.grow-grown.ensures.err).pin

pub returns-clause-last : goal.returns-clause-last
returns-clause-last g c =
    let before = journal_of c.take-locked.result.history in
    let after = journal_of c.grow-grown.new.self.history in
    let turn = turned c.worker.inside.pass c.args.worker.now c.take-locked.new.pass c.give.new.pass c.number-number.result before after
    c.worker.view_is c.number-number.ensures c.take-locked.ensures.own c.take-locked.ensures.pass c.give.ensures in
    ends_so c.grow-grown.result (λ n. entry_by n (Grow c.args.bytes) ∷ []) c.args.worker.now c.give.new.pass c.number-number.result before after turn c.grow-grown.ensures.own c.grow-grown.ensures.ok
