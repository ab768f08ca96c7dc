use Rattle.std.proofs.Common.{◌∷◌, []}
use Rattle.pool_ledger.specs.Journal.{journal_of}
use Rattle.pool_ledger.specs.declared.entry.Event.TheVariants.{Begin}
use Rattle.pool_laws.specs.Growing.{entry_by}
use Rattle.memory_lock.proofs.Ending.{ends}
use Rattle.memory_lock.proofs.Turned.{turned}
use Rattle.memory_lock.proofs.manager.Manager.begin.Goals as goal

pub returns-clause-last : goal.returns-clause-last
returns-clause-last g c =
    let before = journal_of c.take-locked.result.history in
    let after = journal_of c.begin-begun.new.self.history in
    let turn = turned c.worker.inside.pass c.args.worker.now c.take-locked.new.pass c.give.new.pass c.number-number.result before after
    c.worker.view_is c.number-number.ensures c.take-locked.ensures.own c.take-locked.ensures.pass c.give.ensures in
    ends (λ n. entry_by n (Begin c.args.task) ∷ []) c.args.worker.now c.give.new.pass c.number-number.result before after turn c.begin-begun.ensures.own c.in_ok-begun.ensures.ok
