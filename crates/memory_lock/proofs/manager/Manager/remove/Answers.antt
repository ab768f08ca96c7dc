use Rattle.pool_ledger.specs.Journal.{journal_of}
use Rattle.memory_lock.proofs.Staying.{through_remove}
use Rattle.memory_lock.proofs.Turned.{keeps_pin, keeps_task, removals_add, turned}
use Rattle.memory_lock.proofs.Ending.{ends_added}
use Rattle.memory_lock.proofs.manager.Manager.remove.Goals as goal

pub returns-clause-ok : goal.returns-clause-ok
returns-clause-ok g c =
    let turn = turned c.worker.inside.pass c.args.worker.now c.take-locked.new.pass c.give.new.pass c.number-number.result (journal_of c.take-locked.result.history) (journal_of c.remove-removed.new.self.history)
    c.worker.view_is c.number-number.ensures c.take-locked.ensures.own c.take-locked.ensures.pass c.give.ensures in
    removals_add c.remove-removed.result c.args.dataset c.args.worker.now c.give.new.pass c.number-number.result (journal_of c.take-locked.result.history) c.remove-removed.new.self.history turn c.remove-removed.ensures.ok

pub returns-clause-task : goal.returns-clause-task
returns-clause-task g c =
    let turn = turned c.worker.inside.pass c.args.worker.now c.take-locked.new.pass c.give.new.pass c.number-number.result (journal_of c.take-locked.result.history) (journal_of c.remove-removed.new.self.history)
    c.worker.view_is c.number-number.ensures c.take-locked.ensures.own c.take-locked.ensures.pass c.give.ensures in
    keeps_task c.args.worker.now c.give.new.pass c.number-number.result (journal_of c.take-locked.result.history) (journal_of c.remove-removed.new.self.history) turn (through_remove c.remove-removed.result c.args.dataset c.number-number.result (journal_of c.take-locked.result.history) (journal_of c.remove-removed.new.self.history) c.remove-removed.new.self.history c.remove-removed.ensures.ok c.remove-removed.ensures.err).task

pub returns-clause-pin : goal.returns-clause-pin
returns-clause-pin g c =
    let turn = turned c.worker.inside.pass c.args.worker.now c.take-locked.new.pass c.give.new.pass c.number-number.result (journal_of c.take-locked.result.history) (journal_of c.remove-removed.new.self.history)
    c.worker.view_is c.number-number.ensures c.take-locked.ensures.own c.take-locked.ensures.pass c.give.ensures in
    keeps_pin c.args.worker.now c.give.new.pass c.number-number.result (journal_of c.take-locked.result.history) (journal_of c.remove-removed.new.self.history) turn (through_remove c.remove-removed.result c.args.dataset c.number-number.result (journal_of c.take-locked.result.history) (journal_of c.remove-removed.new.self.history) c.remove-removed.new.self.history c.remove-removed.ensures.ok c.remove-removed.ensures.err).pin

pub returns-clause-last : goal.returns-clause-last
returns-clause-last g c =
    let before = journal_of c.take-locked.result.history in
    let after = journal_of c.remove-removed.new.self.history in
    let turn = turned c.worker.inside.pass c.args.worker.now c.take-locked.new.pass c.give.new.pass c.number-number.result before after
    c.worker.view_is c.number-number.ensures c.take-locked.ensures.own c.take-locked.ensures.pass c.give.ensures in
    ends_added c.args.worker.now c.give.new.pass c.number-number.result before after turn c.remove-removed.ensures.own
