use Rattle.pool_ledger.specs.Journal.{journal_of}
use Rattle.memory_lock.proofs.Staying.{through_pin}
use Rattle.memory_lock.proofs.Turned.{keeps_task, pin_adds, turned}
use Rattle.memory_lock.proofs.Ending.{ends_pin}
use Rattle.memory_lock.proofs.manager.Manager.pin.Goals as goal

pub returns-clause-ok : goal.returns-clause-ok
returns-clause-ok g c =
    let turn = turned c.worker.inside.pass c.args.worker.now c.take-locked.new.pass c.give.new.pass c.number-number.result (journal_of c.take-locked.result.history) (journal_of c.pin-pinned.new.self.history)
    c.worker.view_is c.number-number.ensures c.take-locked.ensures.own c.take-locked.ensures.pass c.give.ensures in
    pin_adds c.pin-pinned.result c.args.dataset c.args.part c.args.worker.now c.give.new.pass c.number-number.result (journal_of c.take-locked.result.history) c.pin-pinned.new.self.history turn c.requires.free c.pin-pinned.ensures.ok

pub returns-clause-task : goal.returns-clause-task
returns-clause-task g c =
    let turn = turned c.worker.inside.pass c.args.worker.now c.take-locked.new.pass c.give.new.pass c.number-number.result (journal_of c.take-locked.result.history) (journal_of c.pin-pinned.new.self.history)
    c.worker.view_is c.number-number.ensures c.take-locked.ensures.own c.take-locked.ensures.pass c.give.ensures in
    keeps_task c.args.worker.now c.give.new.pass c.number-number.result (journal_of c.take-locked.result.history) (journal_of c.pin-pinned.new.self.history) turn (through_pin c.pin-pinned.result c.number-number.result c.args.dataset c.args.part _ _ _ c.pin-pinned.ensures.ok c.pin-pinned.ensures.err)

pub returns-clause-last : goal.returns-clause-last
returns-clause-last g c =
    let before = journal_of c.take-locked.result.history in
    let after = journal_of c.pin-pinned.new.self.history in
    let turn = turned c.worker.inside.pass c.args.worker.now c.take-locked.new.pass c.give.new.pass c.number-number.result before after
    c.worker.view_is c.number-number.ensures c.take-locked.ensures.own c.take-locked.ensures.pass c.give.ensures in
    ends_pin c.pin-pinned.result c.args.dataset c.args.part c.args.worker.now c.give.new.pass c.number-number.result before c.pin-pinned.new.self.history turn c.pin-pinned.ensures.own c.pin-pinned.ensures.ok
