use Rattle.pool_ledger.specs.Journal.{journal_of}
use Rattle.row_page.specs.Spelling.{page_cost}
use Rattle.std.specs.Arc.{arc_value}
use Rattle.memory_lock.proofs.Staying.{through_admit}
use Rattle.memory_lock.proofs.Turned.{admission_adds, keeps_pin, keeps_task, turned}
use Rattle.memory_lock.proofs.Ending.{ends_admission}
use Rattle.memory_lock.proofs.manager.Manager.admit.Goals as goal

pub returns-clause-ok : goal.returns-clause-ok
returns-clause-ok g c =
    let turn = turned c.worker.inside.pass c.args.worker.now c.take-locked.new.pass c.give.new.pass c.number-number.result (journal_of c.take-locked.result.history) (journal_of c.admit-answer.new.self.history)
    c.worker.view_is c.number-number.ensures c.take-locked.ensures.own c.take-locked.ensures.pass c.give.ensures in
    admission_adds c.admit-answer.result (arc_value c.args.block) (page_cost (arc_value c.args.block).page.rows) c.args.worker.now c.give.new.pass c.number-number.result (journal_of c.take-locked.result.history) c.admit-answer.new.self.history turn c.admit-answer.ensures.ok

pub returns-clause-task : goal.returns-clause-task
returns-clause-task g c =
    let turn = turned c.worker.inside.pass c.args.worker.now c.take-locked.new.pass c.give.new.pass c.number-number.result (journal_of c.take-locked.result.history) (journal_of c.admit-answer.new.self.history)
    c.worker.view_is c.number-number.ensures c.take-locked.ensures.own c.take-locked.ensures.pass c.give.ensures in
    keeps_task c.args.worker.now c.give.new.pass c.number-number.result (journal_of c.take-locked.result.history) (journal_of c.admit-answer.new.self.history) turn (through_admit c.admit-answer.result (arc_value c.args.block) (page_cost (arc_value c.args.block).page.rows) c.number-number.result _ _ _ c.admit-answer.ensures.ok c.admit-answer.ensures.err).task

pub returns-clause-pin : goal.returns-clause-pin
returns-clause-pin g c =
    let turn = turned c.worker.inside.pass c.args.worker.now c.take-locked.new.pass c.give.new.pass c.number-number.result (journal_of c.take-locked.result.history) (journal_of c.admit-answer.new.self.history)
    c.worker.view_is c.number-number.ensures c.take-locked.ensures.own c.take-locked.ensures.pass c.give.ensures in
    keeps_pin c.args.worker.now c.give.new.pass c.number-number.result (journal_of c.take-locked.result.history) (journal_of c.admit-answer.new.self.history) turn (through_admit c.admit-answer.result (arc_value c.args.block) (page_cost (arc_value c.args.block).page.rows) c.number-number.result _ _ _ c.admit-answer.ensures.ok c.admit-answer.ensures.err).pin

pub returns-clause-last : goal.returns-clause-last
returns-clause-last g c =
    let before = journal_of c.take-locked.result.history in
    let after = journal_of c.admit-answer.new.self.history in
    let turn = turned c.worker.inside.pass c.args.worker.now c.take-locked.new.pass c.give.new.pass c.number-number.result before after
    c.worker.view_is c.number-number.ensures c.take-locked.ensures.own c.take-locked.ensures.pass c.give.ensures in
    ends_admission c.admit-answer.result (arc_value c.args.block) (page_cost (arc_value c.args.block).page.rows) c.args.worker.now c.give.new.pass c.number-number.result before c.admit-answer.new.self.history turn c.admit-answer.ensures.own c.admit-answer.ensures.ok
