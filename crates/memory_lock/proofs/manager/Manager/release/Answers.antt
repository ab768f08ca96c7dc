use Rattle.std.proofs.Common.{◌∙◌, ◌∷◌, [], ℕ, subst}
use Rattle.pool_ledger.specs.Journal.{journal_of}
use Rattle.memory_lock.proofs.Staying.{through_release}
use Rattle.memory_lock.proofs.Turned.{keeps_pin, keeps_task, turned}
use Rattle.memory_lock.proofs.Adding.{freed_as, held_as}
use Rattle.std.specs.Prelude.{IfOk}
use Rattle.pool_ledger.specs.declared.entry.Event.TheVariants.{Release}
use Rattle.pool_laws.specs.Growing.{entry_by}
use Rattle.memory_lock.specs.Endings.{EndsWith}
use Rattle.memory_lock.proofs.Ending.{ends_with}
use Rattle.memory_lock.proofs.manager.Manager.release.Goals as goal

pub returns-clause-freed : goal.returns-clause-freed
returns-clause-freed g c =
    freed_as c.release-freed.result c.args.bytes _ _
    (held_as c.worker.inside.pass c.args.worker.now c.number-number.result c.args.task.now c.number.result c.take-locked.result c.worker.view_is c.number-number.ensures c.number.ensures c.take-locked.ensures.own)
    c.release-freed.ensures.freed

pub returns-clause-its_task : goal.returns-clause-its_task
returns-clause-its_task g c =
    let before = journal_of c.take-locked.result.history in
    let after = journal_of c.release-freed.new.self.history in
    let turn = turned c.worker.inside.pass c.args.worker.now c.take-locked.new.pass c.give.new.pass c.number-number.result before after
    c.worker.view_is c.number-number.ensures c.take-locked.ensures.own c.take-locked.ensures.pass c.give.ensures in
    keeps_task c.args.worker.now c.give.new.pass c.number-number.result before after turn
    (through_release c.release-freed.result c.number-number.result c.number.result _ _ c.release-freed.ensures.ok c.release-freed.ensures.err).task ∙ c.requires.its_task

pub returns-clause-pin : goal.returns-clause-pin
returns-clause-pin g c =
    let before = journal_of c.take-locked.result.history in
    let after = journal_of c.release-freed.new.self.history in
    let turn = turned c.worker.inside.pass c.args.worker.now c.take-locked.new.pass c.give.new.pass c.number-number.result before after
    c.worker.view_is c.number-number.ensures c.take-locked.ensures.own c.take-locked.ensures.pass c.give.ensures in
    keeps_pin c.args.worker.now c.give.new.pass c.number-number.result before after turn
    (through_release c.release-freed.result c.number-number.result c.number.result _ _ c.release-freed.ensures.ok c.release-freed.ensures.err).pin

pub returns-clause-last : goal.returns-clause-last
returns-clause-last g c =
    let before = journal_of c.take-locked.result.history in
    let after = journal_of c.release-freed.new.self.history in
    let turn = turned c.worker.inside.pass c.args.worker.now c.take-locked.new.pass c.give.new.pass c.number-number.result before after
    c.worker.view_is c.number-number.ensures c.take-locked.ensures.own c.take-locked.ensures.pass c.give.ensures in
    subst (λ (t : ℕ). IfOk c.release-freed.result (λ freed. EndsWith c.give.new.pass.seen (entry_by c.args.worker.now.number (Release t freed) ∷ []))) c.number.ensures
    (ends_with c.release-freed.result (λ n freed. entry_by n (Release c.number.result freed) ∷ []) c.args.worker.now c.give.new.pass c.number-number.result before after turn c.release-freed.ensures.own c.release-freed.ensures.ok)
