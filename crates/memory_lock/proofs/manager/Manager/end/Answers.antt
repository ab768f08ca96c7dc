use Rattle.std.proofs.Common.{◌∙◌, ◌∷◌, [], ℕ, subst}
use Rattle.memory_lock.proofs.Adding.{held_as}
use Rattle.pool_ledger.specs.Journal.{journal_of}
use Rattle.pool_ledger.specs.declared.entry.Event.TheVariants.{End}
use Rattle.pool_laws.specs.Growing.{entry_by}
use Rattle.memory_lock.specs.Endings.{EndsWith}
use Rattle.memory_lock.proofs.Ending.{ends}
use Rattle.memory_lock.proofs.Turned.{turned}
use Rattle.memory_lock.proofs.manager.Manager.end.Goals as goal

pub returns-clause-freed : goal.returns-clause-freed
returns-clause-freed g c =
    c.end-freed.ensures.freed ∙ held_as c.worker.inside.pass c.args.worker.now c.number-number.result c.args.task c.into_number.result c.take-locked.result c.worker.view_is c.number-number.ensures c.into_number.ensures c.take-locked.ensures.own

pub returns-clause-last : goal.returns-clause-last
returns-clause-last g c =
    let before = journal_of c.take-locked.result.history in
    let after = journal_of c.end-freed.new.self.history in
    let turn = turned c.worker.inside.pass c.args.worker.now c.take-locked.new.pass c.give.new.pass c.number-number.result before after
    c.worker.view_is c.number-number.ensures c.take-locked.ensures.own c.take-locked.ensures.pass c.give.ensures in
    subst (λ (t : ℕ). EndsWith c.give.new.pass.seen (entry_by c.args.worker.now.number (End t c.end-freed.result) ∷ [])) c.into_number.ensures
    (ends (λ n. entry_by n (End c.into_number.result c.end-freed.result) ∷ []) c.args.worker.now c.give.new.pass c.number-number.result before after turn c.end-freed.ensures.own c.end-freed.ensures.ok)
