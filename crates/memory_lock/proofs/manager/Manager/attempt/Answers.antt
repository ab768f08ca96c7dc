use Rattle.std.proofs.Common.{◌∙◌, ◌≤◌, ◌^◌, ℕ, ap, subst, refl}
use Rattle.pool_ledger.specs.History.{History, held}
use Rattle.pool_ledger.specs.Journal.{journal_of}
use Rattle.memory_core.specs.Caches.{Memory}
use Rattle.memory_lock.proofs.Staying.{StaysSo, through_attempt}
use Rattle.memory_lock.specs.Fitting.{own_in}
use Rattle.memory_lock.proofs.Adding.{held_as, floor_as}
use Rattle.memory_lock.proofs.Turned.{grows_as, held_after, keeps_pin, keeps_task, turned}
use Rattle.std.specs.Prelude.{IfOk}
use Rattle.pool_ledger.specs.Workers.{Continues, entries_of}
use Rattle.memory_core.specs.Attempts.{granted_in}
use Rattle.memory_lock.specs.Endings.{EndsWithAttempt}
use Rattle.memory_lock.specs.Workers.{AddsAttempt}
use Rattle.memory_lock.proofs.Ending.{ends_attempt}
use Rattle.memory_lock.proofs.manager.Manager.attempt.Goals as goal

pub returns-clause-its_task : goal.returns-clause-its_task
returns-clause-its_task g c =
    let after = journal_of c.attempt-answer.new.self.history in
    let stays = subst (λ (m : Memory). StaysSo c.number-number.result (journal_of m.history) after) c.asks_first-first.ensures
    (through_attempt c.attempt-answer.result c.number-number.result c.number.result c.args.asked _ _ c.attempt-answer.ensures.ok c.attempt-answer.ensures.err) in
    let turn = turned c.worker.inside.pass c.args.worker.now c.take-locked.new.pass c.give.new.pass c.number-number.result (journal_of c.take-locked.result.history) after
    c.worker.view_is c.number-number.ensures c.take-locked.ensures.own c.take-locked.ensures.pass c.give.ensures in
    keeps_task c.args.worker.now c.give.new.pass c.number-number.result (journal_of c.take-locked.result.history) after turn stays.task ∙ c.requires.its_task

pub returns-clause-pin : goal.returns-clause-pin
returns-clause-pin g c =
    let after = journal_of c.attempt-answer.new.self.history in
    let stays = subst (λ (m : Memory). StaysSo c.number-number.result (journal_of m.history) after) c.asks_first-first.ensures
    (through_attempt c.attempt-answer.result c.number-number.result c.number.result c.args.asked _ _ c.attempt-answer.ensures.ok c.attempt-answer.ensures.err) in
    let turn = turned c.worker.inside.pass c.args.worker.now c.take-locked.new.pass c.give.new.pass c.number-number.result (journal_of c.take-locked.result.history) after
    c.worker.view_is c.number-number.ensures c.take-locked.ensures.own c.take-locked.ensures.pass c.give.ensures in
    keeps_pin c.args.worker.now c.give.new.pass c.number-number.result (journal_of c.take-locked.result.history) after turn stays.pin

pub returns-clause-grows : goal.returns-clause-grows
returns-clause-grows g c =
    let after = journal_of c.attempt-answer.new.self.history in
    let turn = turned c.worker.inside.pass c.args.worker.now c.take-locked.new.pass c.give.new.pass c.number-number.result (journal_of c.take-locked.result.history) after
    c.worker.view_is c.number-number.ensures c.take-locked.ensures.own c.take-locked.ensures.pass c.give.ensures in
    let before = ap (λ (m : Memory). own_in c.number-number.result m) c.asks_first-first.ensures in
    let was = ap (λ (h : History). held h c.number.result) before ∙ held_as c.worker.inside.pass c.args.worker.now c.number-number.result c.args.task.now c.number.result c.take-locked.result c.worker.view_is c.number-number.ensures c.number.ensures c.take-locked.ensures.own in
    grows_as c.attempt-answer.result _ _ _ _ was (held_after turn c.args.task.now c.number.result c.number.ensures) c.attempt-answer.ensures.grows

pub returns-clause-holds : goal.returns-clause-holds
returns-clause-holds g c =
    let after = journal_of c.attempt-answer.new.self.history in
    let turn = turned c.worker.inside.pass c.args.worker.now c.take-locked.new.pass c.give.new.pass c.number-number.result (journal_of c.take-locked.result.history) after
    c.worker.view_is c.number-number.ensures c.take-locked.ensures.own c.take-locked.ensures.pass c.give.ensures in
    subst (λ (n : ℕ). n ≤ 2 ^ 41) (held_after turn c.args.task.now c.number.result c.number.ensures) c.attempt-answer.ensures.holds

pub returns-clause-floor : goal.returns-clause-floor
returns-clause-floor g c =
    let was = ap (λ (m : Memory). held (own_in c.number-number.result m) c.number.result) c.asks_first-first.ensures
    ∙ held_as c.worker.inside.pass c.args.worker.now c.number-number.result c.args.task.now c.number.result c.take-locked.result c.worker.view_is c.number-number.ensures c.number.ensures c.take-locked.ensures.own in
    floor_as c.attempt-answer.result _ _ c.args.asked _ _ refl was c.attempt-answer.ensures.floor

pub returns-clause-last : goal.returns-clause-last
returns-clause-last g c =
    let before = journal_of c.take-locked.result.history in
    let after = journal_of c.attempt-answer.new.self.history in
    let turn = turned c.worker.inside.pass c.args.worker.now c.take-locked.new.pass c.give.new.pass c.number-number.result before after
    c.worker.view_is c.number-number.ensures c.take-locked.ensures.own c.take-locked.ensures.pass c.give.ensures in
    let more = subst (λ (m : Memory). Continues c.number-number.result (journal_of m.history) after) c.asks_first-first.ensures c.attempt-answer.ensures.own in
    let adds = subst (λ (m : Memory). IfOk c.attempt-answer.result (λ got. AddsAttempt c.number-number.result c.number.result c.args.asked (granted_in got) (entries_of c.number-number.result (journal_of m.history)) (entries_of c.number-number.result after))) c.asks_first-first.ensures c.attempt-answer.ensures.ok in
    subst (λ (t : ℕ). IfOk c.attempt-answer.result (λ got. EndsWithAttempt c.args.worker.now.number t c.args.asked (granted_in got) c.give.new.pass.seen)) c.number.ensures
    (ends_attempt c.attempt-answer.result c.number.result c.args.asked c.args.worker.now c.give.new.pass c.number-number.result before c.attempt-answer.new.self.history turn more adds)
