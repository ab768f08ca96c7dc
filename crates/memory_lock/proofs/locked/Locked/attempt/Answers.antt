use Rattle.std.proofs.Common.{ap, subst, sym, ◌∙◌}
use Rattle.std.specs.Prelude.{IfOk}
use Rattle.pool_ledger.specs.Sizes.{Sizes}
use Rattle.pool_ledger.specs.History.{held, open_task}
use Rattle.pool_ledger.specs.Legal.{IsPermitted}
use Rattle.pool_ledger.specs.Journal.{journal_of}
use Rattle.pool_ledger.specs.Workers.{entries_of}
use Rattle.memory_core.specs.Attempts.{granted_in}
use Rattle.memory_core.specs.Caches.{Memory}
use Rattle.memory_lock.specs.Fitting.{FitsBasis}
use Rattle.memory_lock.specs.Workers.{AddsAttempt}
use Rattle.memory_lock.proofs.Adding.{floor_as}
use Rattle.memory_lock.proofs.Answering.{attempt_fits, attempted}
use Rattle.memory_lock.proofs.Holding.{attempt_grows}
use Rattle.memory_lock.proofs.locked.Locked.attempt.Goals as goal

pub attempt-answer-requires-clause-its_task : goal.attempt-answer-requires-clause-its_task
attempt-answer-requires-clause-its_task g c =
    ap (λ (m : Memory). open_task m.history c.args.worker) ((λ i. (c.deref_mut.ensures.value i).state) ∙ c.self.view_is)
    ∙ (c.own_entries_decide.ensures.own_task _ _ _ c.args.self.now c.args.worker c.args.task c.requires.fits c.requires.its_task).open_is

pub returns-clause-fits : goal.returns-clause-fits
returns-clause-fits g c =
    attempt_fits c.attempt-answer.result _ _ g.B.Basis.rows c.args.worker c.args.task c.args.asked c.deref_mut.result.now.state c.attempt-answer.new.self
    (subst (FitsBasis g.B.Basis.sizes g.B.Basis.owner g.B.Basis.rows) (sym (((λ i. (c.deref_mut.ensures.value i).state) ∙ c.self.view_is))) c.requires.fits)
    c.attempt-answer.ensures.setup c.entries-legal.ensures.legal c.attempt-answer.ensures.ok c.attempt-answer.ensures.err c.attempt-answer.ensures.rows

pub returns-clause-ok : goal.returns-clause-ok
returns-clause-ok g c =
    subst (λ (m : Memory). IfOk c.attempt-answer.result (λ got. AddsAttempt c.args.worker c.args.task c.args.asked (granted_in got) (entries_of c.args.worker (journal_of m.history)) (entries_of c.args.worker (journal_of c.attempt-answer.new.self.history))))
    ((λ i. (c.deref_mut.ensures.value i).state) ∙ c.self.view_is)
    (attempted c.attempt-answer.result c.deref_mut.result.now.state c.attempt-answer.new.self c.args.worker c.args.task c.args.asked c.attempt-answer.ensures.ok c.attempt-answer.ensures.answer)

pub returns-clause-holds : goal.returns-clause-holds
returns-clause-holds g c =
    (c.tasks_fit_the_pool.ensures g.B.Basis.sizes g.B.Basis.owner g.B.Basis.rows c.args.self.now c.attempt-answer.new.self c.args.worker c.args.task c.requires.range c.requires.fits (returns-clause-fits g c) c.requires.its_task).most

pub returns-clause-grows : goal.returns-clause-grows
returns-clause-grows g c =
    let inside = c.deref_mut.result.now.state in
    let fits = subst (FitsBasis g.B.Basis.sizes g.B.Basis.owner g.B.Basis.rows) (sym (((λ i. (c.deref_mut.ensures.value i).state) ∙ c.self.view_is))) c.requires.fits in
    let permitted : IsPermitted inside.setup inside.history = subst (λ (s : Sizes). IsPermitted s inside.history) (sym fits.setup_is) fits.legal.permitted in
    let was = ap (λ (m : Memory). held m.history c.args.task) ((λ i. (c.deref_mut.ensures.value i).state) ∙ c.self.view_is) ∙ (c.own_entries_decide.ensures.own_task _ _ _ c.args.self.now c.args.worker c.args.task c.requires.fits c.requires.its_task).holds in
    let now = (c.tasks_fit_the_pool.ensures g.B.Basis.sizes g.B.Basis.owner g.B.Basis.rows c.args.self.now c.attempt-answer.new.self c.args.worker c.args.task c.requires.range c.requires.fits (returns-clause-fits g c) c.requires.its_task).holds in
    attempt_grows c.attempt-answer.result c.args.worker c.args.task c.args.asked inside c.attempt-answer.new.self _ _ permitted was now c.attempt-answer.ensures.ok c.attempt-answer.ensures.answer

pub returns-clause-floor : goal.returns-clause-floor
returns-clause-floor g c =
    let was = ap (λ (m : Memory). held m.history c.args.task) ((λ i. (c.deref_mut.ensures.value i).state) ∙ c.self.view_is) ∙ (c.own_entries_decide.ensures.own_task _ _ _ c.args.self.now c.args.worker c.args.task c.requires.fits c.requires.its_task).holds in
    floor_as c.attempt-answer.result _ _ c.args.asked _ _ (ap (λ (m : Memory). m.setup) ((λ i. (c.deref_mut.ensures.value i).state) ∙ c.self.view_is) ∙ c.requires.fits.setup_is) was c.attempt-answer.ensures.floor
