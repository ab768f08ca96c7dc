use Rattle.std.proofs.Common.{subst, sym, ◌∙◌}
use Rattle.std.specs.Prelude.{IfOk}
use Rattle.std.specs.Arc.{arc_value}
use Rattle.row_page.specs.Spelling.{page_cost}
use Rattle.pool_ledger.specs.Journal.{journal_of}
use Rattle.pool_ledger.specs.Workers.{entries_of}
use Rattle.memory_core.specs.Caches.{Memory}
use Rattle.memory_lock.specs.Fitting.{FitsBasis}
use Rattle.memory_lock.specs.Workers.{AdmissionGrows}
use Rattle.memory_lock.proofs.Answering.{admit_fits, admitted}
use Rattle.memory_lock.proofs.locked.Locked.admit.Goals as goal

pub returns-clause-fits : goal.returns-clause-fits
returns-clause-fits g c =
    admit_fits c.admit-answer.result _ _ g.B.Basis.rows c.args.worker (arc_value c.args.block) _ c.deref_mut.result.now.state c.admit-answer.new.self
    (subst (FitsBasis g.B.Basis.sizes g.B.Basis.owner g.B.Basis.rows) (sym (((λ i. (c.deref_mut.ensures.value i).state) ∙ c.self.view_is))) c.requires.fits) c.requires.rows
    c.admit-answer.ensures.setup c.entries-legal.ensures.legal c.admit-answer.ensures.ok c.admit-answer.ensures.err c.admit-answer.ensures.rows

pub returns-clause-ok : goal.returns-clause-ok
returns-clause-ok g c =
    let block = arc_value c.args.block in
    subst (λ (m : Memory). IfOk c.admit-answer.result (λ answer. AdmissionGrows answer block (page_cost block.page.rows) c.args.worker (entries_of c.args.worker (journal_of m.history)) (entries_of c.args.worker (journal_of c.admit-answer.new.self.history)) c.admit-answer.new.self.history))
    ((λ i. (c.deref_mut.ensures.value i).state) ∙ c.self.view_is)
    (admitted c.admit-answer.result c.args.worker block (page_cost block.page.rows) c.deref_mut.result.now.state c.admit-answer.new.self c.admit-answer.ensures.ok)
