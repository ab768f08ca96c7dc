use Rattle.std.proofs.Common.{subst, sym, ◌∙◌}
use Rattle.std.specs.Prelude.{OnOk}
use Rattle.pool_ledger.specs.Journal.{journal_of}
use Rattle.pool_ledger.specs.Workers.{entries_of}
use Rattle.memory_core.specs.Caches.{Memory}
use Rattle.memory_lock.specs.Fitting.{FitsBasis}
use Rattle.memory_lock.specs.Workers.{RemovalGrows}
use Rattle.memory_lock.proofs.Answering.{remove_fits, removed}
use Rattle.memory_lock.proofs.locked.Locked.remove.Goals as goal

pub returns-clause-fits : goal.returns-clause-fits
returns-clause-fits g c =
    remove_fits c.remove-removed.result _ _ g.B.Basis.rows c.args.worker c.args.dataset c.deref_mut.result.now.state c.remove-removed.new.self
    (subst (FitsBasis g.B.Basis.sizes g.B.Basis.owner g.B.Basis.rows) (sym (((λ i. (c.deref_mut.ensures.value i).state) ∙ c.self.view_is))) c.requires.fits)
    c.remove-removed.ensures.setup c.entries-legal.ensures.legal c.remove-removed.ensures.ok c.remove-removed.ensures.err c.remove-removed.ensures.rows

pub returns-clause-ok : goal.returns-clause-ok
returns-clause-ok g c =
    subst (λ (m : Memory). OnOk c.remove-removed.result (RemovalGrows c.args.dataset c.args.worker (entries_of c.args.worker (journal_of m.history)) (entries_of c.args.worker (journal_of c.remove-removed.new.self.history)) c.remove-removed.new.self.history))
    ((λ i. (c.deref_mut.ensures.value i).state) ∙ c.self.view_is)
    (removed c.remove-removed.result c.args.worker c.args.dataset c.deref_mut.result.now.state c.remove-removed.new.self c.remove-removed.ensures.ok c.remove-removed.ensures.left)
