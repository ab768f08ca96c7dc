use Rattle.std.proofs.Common.{ap, sym, ◌∙◌}
use Rattle.pool_ledger.specs.History.{open_task, was_begun}
use Rattle.memory_core.specs.Caches.{Memory}
use Rattle.memory_lock.proofs.Holding.{begins_with_nothing, never_held}
use Rattle.memory_lock.proofs.locked.Locked.begin.Goals as goal

pub begin-begun-requires-clause-free : goal.begin-begun-requires-clause-free
begin-begun-requires-clause-free g c =
    ap (λ (m : Memory). open_task m.history c.args.worker) ((λ i. (c.deref_mut.ensures.value i).state) ∙ c.self.view_is)
    ∙ (c.own_entries_decide.ensures.worker _ _ _ c.args.self.now c.args.worker c.requires.fits).open_is ∙ c.requires.free

pub begin-begun-requires-clause-fresh : goal.begin-begun-requires-clause-fresh
begin-begun-requires-clause-fresh g c =
    ap (λ (m : Memory). was_begun m.history c.args.task) ((λ i. (c.deref_mut.ensures.value i).state) ∙ c.self.view_is)
    ∙ (c.own_entries_decide.ensures.task _ _ _ c.args.self.now c.args.worker c.args.task c.requires.fits c.requires.owner).begun ∙ c.requires.fresh

pub returns-clause-nothing : goal.returns-clause-nothing
returns-clause-nothing g c =
    let own = c.own_entries_decide.ensures.task _ _ _ c.args.self.now c.args.worker c.args.task c.requires.fits c.requires.owner in
    let none = sym own.holds ∙ never_held _ c.args.self.now.history c.requires.fits.legal.permitted c.args.task (own.begun ∙ c.requires.fresh) in
    begins_with_nothing c.begin-begun.result c.args.worker c.args.task c.args.self.now.history c.deref_mut.result.now.state.history c.begin-begun.new.self.history
    (ap (λ (m : Memory). m.history) ((λ i. (c.deref_mut.ensures.value i).state) ∙ c.self.view_is)) none c.begin-begun.ensures.ok
