use Rattle.std.proofs.Common.{ℕ, ap, subst, sym, ◌∙◌}
use Rattle.pool_ledger.specs.Sizes.{Sizes}
use Rattle.pool_ledger.specs.History.{History, CanGrow}
use Rattle.memory_core.specs.Caches.{Memory}
use Rattle.memory_lock.proofs.locked.Locked.grow.Goals as goal

pub grow-grown-requires-clause-can : goal.grow-grown-requires-clause-can
grow-grown-requires-clause-can g c =
    let same = (λ i. (c.deref_mut.ensures.value i).state) ∙ c.self.view_is in
    let can = c.own_entries_decide.ensures.growths _ _ _ c.args.self.now c.args.worker c.args.bytes c.requires.fits c.requires.can in
    let sized = ap (λ (m : Memory). m.setup) same ∙ c.requires.fits.setup_is in
    subst (λ (s : Sizes). CanGrow s c.deref_mut.result.now.state.history c.args.worker c.args.bytes) (sym sized)
    (subst (λ (h : History). CanGrow g.B.Basis.sizes h c.args.worker c.args.bytes) (sym (ap (λ (m : Memory). m.history) same)) can)
