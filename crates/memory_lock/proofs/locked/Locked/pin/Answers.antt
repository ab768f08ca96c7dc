use Rattle.std.proofs.Common.{ap, sym, subst, ◌∙◌}
use Rattle.pool_ledger.specs.Blocks.{worker_pin}
use Rattle.memory_core.specs.Caches.{FitsRows, Memory}
use Rattle.memory_lock.proofs.Answering.{hands}
use Rattle.memory_lock.proofs.locked.Locked.pin.Goals as goal

pub pin-pinned-requires-clause-free : goal.pin-pinned-requires-clause-free
pin-pinned-requires-clause-free g c =
    ap (λ (m : Memory). worker_pin m.history c.args.worker) ((λ i. (c.deref_mut.ensures.value i).state) ∙ c.self.view_is)
    ∙ (c.own_entries_decide.ensures.worker _ _ _ c.args.self.now c.args.worker c.requires.fits).pin_is ∙ c.requires.free

pub returns-clause-rows : goal.returns-clause-rows
returns-clause-rows g c =
    hands c.pin-pinned.result g.B.Basis.rows c.args.dataset c.args.part c.deref_mut.result.now.state.cache
    (subst (λ (m : Memory). FitsRows g.B.Basis.rows m.cache) (sym (((λ i. (c.deref_mut.ensures.value i).state) ∙ c.self.view_is))) c.requires.fits.rows) c.pin-pinned.ensures.handed
