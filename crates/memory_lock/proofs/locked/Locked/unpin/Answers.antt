use Rattle.std.proofs.Common.{ap, ◌∙◌}
use Rattle.pool_ledger.specs.Blocks.{worker_pin}
use Rattle.memory_core.specs.Caches.{Memory}
use Rattle.memory_lock.proofs.locked.Locked.unpin.Goals as goal

pub unpin-requires-clause-its_pin : goal.unpin-requires-clause-its_pin
unpin-requires-clause-its_pin g c =
    ap (λ (m : Memory). worker_pin m.history c.args.worker) ((λ i. (c.deref_mut.ensures.value i).state) ∙ c.self.view_is)
    ∙ (c.own_entries_decide.ensures.worker _ _ _ c.args.self.now c.args.worker c.requires.fits).pin_is ∙ c.requires.its_pin
