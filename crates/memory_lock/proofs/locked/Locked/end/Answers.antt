use Rattle.std.proofs.Common.{ap, ◌∙◌}
use Rattle.pool_ledger.specs.History.{held, open_task}
use Rattle.memory_core.specs.Caches.{Memory}
use Rattle.memory_lock.proofs.locked.Locked.end.Goals as goal

pub end-freed-requires-clause-its_task : goal.end-freed-requires-clause-its_task
end-freed-requires-clause-its_task g c =
    ap (λ (m : Memory). open_task m.history c.args.worker) ((λ i. (c.deref_mut.ensures.value i).state) ∙ c.self.view_is)
    ∙ (c.own_entries_decide.ensures.own_task _ _ _ c.args.self.now c.args.worker c.args.task c.requires.fits c.requires.its_task).open_is

pub returns-clause-freed : goal.returns-clause-freed
returns-clause-freed g c =
    c.end-freed.ensures.freed ∙ ap (λ (m : Memory). held m.history c.args.task) ((λ i. (c.deref_mut.ensures.value i).state) ∙ c.self.view_is)
    ∙ (c.own_entries_decide.ensures.own_task _ _ _ c.args.self.now c.args.worker c.args.task c.requires.fits c.requires.its_task).holds
