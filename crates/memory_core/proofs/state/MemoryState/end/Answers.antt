use Rattle.std.proofs.Common.{ℕ, ◌≡◌, ◌<◌, ◌∷◌, Some, sym, ap, subst, ◌∙◌, arith}
use Rattle.pool_ledger.specs.declared.entry.Event.TheVariants.{End}
use Rattle.pool_ledger.specs.History.{History, held, open_task}
use Rattle.pool_ledger.specs.Journal.{journal_of}
use Rattle.pool_ledger.specs.Workers.{Continues}
use Rattle.pool_laws.specs.Growing.{entry_by}
use Rattle.memory_core.specs.Caches.{Memory}
use Rattle.memory_core.proofs.Planned.{own_planned, steady_after}
use Rattle.memory_core.proofs.state.MemoryState.end.Goals as goal

pub invariant_of-self : goal.invariant_of-self
invariant_of-self g c =
    let inside = c.self.inside.pool in
    let known = subst (λ (m : Memory). c.args.worker < m.setup.workers) (sym c.self.view_is) c.requires.known in
    let its = subst (λ (m : Memory). open_task m.history c.args.worker ≡ Some c.args.task) (sym c.self.view_is) c.requires.its_task in
    let freed = c.held-freed.ensures ∙ ap (λ (h : History). held h c.args.task) c.ledger.ensures.history in
    let next = c.states_go_on.ensures.ends inside.setup inside.history inside.cache c.args.worker c.args.task c.self.invariant.0 known its in
    let after = c.add.ensures.history ∙ ap (λ (v : ℕ). entry_by c.args.worker (End c.args.task v) ∷ inside.history) freed in
    let stays = steady_after inside.setup _ inside.history _ _ c.add.new.self.cache c.args.worker 1 0 c.add.ensures.amid c.add.ensures.setup after next.1 in
    (stays.steady, omega (arith, stays.owed_is, c.self.invariant.1), omega (arith, stays.owed_is, c.self.invariant.1, c.self.invariant.2, c.add.ensures.spare))

pub returns-clause-own : goal.returns-clause-own
returns-clause-own g c =
    let inside = c.self.inside.pool in
    let known = subst (λ (m : Memory). c.args.worker < m.setup.workers) (sym c.self.view_is) c.requires.known in
    let its = subst (λ (m : Memory). open_task m.history c.args.worker ≡ Some c.args.task) (sym c.self.view_is) c.requires.its_task in
    let freed = c.held-freed.ensures ∙ ap (λ (h : History). held h c.args.task) c.ledger.ensures.history in
    let next = c.states_go_on.ensures.ends inside.setup inside.history inside.cache c.args.worker c.args.task c.self.invariant.0 known its in
    let after = c.add.ensures.history ∙ ap (λ (v : ℕ). entry_by c.args.worker (End c.args.task v) ∷ inside.history) freed in
    subst (λ (m : Memory). Continues c.args.worker (journal_of m.history) (journal_of c.add.new.self.history)) c.self.view_is (own_planned inside.setup inside.history _ _ c.args.worker 1 0 after next.1)
