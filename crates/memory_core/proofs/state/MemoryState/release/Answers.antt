use Rattle.std.proofs.Common.{ℕ, ◌≡◌, ◌<◌, ◌∷◌, min, Some, sym, ap, subst, ◌∙◌, arith}
use Rattle.pool_ledger.specs.declared.entry.Event.TheVariants.{Release}
use Rattle.pool_ledger.specs.Sizes.{Sizes}
use Rattle.pool_ledger.specs.History.{History, held, open_task}
use Rattle.pool_ledger.specs.Journal.{journal_of}
use Rattle.pool_ledger.specs.Workers.{Continues}
use Rattle.pool_laws.specs.Growing.{entry_by}
use Rattle.memory_core.specs.Caches.{Memory}
use Rattle.memory_core.proofs.Planned.{own_planned, steady_after}
use Rattle.memory_core.proofs.state.MemoryState.release.Goals as goal

pub invariant_of-self : goal.invariant_of-self
invariant_of-self g c =
    let inside = c.self-2.inside.pool in
    let history_is = ap (λ (m : Memory). m.history) c.self-2.view_is ∙ c.in_ok-reserve.ensures.history in
    let setup_is = ap (λ (m : Memory). m.setup) c.self-2.view_is ∙ c.in_ok-reserve.ensures.setup in
    let known = subst (λ (s : Sizes). c.args.worker < s.workers) (sym setup_is) c.requires.known in
    let its = subst (λ (h : History). open_task h c.args.worker ≡ Some c.args.task) (sym history_is) c.requires.its_task in
    let holds = c.held.ensures ∙ ap (λ (h : History). held h c.args.task) (c.ledger.ensures.history ∙ ap (λ (m : Memory). m.history) c.self.view_is ∙ sym history_is) in
    let freed = c.min-freed.ensures ∙ ap (λ (v : ℕ). min c.args.bytes v) holds in
    let next = c.states_go_on.ensures.releases inside.setup inside.history inside.cache c.args.worker c.args.task c.args.bytes c.self-2.invariant.0 known its in
    let after = c.add.ensures.history ∙ ap (λ (v : ℕ). entry_by c.args.worker (Release c.args.task v) ∷ inside.history) freed in
    let stays = steady_after inside.setup _ inside.history _ _ c.add.new.self.cache c.args.worker 0 0 c.add.ensures.amid c.add.ensures.setup after next.1 in
    (stays.steady, omega (arith, stays.owed_is, c.self-2.invariant.1), omega (arith, c.self-2.invariant.2, c.add.ensures.spare, c.in_ok-reserve.ensures.ok, ap (λ (m : Memory). m.spare) c.self-2.view_is))

pub returns-clause-own : goal.returns-clause-own
returns-clause-own g c =
    let inside = c.self-2.inside.pool in
    let history_is = ap (λ (m : Memory). m.history) c.self-2.view_is ∙ c.in_ok-reserve.ensures.history in
    let setup_is = ap (λ (m : Memory). m.setup) c.self-2.view_is ∙ c.in_ok-reserve.ensures.setup in
    let known = subst (λ (s : Sizes). c.args.worker < s.workers) (sym setup_is) c.requires.known in
    let its = subst (λ (h : History). open_task h c.args.worker ≡ Some c.args.task) (sym history_is) c.requires.its_task in
    let holds = c.held.ensures ∙ ap (λ (h : History). held h c.args.task) (c.ledger.ensures.history ∙ ap (λ (m : Memory). m.history) c.self.view_is ∙ sym history_is) in
    let freed = c.min-freed.ensures ∙ ap (λ (v : ℕ). min c.args.bytes v) holds in
    let next = c.states_go_on.ensures.releases inside.setup inside.history inside.cache c.args.worker c.args.task c.args.bytes c.self-2.invariant.0 known its in
    let after = c.add.ensures.history ∙ ap (λ (v : ℕ). entry_by c.args.worker (Release c.args.task v) ∷ inside.history) freed in
    subst (λ (h : History). Continues c.args.worker (journal_of h) (journal_of c.add.new.self.history)) history_is (own_planned inside.setup inside.history _ _ c.args.worker 0 0 after next.1)
