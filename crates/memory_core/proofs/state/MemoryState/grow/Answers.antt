use Rattle.std.proofs.Common.{◌<◌, sym, ap, subst, ◌∙◌, arith}
use Rattle.pool_ledger.specs.Sizes.{Sizes}
use Rattle.pool_ledger.specs.History.{History, CanGrow}
use Rattle.pool_ledger.specs.Journal.{journal_of}
use Rattle.pool_ledger.specs.Workers.{Continues}
use Rattle.memory_core.specs.Caches.{Memory}
use Rattle.memory_core.proofs.Planned.{own_planned, steady_after}
use Rattle.memory_core.proofs.state.MemoryState.grow.Goals as goal

pub invariant_of-self : goal.invariant_of-self
invariant_of-self g c =
    let inside = c.self.inside.pool in
    let history_is = ap (λ (m : Memory). m.history) c.self.view_is ∙ c.in_ok-reserve.ensures.history in
    let setup_is = ap (λ (m : Memory). m.setup) c.self.view_is ∙ c.in_ok-reserve.ensures.setup in
    let known = subst (λ (s : Sizes). c.args.worker < s.workers) (sym setup_is) c.requires.known in
    let can = subst (λ (s : Sizes). CanGrow s inside.history c.args.worker c.args.bytes) (sym setup_is) (subst (λ (h : History). CanGrow c.args.self.now.setup h c.args.worker c.args.bytes) (sym history_is) c.requires.can) in
    let next = c.states_go_on.ensures.grows inside.setup inside.history inside.cache c.args.worker c.args.bytes c.self.invariant.0 known can in
    let stays = steady_after inside.setup _ inside.history _ _ c.add.new.self.cache c.args.worker 0 0 c.add.ensures.amid c.add.ensures.setup c.add.ensures.history next.1 in
    (stays.steady, omega (arith, stays.owed_is, c.self.invariant.1), omega (arith, c.self.invariant.2, c.add.ensures.spare, c.in_ok-reserve.ensures.ok, ap (λ (m : Memory). m.spare) c.self.view_is))

pub returns-clause-own : goal.returns-clause-own
returns-clause-own g c =
    let inside = c.self.inside.pool in
    let history_is = ap (λ (m : Memory). m.history) c.self.view_is ∙ c.in_ok-reserve.ensures.history in
    let setup_is = ap (λ (m : Memory). m.setup) c.self.view_is ∙ c.in_ok-reserve.ensures.setup in
    let known = subst (λ (s : Sizes). c.args.worker < s.workers) (sym setup_is) c.requires.known in
    let can = subst (λ (s : Sizes). CanGrow s inside.history c.args.worker c.args.bytes) (sym setup_is) (subst (λ (h : History). CanGrow c.args.self.now.setup h c.args.worker c.args.bytes) (sym history_is) c.requires.can) in
    let next = c.states_go_on.ensures.grows inside.setup inside.history inside.cache c.args.worker c.args.bytes c.self.invariant.0 known can in
    subst (λ (h : History). Continues c.args.worker (journal_of h) (journal_of c.add.new.self.history)) history_is (own_planned inside.setup inside.history _ _ c.args.worker 0 0 c.add.ensures.history next.1)
