use Rattle.std.proofs.Common.{◌≡◌, ◌<◌, None, false, sym, ap, subst, ◌∙◌}
use Rattle.pool_ledger.specs.Sizes.{Sizes}
use Rattle.pool_ledger.specs.History.{History, open_task, was_begun}
use Rattle.pool_ledger.specs.Journal.{journal_of}
use Rattle.pool_ledger.specs.Workers.{Continues}
use Rattle.memory_core.specs.Caches.{Memory}
use Rattle.memory_core.proofs.Planned.{own_planned}
use Rattle.memory_core.proofs.state.MemoryState.begin.Goals as goal

pub returns-clause-own : goal.returns-clause-own
returns-clause-own g c =
    let inside = c.self.inside.pool in
    let history_is = ap (λ (m : Memory). m.history) c.self.view_is ∙ c.in_ok-reserve.ensures.history in
    let setup_is = ap (λ (m : Memory). m.setup) c.self.view_is ∙ c.in_ok-reserve.ensures.setup in
    let known = subst (λ (s : Sizes). c.args.worker < s.workers) (sym setup_is) c.requires.known in
    let free = subst (λ (h : History). open_task h c.args.worker ≡ None) (sym history_is) c.requires.free in
    let fresh = subst (λ (h : History). was_begun h c.args.task ≡ false) (sym history_is) c.requires.fresh in
    let next = c.states_go_on.ensures.begins inside.setup inside.history inside.cache c.args.worker c.args.task c.self.invariant.0 known free fresh in
    subst (λ (h : History). Continues c.args.worker (journal_of h) (journal_of c.add.new.self.history)) history_is (own_planned inside.setup inside.history _ _ c.args.worker 0 1 c.add.ensures.history next.1)
