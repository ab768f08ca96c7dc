use Rattle.std.proofs.Common.{◌<◌, List, sym, ap, subst, ◌∙◌}
use Rattle.std.specs.List.{list_any}
use Rattle.pool_ledger.specs.Sizes.{Sizes}
use Rattle.pool_ledger.specs.History.{History}
use Rattle.pool_ledger.specs.Journal.{journal_of}
use Rattle.pool_ledger.specs.Workers.{Continues}
use Rattle.block_store.specs.Stores.{HeldBlock}
use Rattle.memory_core.specs.Caches.{Cache, Memory, PoolView}
use Rattle.memory_core.specs.Changes.{StillFits, may_be_removed}
use Rattle.memory_core.proofs.Fitting.{cleared_fits}
use Rattle.memory_core.proofs.Planned.{own_planned, pinned_alone}
use Rattle.memory_core.proofs.state.MemoryState.remove.Goals as goal

pub returns-clause-own : goal.returns-clause-own
returns-clause-own g c =
    let inside = c.self-2.inside.pool in
    let gone = c.remove.ensures.removes in
    let history_is = ap (λ (m : Memory). m.history) c.self-2.view_is ∙ c.in_ok-reserve.ensures.history ∙ ap (λ (v : PoolView). v.history) c.removable-count.ensures.same ∙ ap (λ (m : Memory). m.history) c.self.view_is in
    let setup_is = ap (λ (m : Memory). m.setup) c.self-2.view_is ∙ c.in_ok-reserve.ensures.setup ∙ ap (λ (v : PoolView). v.setup) c.removable-count.ensures.same ∙ ap (λ (m : Memory). m.setup) c.self.view_is in
    let known = subst (λ (s : Sizes). c.args.worker < s.workers) (sym setup_is) c.requires.known in
    let next = c.states_go_on.ensures.removes inside.setup inside.history _ inside.cache.blocks _ c.args.worker c.args.dataset 0 gone.1 gone.0 known c.self-2.invariant.0.whole gone.2 in
    subst (λ (h : History). Continues c.args.worker (journal_of h) (journal_of c.forget.new.self.history)) history_is (own_planned inside.setup inside.history _ _ c.args.worker 0 0 c.forget.ensures.history next)

pub returns-clause-rows : goal.returns-clause-rows
returns-clause-rows g c =
    let inside = c.self-2.inside.pool in
    let gone = c.remove.ensures.removes in
    let cache_is = ap (λ (m : Memory). m.cache) c.self-2.view_is ∙ c.in_ok-reserve.ensures.cache ∙ ap (λ (v : PoolView). v.cache) c.removable-count.ensures.same ∙ ap (λ (m : Memory). m.cache) c.self.view_is in
    subst (λ (k : Cache). StillFits k c.forget.new.self.cache) cache_is
    (cleared_fits c.args.worker c.args.dataset gone.1 gone.0 inside.history _ inside.cache c.remove.new.self.cache c.forget.new.self.cache gone.2 c.remove.ensures.disk c.forget.ensures.blocks c.forget.ensures.gone c.forget.ensures.others c.forget.ensures.tells)

pub returns-clause-left : goal.returns-clause-left
returns-clause-left g c =
    pinned_alone c.args.dataset c.forget.new.self.history c.forget.new.self.cache c.forget.ensures.amid.in_step
    (ap (λ (bs : List HeldBlock). list_any (may_be_removed c.args.dataset) bs) c.forget.ensures.blocks ∙ c.remove.ensures.none_left)
