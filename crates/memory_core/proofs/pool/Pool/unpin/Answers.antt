use Rattle.std.proofs.Common.{◌<◌, sym, subst}
use Rattle.pool_ledger.specs.declared.entry.Event.TheVariants.{Unpin}
use Rattle.pool_ledger.specs.Legal.{MayFollow}
use Rattle.pool_laws.specs.Growing.{entry_by}
use Rattle.block_store.specs.Stores.{pins_at}
use Rattle.memory_core.specs.Caches.{PoolView}
use Rattle.memory_core.specs.Steady.{IsAmid}
use Rattle.memory_core.proofs.PinSteps.{in_step_unpinned}
use Rattle.memory_core.proofs.Stepping.{amid_at, amid_more, may_unpin, pins_left}
use Rattle.memory_core.proofs.pool.Pool.unpin.Goals as goal

pub unpin-requires : goal.unpin-requires
unpin-requires g c =
    let now = c.args.self.now in
    let laws = c.permitted_histories_keep_laws.ensures now.setup now.history c.requires.amid.range.region_fits c.requires.amid.permitted in
    subst (λ (v : PoolView). 0 < pins_at v.cache.blocks c.args.dataset c.args.part) (sym c.self.view_is)
    (pins_left now.history now.cache c.args.dataset c.args.part c.requires.amid.in_step (laws.pins_keep c.args.worker c.args.dataset c.args.part c.requires.known c.requires.its_pin))

pub returns-clause-amid : goal.returns-clause-amid
returns-clause-amid g c =
    let d = c.args.dataset in
    let p = c.args.part in
    let now = c.args.self.now in
    let laws = c.permitted_histories_keep_laws.ensures now.setup now.history c.requires.amid.range.region_fits c.requires.amid.permitted in
    let amid = subst (λ (v : PoolView). IsAmid v.setup v.history v.cache) (sym c.self.view_is) c.requires.amid in
    let may = subst (λ (v : PoolView). MayFollow v.setup v.history (entry_by c.args.worker (Unpin d p))) (sym c.self.view_is) (may_unpin _ _ c.args.worker d p c.requires.known c.requires.whole c.requires.its_pin) in
    let some = subst (λ (v : PoolView). 0 < pins_at v.cache.blocks d p) (sym c.self.view_is) (pins_left now.history now.cache d p c.requires.amid.in_step (laws.pins_keep c.args.worker d p c.requires.known c.requires.its_pin)) in
    amid_at _ _ _ _ _ c.push.ensures.setup c.push.ensures.history
    (amid_more _ _ _ _ (entry_by c.args.worker (Unpin d p)) amid may (in_step_unpinned _ c.args.worker d p _ _ amid.in_step some c.unpin.ensures.blocks c.unpin.ensures.copies))
