use Rattle.std.proofs.Common.{◌≡◌, ◌<◌, ◌^◌, ◌-◌, true, false, sym, subst}
use Rattle.std.specs.Option.{IsSome}
use Rattle.block_store.specs.Stores.{held_at, pins_at}
use Rattle.pool_ledger.specs.Blocks.{is_resident}
use Rattle.pool_ledger.specs.Legal.{MayFollow}
use Rattle.pool_laws.specs.Growing.{entry_by}
use Rattle.pool_ledger.specs.declared.entry.Event.TheVariants.{Pin}
use Rattle.memory_core.specs.Caches.{PoolView}
use Rattle.memory_core.specs.Steady.{IsAmid}
use Rattle.memory_core.proofs.PinSteps.{in_step_hit, is_there, pins_are_few}
use Rattle.memory_core.proofs.Stepping.{amid_at, amid_more, may_pin}
use Rattle.memory_core.proofs.pool.Pool.pin.Goals as goal

pub pin-requires-clause-resident : goal.pin-requires-clause-resident
pin-requires-clause-resident g c =
    subst (λ (v : PoolView). IsSome (held_at v.cache.blocks c.args.dataset c.args.part)) (sym c.self.view_is)
    (is_there c.args.self.now.setup c.args.self.now.history c.args.self.now.cache c.requires.amid c.args.dataset c.args.part c.requires.resident)

pub pin-requires-clause-few : goal.pin-requires-clause-few
pin-requires-clause-few g c =
    subst (λ (v : PoolView). pins_at v.cache.blocks c.args.dataset c.args.part < 2 ^ 64 - 1) (sym c.self.view_is)
    (pins_are_few c.args.self.now.setup c.args.self.now.history c.args.self.now.cache c.requires.amid c.args.dataset c.args.part)

pub returns-clause-amid : goal.returns-clause-amid
returns-clause-amid g c =
    let d = c.args.dataset in
    let p = c.args.part in
    let amid = subst (λ (v : PoolView). IsAmid v.setup v.history v.cache) (sym c.self.view_is) c.requires.amid in
    let may = subst (λ (v : PoolView). MayFollow v.setup v.history (entry_by c.args.worker (Pin d p false))) (sym c.self.view_is) (may_pin _ _ c.args.worker d p c.requires.known c.requires.whole c.requires.resident c.requires.free) in
    let resident = subst (λ (v : PoolView). is_resident v.history d p ≡ true) (sym c.self.view_is) c.requires.resident in
    amid_at _ _ _ _ _ c.push.ensures.setup c.push.ensures.history
    (amid_more _ _ _ _ (entry_by c.args.worker (Pin d p false)) amid may (in_step_hit _ _ _ amid d p c.args.worker _ resident c.pin.ensures.last c.pin.ensures.copies))
