use Rattle.std.proofs.Common.{ap, sym, ◌∙◌}
use Rattle.std.specs.Prelude.{is_some}
use Rattle.block_store.specs.Stores.{held_at}
use Rattle.memory_core.specs.Caches.{PoolView}
use Rattle.memory_core.proofs.Stepping.{resident_is, told_resident}
use Rattle.memory_core.proofs.pool.Pool.is_resident.Goals as goal

pub returns : goal.returns
returns g c =
    let cache = c.args.self.now.cache in
    let blocks = ap (λ (v : PoolView). held_at v.cache.blocks c.args.dataset c.args.part) c.self.view_is in
    c.is_some.ensures ∙ told_resident _ c.pins.result c.pins.ensures.found c.pins.ensures.none ∙ ap is_some blocks
    ∙ sym (resident_is c.args.self.now.history cache c.args.dataset c.args.part c.requires.amid.in_step)
