use Rattle.std.proofs.Common.{sym, subst}
use Rattle.memory_core.specs.Caches.{PoolView}
use Rattle.memory_core.specs.Steady.{IsAmid}
use Rattle.pool_ledger.specs.Legal.{MayFollow}
use Rattle.memory_core.proofs.Stepping.{amid_at, amid_more, in_step_quiet}
use Rattle.memory_core.proofs.pool.Pool.add.Goals as goal

pub returns-clause-amid : goal.returns-clause-amid
returns-clause-amid g c =
    let entry = c.args.entry in
    let amid = subst (λ (v : PoolView). IsAmid v.setup v.history v.cache) (sym c.self.view_is) c.requires.amid in
    let may = subst (λ (v : PoolView). MayFollow v.setup v.history entry) (sym c.self.view_is) c.requires.next in
    amid_at _ _ _ _ _ c.push.ensures.setup c.push.ensures.history
    (amid_more _ _ _ _ entry amid may (in_step_quiet _ entry.worker entry.event _ c.requires.quiet amid.in_step))
