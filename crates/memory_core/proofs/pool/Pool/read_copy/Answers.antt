use Rattle.std.proofs.Common.{sym, subst}
use Rattle.memory_core.specs.Caches.{PoolView}
use Rattle.memory_core.specs.Steady.{IsAmid}
use Rattle.memory_core.proofs.Stepping.{amid_moved}
use Rattle.memory_core.proofs.pool.Pool.read_copy.Goals as goal

pub returns-clause-amid : goal.returns-clause-amid
returns-clause-amid g c =
    let amid = subst (λ (v : PoolView). IsAmid v.setup v.history v.cache) (sym c.self.view_is) c.requires.amid in
    amid_moved _ _ _ _ amid c.copy_of.ensures.blocks c.copy_of.ensures.copies
