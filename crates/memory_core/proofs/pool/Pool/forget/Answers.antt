use Rattle.std.proofs.Common.{sym, subst}
use Rattle.memory_core.specs.Caches.{PoolView}
use Rattle.memory_core.specs.Steady.{IsAmid}
use Rattle.memory_core.proofs.Stepping.{in_step_forgotten}
use Rattle.memory_core.proofs.pool.Pool.forget.Goals as goal

pub returns-clause-amid : goal.returns-clause-amid
returns-clause-amid g c =
    let amid = subst (λ (v : PoolView). IsAmid v.setup v.history v.cache) (sym c.self.view_is) c.requires.amid in
    record {
      range = amid.range;
      permitted = amid.permitted;
      in_step = in_step_forgotten _ c.args.dataset _ _ amid.in_step c.forget.ensures.blocks c.forget.ensures.gone (λ d p other. (c.forget.ensures.others d p other).0);
    }
