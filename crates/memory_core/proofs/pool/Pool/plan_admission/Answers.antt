use Rattle.std.proofs.Common.{◌≡◌, sym, ap, subst}
use Rattle.pool_plans.specs.Listed.{listed}
use Rattle.memory_core.specs.Caches.{PoolView}
use Rattle.memory_core.proofs.Choosing.{seen_listed, seen_of}
use Rattle.memory_core.proofs.pool.Pool.plan_admission.Goals as goal

pub plan_admission-requires-2-clause-listed : goal.plan_admission-requires-2-clause-listed
plan_admission-requires-2-clause-listed g c = λ _.
    let now = c.args.self.now in
    let seen = seen_of now.cache _ c.list.result.now (ap (λ (v : PoolView). v.cache.blocks) c.self.view_is) c.list.ensures.list c.list.ensures.apart in
    subst (λ (v : PoolView). c.list.result.now ≡ listed v.history) (sym c.self.view_is) (seen_listed now.history now.cache c.list.result.now seen c.requires.amid.in_step)
