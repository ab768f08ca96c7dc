use Rattle.std.proofs.Common.{◌≡◌, ◌≤◌, length, None, sym, ap, subst, arith}
use Rattle.pool_ledger.specs.Blocks.{evictable}
use Rattle.pool_ledger.specs.Answers.{answer}
use Rattle.pool_plans.specs.Listed.{listed}
use Rattle.memory_core.specs.Caches.{PoolView}
use Rattle.memory_core.proofs.Choosing.{goers_few, seen_listed, seen_of}
use Rattle.memory_core.proofs.pool.Pool.plan_attempt.Goals as goal

pub returns-then-room-eq0-clause-got : goal.returns-then-room-eq0-clause-got
returns-then-room-eq0-clause-got g c =
    subst (λ (v : PoolView). c.plan_attempt.result.got ≡ answer v.setup v.history c.args.task c.args.asked) c.self.view_is c.plan_attempt.ensures.got

pub plan_attempt-requires-2-clause-listed : goal.plan_attempt-requires-2-clause-listed
plan_attempt-requires-2-clause-listed g c = λ _.
    let now = c.args.self.now in
    let seen = seen_of now.cache _ c.list.result.now (ap (λ (v : PoolView). v.cache.blocks) c.self.view_is) c.list.ensures.list c.list.ensures.apart in
    subst (λ (v : PoolView). c.list.result.now ≡ listed v.history) (sym c.self.view_is) (seen_listed now.history now.cache c.list.result.now seen c.requires.amid.in_step)

pub returns-clause-got : goal.returns-clause-got
returns-clause-got g c =
    subst (λ (v : PoolView). c.plan_attempt-2.result.got ≡ answer v.setup v.history c.args.task c.args.asked) c.self.view_is c.plan_attempt-2.ensures.got

pub returns-clause-known : goal.returns-clause-known
returns-clause-known g c =
    let few = subst (λ (v : PoolView). c.plan_attempt-2.result.evictions ≤ length (evictable v.history None)) c.self.view_is c.plan_attempt-2.ensures.few in
    omega (arith, few, goers_few c.args.self.now.history c.args.self.now.cache None c.requires.amid.in_step)
