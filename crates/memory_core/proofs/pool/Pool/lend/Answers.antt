use Rattle.std.proofs.Common.{◌≡◌, Bool, sym, ap, subst, ◌∙◌}
use Rattle.std.specs.Prelude.{IfOk, is_some}
use Rattle.block_store.specs.Stores.{held_at}
use Rattle.memory_core.specs.Caches.{PoolView}
use Rattle.memory_core.proofs.Stepping.{resident_is}
use Rattle.memory_core.proofs.pool.Pool.lend.Goals as goal

pub returns-clause-found : goal.returns-clause-found
returns-clause-found g c =
    let now = c.args.self.now in
    let there = ap (λ (v : PoolView). is_some (held_at v.cache.blocks c.args.dataset c.args.part)) c.self.view_is in
    subst (λ (b : Bool). IfOk c.lend.result (λ got. is_some got ≡ b)) (there ∙ sym (resident_is now.history now.cache c.args.dataset c.args.part c.requires.amid.in_step)) c.lend.ensures.found
