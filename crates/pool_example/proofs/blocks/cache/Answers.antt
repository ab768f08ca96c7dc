use Rattle.std.proofs.Common.{[], ◌∷◌, subst}
use Rattle.memory_core.specs.declared.pinned.Pinned.{Pinned}
use Rattle.memory_lock.specs.Workers.{HandsRows}
use Rattle.pool_example.proofs.blocks.cache.Goals as goal

pub returns-clause-rows : goal.returns-clause-rows
returns-clause-rows g c =
    subst (λ (pinned : Pinned). HandsRows g.B.Basis.rows pinned 1 0) c.in-Hit.is c.in_ok-block.ensures.rows ((c.args.field.now ∷ []) ∷ []) (c.requires.rows 1 0)
