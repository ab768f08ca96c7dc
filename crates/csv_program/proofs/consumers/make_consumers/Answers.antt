use Rattle.std.proofs.Common.{map, subst, arith}
use Rattle.std.proofs.lemmas.List.{map_push}
use Rattle.csv_program.specs.Made.{AreMadeConsumers}
use Rattle.csv_program.specs.QueryConsumers.{state_in}
use Rattle.csv_program.proofs.Making.{made_all, made_group, made_none, made_order}
use Rattle.csv_program.proofs.consumers.make_consumers.Goals as goal

pub loop-init : goal.loop-init
loop-init c = rw c.new-consumers.ensures.items made_none

pub loop-preserved : goal.loop-preserved
loop-preserved c =
    rw (c.in_ok-push.ensures.items, map_push state_in c.loop.consumers.items c.grouping.result)
    (made_group _ _ _ c.loop.invariant c.loop-test.true c.grouping.ensures)

pub loop-2-init : goal.loop-2-init
loop-2-init c = subst (λ made. AreMadeConsumers (map state_in c.loop.consumers.items) made) (omega (arith, c.loop-test.false, c.loop.auto.counter-end)) c.loop.invariant

pub loop-2-preserved : goal.loop-2-preserved
loop-2-preserved c =
    rw (c.in_ok-push-2.ensures.items, map_push state_in c.loop-2.consumers.items c.ordering.result)
    (made_order _ _ _ _ c.loop-2.invariant (omega arith) (omega arith) c.ordering.ensures)

pub returns : goal.returns
returns c = made_all _ (subst (λ made. AreMadeConsumers (map state_in c.loop-2.consumers.items) made) (omega (arith, c.loop-2-test.false, c.loop-2.auto.counter-end)) c.loop-2.invariant)
