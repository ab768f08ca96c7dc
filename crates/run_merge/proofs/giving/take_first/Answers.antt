use Rattle.std.proofs.Common.{◌≡◌, ◌∷◌, drop}
use Rattle.run_merge.proofs.Orders.{front_taken, order_first, order_rest}
use Rattle.run_merge.proofs.giving.take_first.Goals as goal

pub returns-clause-first : goal.returns-clause-first
returns-clause-first c =
    let place = c.leave-first.result in
    let whole : c.args.order.now ≡ place ∷ drop 1 c.args.order.now = front_taken c.args.order.now place c.requires.some c.leave-first.ensures.value in
    order_first c.args.readers.now c.args.heads.now.items place (drop 1 c.args.order.now) c.requires.heads (rw whole at c.requires.order)

pub returns-clause-order : goal.returns-clause-order
returns-clause-order c =
    let place = c.leave-first.result in
    let whole : c.args.order.now ≡ place ∷ drop 1 c.args.order.now = front_taken c.args.order.now place c.requires.some c.leave-first.ensures.value in
    rw c.leave-first.ensures.rest (order_rest c.args.readers.now c.args.heads.now.items place (drop 1 c.args.order.now) c.requires.heads (rw whole at c.requires.order))
