use Rattle.journal_replay.proofs.Known.{in_order_later}
use Rattle.journal_replay.proofs.use_order.drop_block.Goals as goal

pub returns-clause-in_order : goal.returns-clause-in_order
returns-clause-in_order c = λ place is. in_order_later c.take_out.new.order place (c.in_ok-take_out.ensures.in_order place is)
