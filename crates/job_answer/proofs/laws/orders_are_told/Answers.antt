use Rattle.job_answer.proofs.Orders.{orders-tell}
use Rattle.job_answer.proofs.laws.orders_are_told.Goals as goal

pub returns : goal.returns
returns c = orders-tell c.keys_in_order.ensures c.numbers_in_order.ensures c.fields_have_one_encoding.ensures.some
