use Rattle.aggregate.proofs.NumberOrder.{numbers_order}
use Rattle.aggregate.proofs.number_key.numbers_in_order.Goals as goal

pub returns : goal.returns
returns c = numbers_order
