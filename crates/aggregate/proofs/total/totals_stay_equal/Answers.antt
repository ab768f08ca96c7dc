use Rattle.aggregate.proofs.Totalling.{totals_stay}
use Rattle.aggregate.proofs.total.totals_stay_equal.Goals as goal

pub returns : goal.returns
returns c = totals_stay c.combine_is_associative.ensures
