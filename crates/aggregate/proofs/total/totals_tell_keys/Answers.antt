use Rattle.aggregate.proofs.Keyed.{totals_tell}
use Rattle.aggregate.proofs.total.totals_tell_keys.Goals as goal

pub returns : goal.returns
returns c = totals_tell c.combine_is_associative.ensures
