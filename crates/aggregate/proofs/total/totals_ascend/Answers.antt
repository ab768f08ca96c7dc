use Rattle.aggregate.proofs.Ascending.{totals_ascend}
use Rattle.aggregate.proofs.total.totals_ascend.Goals as goal

pub returns : goal.returns
returns c = totals_ascend
