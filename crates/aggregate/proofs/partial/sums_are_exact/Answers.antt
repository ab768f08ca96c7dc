use Rattle.aggregate.proofs.CombinedLaws.{exact}
use Rattle.aggregate.proofs.partial.sums_are_exact.Goals as goal

pub returns : goal.returns
returns c = exact
