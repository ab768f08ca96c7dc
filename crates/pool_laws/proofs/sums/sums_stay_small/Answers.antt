use Rattle.pool_laws.proofs.Small.{stays_small}
use Rattle.pool_laws.proofs.sums.sums_stay_small.Goals as goal

pub returns : goal.returns
returns c = stays_small
