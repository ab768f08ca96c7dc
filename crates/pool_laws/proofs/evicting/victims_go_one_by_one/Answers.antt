use Rattle.pool_laws.proofs.Evictions.{one_by_one}
use Rattle.pool_laws.proofs.evicting.victims_go_one_by_one.Goals as goal

pub returns : goal.returns
returns c = one_by_one
