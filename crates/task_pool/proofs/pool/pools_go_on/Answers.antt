use Rattle.task_pool.proofs.GoingOn.{asks_on, goes_none, goes_on}
use Rattle.task_pool.proofs.pool.pools_go_on.Goals as goal

pub returns : goal.returns
returns c = record { none = goes_none; more = goes_on; asks = asks_on }
