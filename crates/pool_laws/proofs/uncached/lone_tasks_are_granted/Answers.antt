use Rattle.pool_laws.proofs.Lone.{lone_is_granted}
use Rattle.pool_laws.proofs.uncached.lone_tasks_are_granted.Goals as goal

pub returns : goal.returns
returns c = lone_is_granted
