use Rattle.pool_laws.proofs.Sound.{keeps_laws}
use Rattle.pool_laws.proofs.permitted.permitted_histories_keep_laws.Goals as goal

pub returns : goal.returns
returns c = keeps_laws
