use Rattle.pool_laws.proofs.NextEntries.{grows}
use Rattle.pool_laws.proofs.growing.legal_histories_grow.Goals as goal

pub returns : goal.returns
returns c = grows
