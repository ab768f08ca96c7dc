use Rattle.pool_laws.proofs.Safe.{legal_is_safe}
use Rattle.pool_laws.proofs.journals.legal_journals_are_safe.Goals as goal

pub returns : goal.returns
returns c = legal_is_safe
