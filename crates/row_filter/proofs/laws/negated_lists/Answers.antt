use Rattle.row_filter.proofs.Negations.{not_all, not_some}
use Rattle.row_filter.proofs.laws.negated_lists.Goals as goal

pub returns-clause-all : goal.returns-clause-all
returns-clause-all c = not_all

pub returns-clause-some : goal.returns-clause-some
returns-clause-some c = not_some
