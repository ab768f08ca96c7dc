use Rattle.job_answer.proofs.Queries.{tables-tell}
use Rattle.job_answer.proofs.laws.totals_tell_tables.Goals as goal

pub returns : goal.returns
returns c = tables-tell c.groups_are_told.ensures c.orders_are_told.ensures
