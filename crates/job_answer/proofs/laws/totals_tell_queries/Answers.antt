use Rattle.job_answer.proofs.Queries.{queries-tell}
use Rattle.job_answer.proofs.laws.totals_tell_queries.Goals as goal

pub returns : goal.returns
returns c = queries-tell c.totals_tell_tables.ensures
