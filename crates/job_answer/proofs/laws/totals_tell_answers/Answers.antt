use Rattle.job_answer.proofs.Queries.{answers-tell}
use Rattle.job_answer.proofs.laws.totals_tell_answers.Goals as goal

pub returns : goal.returns
returns c = answers-tell c.totals_tell_queries.ensures
