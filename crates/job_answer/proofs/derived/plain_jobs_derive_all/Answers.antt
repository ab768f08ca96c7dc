use Rattle.job_answer.proofs.PlainQueries.{over_input-tells, plain-derives, plain-over_input}
use Rattle.job_answer.proofs.derived.plain_jobs_derive_all.Goals as goal

pub returns-clause-plain : goal.returns-clause-plain
returns-clause-plain c = plain-over_input

pub returns-clause-query : goal.returns-clause-query
returns-clause-query c = over_input-tells

pub returns-clause-output : goal.returns-clause-output
returns-clause-output c = plain-derives
