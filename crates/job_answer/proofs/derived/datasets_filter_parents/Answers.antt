use Rattle.job_answer.proofs.Derivations.{filter-parents, input-has-all}
use Rattle.job_answer.proofs.derived.datasets_filter_parents.Goals as goal

pub returns-clause-input : goal.returns-clause-input
returns-clause-input c = input-has-all

pub returns-clause-made : goal.returns-clause-made
returns-clause-made c = filter-parents
