use Rattle.job_answer.proofs.MissingValues.{missing-empty}
use Rattle.job_answer.proofs.missing.missing_values_are_empty.Goals as goal

pub returns : goal.returns
returns c = missing-empty
