use Rattle.job_answer.proofs.ChainedRows.{landed-derived}
use Rattle.job_answer.proofs.MovedChains.{moved-have}
use Rattle.job_answer.proofs.derived.landed_rows_are_derived.Goals as goal

pub returns-clause-rows : goal.returns-clause-rows
returns-clause-rows c = landed-derived

pub returns-clause-moved : goal.returns-clause-moved
returns-clause-moved c = moved-have
