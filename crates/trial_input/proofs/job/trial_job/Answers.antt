use Rattle.trial_input.proofs.WholeJob.{made-whole}
use Rattle.trial_input.proofs.job.trial_job.Goals as goal

pub returns-clause-whole : goal.returns-clause-whole
returns-clause-whole c = made-whole c.made_job.result c.made_job.ensures
