use Rattle.trial_input.proofs.Sums.{trials-fit}
use Rattle.trial_input.proofs.laws.trials_fit.Goals as goal

pub returns : goal.returns
returns c = trials-fit
