use Rattle.trial_input.proofs.GoodInput.{trials-good}
use Rattle.trial_input.proofs.laws.trials_are_good.Goals as goal

pub returns : goal.returns
returns c = trials-good
