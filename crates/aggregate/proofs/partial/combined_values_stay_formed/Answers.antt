use Rattle.aggregate.proofs.Tested.{stays_value}
use Rattle.aggregate.proofs.partial.combined_values_stay_formed.Goals as goal

pub returns : goal.returns
returns c = stays_value
