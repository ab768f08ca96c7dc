use Rattle.aggregate.proofs.CombinedLaws.{joined_at}
use Rattle.aggregate.proofs.partial.partials_are_joined.Goals as goal

pub returns : goal.returns
returns c = joined_at
