use Rattle.aggregate.proofs.CombinedLaws.{associative}
use Rattle.aggregate.proofs.partial.combine_is_associative.Goals as goal

pub returns : goal.returns
returns c = associative
