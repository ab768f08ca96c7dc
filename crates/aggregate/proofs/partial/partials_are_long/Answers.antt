use Rattle.aggregate.proofs.Numbers.{length-partial_of}
use Rattle.aggregate.proofs.partial.partials_are_long.Goals as goal

pub returns : goal.returns
returns c = length-partial_of
