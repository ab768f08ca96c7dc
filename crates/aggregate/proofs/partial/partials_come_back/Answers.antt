use Rattle.aggregate.proofs.Numbers.{partial_at-put}
use Rattle.aggregate.proofs.partial.partials_come_back.Goals as goal

pub returns : goal.returns
returns c = partial_at-put
