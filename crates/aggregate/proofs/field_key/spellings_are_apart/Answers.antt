use Rattle.aggregate.proofs.Spellings.{apart}
use Rattle.aggregate.proofs.field_key.spellings_are_apart.Goals as goal

pub returns : goal.returns
returns c = apart
