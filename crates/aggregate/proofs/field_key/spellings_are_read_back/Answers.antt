use Rattle.aggregate.proofs.Spellings.{reads-back}
use Rattle.aggregate.proofs.field_key.spellings_are_read_back.Goals as goal

pub returns : goal.returns
returns c = reads-back
