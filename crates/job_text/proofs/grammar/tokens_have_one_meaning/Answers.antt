use Rattle.job_text.proofs.Grammars.{one_meaning}
use Rattle.job_text.proofs.grammar.tokens_have_one_meaning.Goals as goal

pub returns : goal.returns
returns c = one_meaning
