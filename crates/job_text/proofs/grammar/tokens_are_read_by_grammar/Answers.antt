use Rattle.job_text.proofs.Grammars.{reads_the_grammar}
use Rattle.job_text.proofs.grammar.tokens_are_read_by_grammar.Goals as goal

pub returns : goal.returns
returns c = reads_the_grammar
