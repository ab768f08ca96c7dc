use Rattle.job_text.proofs.Printed.{printed_read}
use Rattle.job_text.proofs.grammar.printed_tokens_are_read.Goals as goal

pub returns : goal.returns
returns c = printed_read
