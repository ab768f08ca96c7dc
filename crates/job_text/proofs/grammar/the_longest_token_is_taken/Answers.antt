use Rattle.job_text.proofs.Longest.{takes_the_longest}
use Rattle.job_text.proofs.grammar.the_longest_token_is_taken.Goals as goal

pub returns : goal.returns
returns c = takes_the_longest
