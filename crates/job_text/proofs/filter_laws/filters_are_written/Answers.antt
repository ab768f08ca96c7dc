use Rattle.job_text.proofs.FilterSound.{read_written}
use Rattle.job_text.proofs.filter_laws.filters_are_written.Goals as goal

pub returns : goal.returns
returns c names final later ts last filter e is = read_written names final later ts last filter e is
