use Rattle.std.proofs.Common.{[]}
use Rattle.job_text.proofs.FilterNames.{distinct_place}
use Rattle.job_text.proofs.FilterPrinted.{printed_written}
use Rattle.job_text.proofs.filter_laws.printed_filters_are_written.Goals as goal

pub returns : goal.returns
returns c all filter distinct short is = printed_written all (λ column lt. distinct_place all column distinct lt) (λ column lt. short column [] lt) filter is
