use Rattle.job_text.specs.FilterStep.{filter_start}
use Rattle.job_text.proofs.FilterViable.{filter_viable}
use Rattle.job_text.proofs.FilterNames.{steps_fit_filter, filter_steps-append}
use Rattle.job_text.proofs.filter_laws.filters_go_on.Goals as goal

pub returns : goal.returns
returns c names later ts s e =
    let v = filter_viable later s (rw e at (steps_fit_filter ts names filter_start tt)) in
    (v.0, v.1, v.2.final, v.2.last, rw (filter_steps-append ts v.0 names filter_start, e) v.2.steps, v.2.ends)
