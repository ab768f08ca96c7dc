use Rattle.std.proofs.Common.{List, [], sym, ap, ◌∙◌}
use Rattle.std.proofs.lemmas.List.{append-nil}
use Rattle.job_text.specs.declared.token.Token.{Token}
use Rattle.job_text.specs.FilterStep.{filter_start, filter_steps}
use Rattle.job_text.proofs.FilterWritten.{written_read}
use Rattle.job_text.proofs.filter_laws.filters_are_read.Goals as goal

pub returns : goal.returns
unfolding filter_steps
returns c names used later ts filter w =
    let done = written_read names used later ts filter w in
    (done.last, ap (λ (l : List Token). filter_steps names filter_start l) (sym (append-nil ts)) ∙ done.reads [], done.is)
