use Rattle.job_text.specs.Scan.{IsSpelled}
use Rattle.job_text.proofs.FilterFine.{written_filter}
use Rattle.job_text.proofs.filter_laws.filters_are_fine.Goals as goal

pub returns : goal.returns
returns c all used ts filter w spelled known = written_filter IsSpelled (λ value h. h) all ts used filter w spelled known
