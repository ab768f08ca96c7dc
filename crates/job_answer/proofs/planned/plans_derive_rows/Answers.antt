use Rattle.job_answer.proofs.PlannedRows.{plans-derive}
use Rattle.job_answer.proofs.planned.plans_derive_rows.Goals as goal

pub returns : goal.returns
returns c = plans-derive c.moved_filters_keep.ensures.keeps
