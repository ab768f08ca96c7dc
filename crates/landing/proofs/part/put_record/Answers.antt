use Rattle.std.proofs.Common.{subst}
use Rattle.job_plan.specs.Columns.{Fields}
use Rattle.job_plan.specs.Rows.{AreBytes}
use Rattle.landing.proofs.part.put_record.Goals as goal

pub returns-in-Ok-clause-bytes : goal.returns-in-Ok-clause-bytes
returns-in-Ok-clause-bytes g c = subst (λ (row : Fields). AreBytes row) c.in_ok-make_row.ensures.row c.in_ok-make_row.ensures.bytes
