use Rattle.job_answer.proofs.WholeTotals.{parts_total}
use Rattle.job_answer.proofs.parts.parts_tell_all.Goals as goal

pub returns : goal.returns
returns c = λ kind parts. parts_total kind (c.totals_stay_equal.ensures kind) (c.totals_ascend.ensures kind) parts
