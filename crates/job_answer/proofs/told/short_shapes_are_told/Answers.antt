use Rattle.job_answer.proofs.AllTold.{shapes-told}
use Rattle.job_answer.proofs.told.short_shapes_are_told.Goals as goal

pub returns : goal.returns
returns c = shapes-told c.partials_are_long.ensures c.fields_have_one_encoding.ensures.some
