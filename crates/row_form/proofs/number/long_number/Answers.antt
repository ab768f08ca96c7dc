use Rattle.std.proofs.Common.{◌∙◌}
use Rattle.row_form.proofs.Numerals.{parses, no-text}
use Rattle.row_form.proofs.number.long_number.Goals as goal

pub returns-in-Ok : goal.returns-in-Ok
returns-in-Ok c = c.ok.ensures.value ∙ parses c.args.field.now c.parse.result (rw c.in-Ok.ensures.cases.0 at c.parse.ensures.value.0)

pub returns-in-Err : goal.returns-in-Err
returns-in-Err c = no-text c.args.field.now c.in-Err.ensures.cases.0
