use Rattle.csv.specs.Records.{fields_of}
use Rattle.landing.proofs.PlaceFields.{field-none, field-some}
use Rattle.trial_input.proofs.tally.second_field.Goals as goal

pub returns-in-Some : goal.returns-in-Some
returns-in-Some c = field-some (fields_of c.args.row.now) 1 c.in-Some.field.now c.in-Some.ensures.value

pub returns-in-None : goal.returns-in-None
returns-in-None c = field-none (fields_of c.args.row.now) 1 c.in-None.ensures.value
