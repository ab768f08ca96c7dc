-- Records that are counted as they are read.
use Rattle.std.proofs.Common.{List}
use Rattle.std.specs.List.{fold}
use Rattle.job_plan.specs.Columns.{Fields}
use Rattle.trial_input.specs.declared.tally.Tally.{Tally}
use Rattle.trial_input.specs.Tallies.{tallied}

-- what more records make of a tally
abbrev pub tally_on : Tally → List Fields → Tally
tally_on tally rows = fold tallied tally rows
