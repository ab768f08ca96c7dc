use Rattle.std.proofs.Common.{◌≡◌, drop, take}
use Rattle.csv.specs.Records.{fields_of}
use Rattle.job_plan.specs.Columns.{missing}
use Rattle.job_plan.specs.Making.{AreFound}
use Rattle.job_plan.proofs.columns.find_places.Given as goal

abbrev pub invariant-loop-name : goal.invariant-loop-name
invariant-loop-name l =
    AreFound (take l.name-index l.names) (fields_of l.header) l.places.items × (missing l.names (fields_of l.header) ≡ missing (drop l.name-index l.names) (fields_of l.header))
