use Rattle.std.proofs.Common.{◌≡◌, map, take}
use Rattle.job_plan.specs.Making.{place_by}
use Rattle.job_plan.proofs.making.number_places.Given as goal

abbrev pub invariant-loop-column : goal.invariant-loop-column
invariant-loop-column l = l.places.items ≡ map (place_by l.strict) (take l.column-index l.columns)
