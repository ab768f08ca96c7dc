use Rattle.std.proofs.Common.{◌≡◌, map, take}
use Rattle.job_plan.specs.Making.{place_in}
use Rattle.job_plan.proofs.columns.indexes_in.Given as goal

abbrev pub invariant-loop-place : goal.invariant-loop-place
invariant-loop-place l =
    l.indexes.items ≡ map (place_in l.list) (take l.place-index l.places)
