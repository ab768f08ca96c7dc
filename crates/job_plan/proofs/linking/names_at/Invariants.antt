use Rattle.std.proofs.Common.{◌≡◌, map, take}
use Rattle.job_plan.specs.Making.{name_for}
use Rattle.job_plan.proofs.linking.names_at.Given as goal

abbrev pub invariant-loop-place : goal.invariant-loop-place
invariant-loop-place l = l.found.items ≡ map (name_for l.names l.places) (take l.place-index l.kept)
