use Rattle.std.proofs.Common.{◌≡◌, map, take}
use Rattle.landing.specs.Checks.{head_at}
use Rattle.landing.proofs.rules.heads_of.Given as goal

abbrev pub invariant-loop-place : goal.invariant-loop-place
invariant-loop-place l = l.heads.items ≡ map (head_at l.places) (take l.place-index l.numbers)
