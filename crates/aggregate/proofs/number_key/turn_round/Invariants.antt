use Rattle.std.proofs.Common.{◌≡◌, ◌++◌, ◌-◌, drop, map, take}
use Rattle.aggregate.proofs.number_key.turn_round.Given as goal

abbrev pub invariant-loop-place : goal.invariant-loop-place
invariant-loop-place l = l.bytes ≡ map (λ b. 255 - b) (take l.place l.initial.bytes) ++ drop l.place l.initial.bytes
