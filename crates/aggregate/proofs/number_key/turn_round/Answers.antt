use Rattle.std.proofs.Common.{◌-◌}
use Rattle.aggregate.proofs.NumberKeys.{turn-step}
use Rattle.aggregate.proofs.number_key.turn_round.Goals as goal

pub loop-place-preserved : goal.loop-place-preserved
loop-place-preserved c =
    turn-step (λ b. 255 - b) c.args.bytes.now c.loop-place.bytes c.loop-place.place c.loop-place-test.true c.loop-place.invariant
