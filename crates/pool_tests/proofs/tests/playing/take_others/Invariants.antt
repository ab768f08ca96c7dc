use Rattle.pool_tests.specs.Seats.{IsIdle}
use Rattle.pool_tests.proofs.tests.playing.take_others.Given as goal

abbrev pub invariant-loop-step : goal.invariant-loop-step
invariant-loop-step g l =
    (goal.iterator-loop-step g).can_next l.step-iterator ×
    (goal.iterator-loop-step g).is_finite l.step-iterator ×
    IsIdle l.seat.manager.now l.seat.count l.seat.number l.seat.next l.worker
