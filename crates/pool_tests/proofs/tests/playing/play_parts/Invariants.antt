use Rattle.pool_tests.specs.Seats.{IsIdle}
use Rattle.pool_tests.proofs.tests.playing.play_parts.Given as goal

abbrev pub invariant-loop-part : goal.invariant-loop-part
invariant-loop-part g l =
    (goal.iterator-loop-part g).can_next l.part-iterator ×
    (goal.iterator-loop-part g).is_finite l.part-iterator ×
    IsIdle l.seat.manager.now l.seat.count l.seat.number l.next l.worker
