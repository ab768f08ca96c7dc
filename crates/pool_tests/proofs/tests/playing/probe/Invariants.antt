use Rattle.pool_tests.specs.Seats.{IsPlaying}
use Rattle.pool_tests.proofs.tests.playing.probe.Given as goal

abbrev pub invariant-loop : goal.invariant-loop
invariant-loop g l = IsPlaying l.seat.manager.now l.seat.count l.seat.number l.seat.next l.task l.worker
