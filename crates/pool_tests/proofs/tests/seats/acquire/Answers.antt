use Rattle.pool_tests.proofs.Steady.{asked_on}
use Rattle.pool_tests.proofs.tests.seats.acquire.Goals as goal

pub returns-clause-playing : goal.returns-clause-playing
returns-clause-playing g c = record {
  steady =
      asked_on c.args.seat.now.manager.now c.args.seat.now.count c.args.seat.now.number c.args.seat.now.next c.args.worker.now c.acquire.new.worker c.requires.playing.steady c.acquire.ensures.sees
      c.acquire.result c.args.task.now c.args.asked c.acquire.ensures.pin c.acquire.ensures.ok c.acquire.ensures.err;
  its_task = c.acquire.ensures.its_task;
}
