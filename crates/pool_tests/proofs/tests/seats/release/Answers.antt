use Rattle.pool_tests.proofs.Steady.{released_on}
use Rattle.pool_tests.proofs.tests.seats.release.Goals as goal

pub returns : goal.returns
returns g c = record {
  playing = record {
    steady =
        released_on c.args.seat.now.manager.now c.args.seat.now.count c.args.seat.now.number c.args.seat.now.next c.args.worker.now c.release.new.worker c.requires.playing.steady c.release.ensures.sees
        c.release.result c.args.task.now c.release.ensures.pin c.release.ensures.ok c.release.ensures.err;
    its_task = c.release.ensures.its_task;
  };
}
