use Rattle.std.proofs.Common.{arith}
use Rattle.pool_tests.proofs.Steady.{begins_on, worker_on}
use Rattle.pool_tests.proofs.tests.playing.begin.Goals as goal

pub begin-requires-clause-fresh : goal.begin-requires-clause-fresh
begin-requires-clause-fresh g c = c.requires.idle.steady.fresh c.args.seat.now.next (omega arith)

pub returns-clause-its : goal.returns-clause-its
returns-clause-its g c =
    worker_on c.args.seat.now.manager.now c.args.seat.now.count c.args.seat.now.number c.args.worker.now c.begin.new.worker c.requires.idle.steady.its c.begin.ensures.sees

pub returns-clause-playing : goal.returns-clause-playing
returns-clause-playing g c =
    begins_on c.args.seat.now.manager.now c.args.seat.now.count c.args.seat.now.number c.args.seat.now.next c.args.worker.now c.begin.new.worker c.requires.idle.steady c.begin.ensures.sees
    c.begin.result c.begin.ensures.pin c.begin.ensures.begun c.begin.ensures.ok c.begin.ensures.its_task
