use Rattle.pool_tests.proofs.Steady.{removed_on}
use Rattle.pool_tests.proofs.tests.seats.remove.Goals as goal

pub returns-clause-steady : goal.returns-clause-steady
returns-clause-steady g c =
    removed_on c.args.seat.now.manager.now c.args.seat.now.count c.args.seat.now.number c.args.seat.now.next c.args.worker.now c.remove.new.worker c.requires.steady c.remove.ensures.sees
    c.remove.result c.args.dataset c.remove.ensures.pin c.remove.ensures.ok c.remove.ensures.err
