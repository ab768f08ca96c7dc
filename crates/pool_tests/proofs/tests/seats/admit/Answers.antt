use Rattle.std.specs.Arc.{arc_value}
use Rattle.row_page.specs.Spelling.{page_cost}
use Rattle.pool_tests.proofs.Steady.{admitted_on}
use Rattle.pool_tests.proofs.tests.seats.admit.Goals as goal

pub returns-clause-steady : goal.returns-clause-steady
returns-clause-steady g c =
    admitted_on c.args.seat.now.manager.now c.args.seat.now.count c.args.seat.now.number c.args.seat.now.next c.args.worker.now c.admit.new.worker c.requires.steady c.admit.ensures.sees
    c.admit.result (arc_value c.args.block) (page_cost (arc_value c.args.block).page.rows) c.admit.ensures.pin c.admit.ensures.ok c.admit.ensures.err
