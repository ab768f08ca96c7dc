use Rattle.std.proofs.Common.{◌∙◌, refl}
use Rattle.pool_tests.proofs.Steady.{one_on}
use Rattle.pool_tests.proofs.tests.playing.end.Goals as goal

pub returns : goal.returns
returns g c = record {
  steady =
      one_on c.args.seat.now.manager.now c.args.seat.now.count c.args.seat.now.number c.args.seat.now.next c.args.worker.now c.end.new.worker c.requires.steady c.end.ensures.sees
      _ (λ tasks. refl) c.end.ensures.adds (c.end.ensures.pin ∙ c.requires.steady.no_pin);
  no_task = c.end.ensures.free;
}
