use Rattle.std.proofs.Common.{refl, subst}
use Rattle.memory_lock.specs.Workers.{AddsPin}
use Rattle.pool_tests.proofs.Steady.{given_back}
use Rattle.pool_tests.proofs.tests.seats.pin.Goals as goal

pub returns-in-Hit-clause-steady : goal.returns-in-Hit-clause-steady
returns-in-Hit-clause-steady g c =
    let adds = subst (λ pinned. AddsPin pinned c.args.dataset c.args.part c.args.worker.now c.pin.new.worker) c.in-Hit.is c.in_ok-block.ensures.ok in
    given_back c.args.seat.now.manager.now c.args.seat.now.count c.args.seat.now.number c.args.seat.now.next c.args.worker.now c.pin.new.worker c.unpin.new.worker _ _ c.requires.steady
    c.pin.ensures.sees (λ tasks. refl) adds.0 c.unpin.ensures.sees (λ tasks. refl) c.unpin.ensures.adds c.unpin.ensures.free
