use Rattle.memory_lock.proofs.Pairs.{four_back, new_one, new_one_before, new_other, new_other_before}
use Rattle.spill_tests.proofs.tests.threads.share_four.Goals as goal

pub play_four-requires-clause-first : goal.play_four-requires-clause-first
play_four-requires-clause-first g c κs within =
    new_one_before c.in_ok-manager.manager g.B.Basis.sizes.workers c.in_ok-manager.workers.items c.last_two-third.new.workers.items c.last_two-first.new.workers.items
    c.last_two-first.result.0 c.last_two-first.result.1 c.last_two-third.result.0 c.last_two-third.result.1
    c.in_ok-manager.ensures.workers c.in_ok-manager.ensures.fresh c.last_two-third.ensures c.last_two-first.ensures

pub play_four-requires-clause-second : goal.play_four-requires-clause-second
play_four-requires-clause-second g c κs within =
    new_other_before c.in_ok-manager.manager g.B.Basis.sizes.workers c.in_ok-manager.workers.items c.last_two-third.new.workers.items c.last_two-first.new.workers.items
    c.last_two-first.result.0 c.last_two-first.result.1 c.last_two-third.result.0 c.last_two-third.result.1
    c.in_ok-manager.ensures.workers c.in_ok-manager.ensures.fresh c.last_two-third.ensures c.last_two-first.ensures

pub play_four-requires-clause-third : goal.play_four-requires-clause-third
play_four-requires-clause-third g c κs within =
    new_one c.in_ok-manager.manager g.B.Basis.sizes.workers c.in_ok-manager.workers.items c.last_two-third.new.workers.items c.last_two-third.result.0 c.last_two-third.result.1
    c.in_ok-manager.ensures.workers c.in_ok-manager.ensures.fresh c.last_two-third.ensures

pub play_four-requires-clause-fourth : goal.play_four-requires-clause-fourth
play_four-requires-clause-fourth g c κs within =
    new_other c.in_ok-manager.manager g.B.Basis.sizes.workers c.in_ok-manager.workers.items c.last_two-third.new.workers.items c.last_two-third.result.0 c.last_two-third.result.1
    c.in_ok-manager.ensures.workers c.in_ok-manager.ensures.fresh c.last_two-third.ensures

pub close-journal-requires : goal.close-journal-requires
close-journal-requires g c = record {
  all = four_back c.in_ok-manager.manager g.B.Basis.sizes.workers c.in_ok-manager.workers.items c.last_two-third.new.workers.items c.last_two-first.new.workers.items c.put_two.new.workers.items c.put_two-2.new.workers.items
      c.last_two-first.result.0 c.last_two-first.result.1 c.last_two-third.result.0 c.last_two-third.result.1
      c.in_ok-lower.lower.0.0 c.in_ok-lower.lower.1.0 c.in_ok-lower.upper.0.0 c.in_ok-lower.upper.1.0
      c.in_ok-manager.ensures.workers c.last_two-third.ensures c.last_two-first.ensures
      c.in_ok-lower.ensures.first c.in_ok-lower.ensures.second c.in_ok-lower.ensures.third c.in_ok-lower.ensures.fourth
      c.in_ok-put_two.ensures c.in_ok-put_two-2.ensures;
}
