use Rattle.std.proofs.Common.{rules, ◌≡◌, [], ◌∷◌, None, subst, sym}
use Rattle.memory_lock.specs.Crew.{AreWorkers}
use Rattle.memory_lock.specs.Workers.{SeesMore}
use Rattle.task_pool.proofs.GoingOn.{sees_more}
use Rattle.pool_example.proofs.Two.{both_back, one_is, other_is, worker_on}
use Rattle.pool_example.proofs.workers.run_both.Goals as goal

pub returns : goal.returns
returns g c =
    let lock = c.args.pool.now in
    let count = g.B.Basis.sizes.workers in
    let one = c.two_of-one.result.0 in
    let other = c.two_of-one.result.1 in
    let first = one_is lock count c.args.workers.items one other c.requires.two c.requires.workers c.requires.fresh c.two_of-one.ensures in
    let second = other_is lock count c.args.workers.items one other c.requires.two c.requires.workers c.requires.fresh c.two_of-one.ensures in
    let one_sees : SeesMore one c.admit.new.worker = sees_more one c.unpin.new.worker c.admit.new.worker (sees_more one c.cache.new.worker c.unpin.new.worker c.in_ok-pinned.ensures.sees c.unpin.ensures.sees) c.admit.ensures.sees in
    let other_sees : SeesMore other c.in_ok-other.other = search rules in
    let one_rests : c.admit.new.worker.base ≡ None = search rules in
    let other_rests : c.in_ok-other.other.base ≡ None = search rules in
    let put : c.in_ok-vec.field-0.items ≡ c.admit.new.worker ∷ c.in_ok-other.other ∷ [] = search rules in
    subst (AreWorkers lock count) (sym put) (both_back lock count c.admit.new.worker c.in_ok-other.other c.requires.two
    (worker_on lock count 0 one c.admit.new.worker first.0 one_sees one_rests)
    (worker_on lock count 1 other c.in_ok-other.other second.0 other_sees other_rests))
