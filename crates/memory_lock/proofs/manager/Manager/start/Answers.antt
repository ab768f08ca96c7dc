use Rattle.std.proofs.Common.{◌≡◌, ap, ◌∙◌, arith}
use Rattle.pool_ledger.specs.Sizes.{Sizes}
use Rattle.memory_lock.proofs.Crews.{all_fresh, all_made, next_count, next_made, next_number}
use Rattle.memory_lock.proofs.manager.Manager.start.Goals as goal

pub loop-number-preserved : goal.loop-number-preserved
loop-number-preserved g c =
    let i = c.loop-number.invariant in
    record {
      count = next_count c.loop-number._number c.loop-number.workers.items c.push.new.self.items c.split.new.worker i.count c.in_ok-push.ensures.items;
      newest = next_number c.around-manager.result c.loop-number._number c.loop-number.workers.items c.push.new.self.items c.loop-number.newest c.split.new.worker c.in_ok-next.next i.count i.newest c.in_ok-next.ensures.ok.0 c.in_ok-push.ensures.items;
      made = next_made c.around-manager.result c.loop-number._number c.loop-number.workers.items c.push.new.self.items c.loop-number.newest c.split.new.worker i.made i.newest c.in_ok-next.ensures.ok.1 c.in_ok-push.ensures.items;
    }

pub returns : goal.returns
returns g c =
    let i = c.loop-number.invariant in
    let sized : c.workers-count.result ≡ g.B.Basis.sizes.workers = c.workers-count.ensures.value ∙ ap (λ (s : Sizes). s.workers) c.requires.basis in
    let end : c.loop-number._number ≡ g.B.Basis.sizes.workers = omega (arith, sized, c.workers-count.ensures.range.some_worker) in
    record {
      workers = all_made c.around-manager.result g.B.Basis.sizes.workers c.loop-number._number c.loop-number.workers.items c.push-2.new.self.items c.loop-number.newest c.in_ok-push-2.ensures.items i.count end i.made i.newest;
      fresh = all_fresh c.around-manager.result c.loop-number._number c.loop-number.workers.items c.push-2.new.self.items c.loop-number.newest c.in_ok-push-2.ensures.items i.made i.newest;
    }
