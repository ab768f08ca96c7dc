use Rattle.std.proofs.Common.{ℕ, List, ap, length, map}
use Rattle.spill_tests.proofs.Scripted.{set_lent}
use Rattle.spill_tests.proofs.tests.playing.live_over.Goals as goal

pub take_all-outcome-requires : goal.take_all-outcome-requires
take_all-outcome-requires g c = record {
  set = rw c.of-memory.ensures
      (set_lent (map g.C.Consumer.state c.args.boxes.now) (g.P.Pool.state c.args.pool.now) (g.D.Disk.files c.args.disk.now) (g.D.Disk.faults c.args.disk.now)
      c.args.started.leasts (length c.args.picks.now) c.args.started.spills _ c.requires.live c.requires.orders
      (ap (λ (places : List ℕ). length places) c.requires.picks));
}
