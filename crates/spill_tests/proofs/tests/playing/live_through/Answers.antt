use Rattle.spill_tests.proofs.Scripted.{orders_begun}
use Rattle.spill_tests.proofs.tests.playing.live_through.Goals as goal

pub live_over-requires-clause-orders : goal.live_over-requires-clause-orders
live_over-requires-clause-orders g c = orders_begun _ _ _ _ c.requires.places c.in_ok-started.ensures.starts.begun

pub live_over-requires-clause-live : goal.live_over-requires-clause-live
live_over-requires-clause-live g c = c.in_ok-started.ensures.starts.live (g.D.Disk.files c.args.disk.now) (g.D.Disk.faults c.args.disk.now)
