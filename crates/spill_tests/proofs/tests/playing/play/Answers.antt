use Rattle.spill_tests.proofs.Scripted.{worker_on}
use Rattle.spill_tests.proofs.tests.playing.play.Goals as goal

pub returns : goal.returns
returns g c = worker_on _ _ _ _ _ c.requires.worker c.play_picked.ensures.sees c.number-number.ensures.rests
