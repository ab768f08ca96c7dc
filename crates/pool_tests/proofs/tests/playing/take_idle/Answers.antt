use Rattle.std.proofs.Common.{◌∙◌}
use Rattle.pool_tests.proofs.tests.playing.take_idle.Goals as goal

pub returns : goal.returns
returns g c = record { steady = c.take_other.ensures.steady; no_task = c.take_other.ensures.task ∙ c.requires.idle.no_task }
