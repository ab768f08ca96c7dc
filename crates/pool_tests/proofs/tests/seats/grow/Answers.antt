use Rattle.std.proofs.Common.{◌∙◌}
use Rattle.pool_tests.proofs.Steady.{grown_on}
use Rattle.pool_tests.proofs.tests.seats.grow.Goals as goal
