use Rattle.std.proofs.Common.{◌%◌, Some, None}
use Rattle.pool_tests.proofs.tests.manager.played.Given as goal

-- the sizes are the setup's, each worker owns the tasks of its number, counted by the workers, and no rows are given
abbrev pub ghosts-share : goal.ghosts-share
ghosts-share g a = record { sizes = a.setup; owner = λ task. Some (task % a.setup.workers); rows = λ _ _. None }
