use Rattle.std.proofs.Common.{Some, None}
use Rattle.job_tests.proofs.tests.handing.hands.Given as goal

-- the sizes are the setup's, the one worker owns each task, and no rows are given
abbrev pub ghosts-play : goal.ghosts-play
ghosts-play g a = record { sizes = a.setup; owner = λ _. Some 0; rows = λ _ _. None }
