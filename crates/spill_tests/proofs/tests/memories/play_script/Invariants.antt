use Rattle.std.proofs.Common.{Some, None}
use Rattle.spill_tests.proofs.tests.memories.play_script.Given as goal

-- the sizes are the setup's, each worker owns the task of its number, and no rows are given
abbrev pub ghosts-play_alone : goal.ghosts-play_alone
ghosts-play_alone g a = record { sizes = a.setup; owner = λ task. Some task; rows = λ _ _. None }
