use Rattle.std.proofs.Common.{Some, None}
use Rattle.rates.proofs.lock.run.Given as goal

-- the manager is of the setup that it is given, task numbers are worker numbers, and no rows are given
abbrev pub ghosts-serve_all : goal.ghosts-serve_all
ghosts-serve_all g a = record { sizes = a.setup; owner = λ task. Some task; rows = λ _ _. None }
