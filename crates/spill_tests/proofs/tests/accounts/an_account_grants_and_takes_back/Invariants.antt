use Rattle.std.proofs.Common.{Some, None}
use Rattle.spill_tests.proofs.tests.accounts.an_account_grants_and_takes_back.Given as goal

-- the sizes are the setup's, each worker owns the task of its number, and no rows are given
abbrev pub ghosts-use_account_alone : goal.ghosts-use_account_alone
ghosts-use_account_alone g a = record { sizes = a.setup; owner = λ task. Some task; rows = λ _ _. None }
