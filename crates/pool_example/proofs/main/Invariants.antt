use Rattle.std.proofs.Common.{Some, [], ◌∷◌}
use Rattle.pool_example.proofs.main.Given as goal

-- the pool has the setup's sizes, worker 1 owns every task, and each block has one row of the field
abbrev pub ghosts-share : goal.ghosts-share
ghosts-share g a = record { sizes = a.setup; owner = λ _. Some 1; rows = λ _ _. Some ((a.field.now ∷ []) ∷ []) }
