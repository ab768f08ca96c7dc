-- Rows with their numbers: an input's rows are numbered from 1, and a filter leaves gaps.
-- This project's own.
use Rattle.std.specs.Prelude.{ℕ, ◌+◌, ◌≤◌, ◌<◌, ◌^◌, All, AllPairs, List, [], ◌∷◌, length, map}
use Rattle.job_plan.specs.Columns.{Fields}
use Rattle.job_plan.specs.Rows.{landed_row}

-- a row's number, and its fields
abbrev pub Numbered : Type 0
Numbered = ℕ × Fields

-- rows that are numbered from n on
abbrev pub numbered : ℕ → List Fields → List Numbered
numbered n [] = []
numbered n (row ∷ rows) = (n, row) ∷ numbered (n + 1) rows

-- the rows alone
abbrev pub rows_in : List Numbered → List Fields
rows_in input = map (λ row. row.1) input

-- their landed rows, each with its own number
abbrev pub landed_each : List ℕ → List Numbered → List Fields
landed_each places input = map (λ row. landed_row places row.0 row.1) input

-- the numbers ascend and have 64 bits, and there are at most 2 ^ 32 rows
pub record AreNumbered (input : List Numbered) : Type 0 where
  pub ascend : AllPairs (λ earlier later. earlier.0 < later.0) input
  pub small : All (λ row. row.0 < 2 ^ 64) input
  pub few : length input ≤ 2 ^ 32
