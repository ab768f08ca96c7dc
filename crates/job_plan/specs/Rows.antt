-- Landed rows: the kept columns of the input's rows, behind their numbers.
-- This project's own.
use Rattle.std.specs.Prelude.{ℕ, ◌+◌, ◌<◌, All, List, [], ◌∷◌, map, slice_index_or}
use Rattle.std.specs.Int.{to_be_bytes, w64}
use Rattle.job_plan.specs.Columns.{Fields}

-- a landed row: its number as 8 bytes, the greatest first, and the fields at the kept places
abbrev pub landed_row : List ℕ → ℕ → Fields → Fields
landed_row places n row = to_be_bytes w64 n ∷ map (λ p. slice_index_or row p []) places

-- the landed rows of records that are numbered from n on
abbrev pub landed_rows : List ℕ → ℕ → List Fields → List Fields
landed_rows places n [] = []
landed_rows places n (row ∷ rows) = landed_row places n row ∷ landed_rows places (n + 1) rows

-- a row's fields are bytes
abbrev pub AreBytes : Fields → Type 0
AreBytes row = All (λ field. All (λ b. b < 256) field) row
