-- The tables of a plan's queries as they are printed: piece by piece, with a line feed before each but the first.
-- This project's own.
use Rattle.std.specs.Prelude.{ℕ, zero, suc, List, [], ◌∷◌, ◌++◌}
use Rattle.aggregate.specs.Totals.{Entry}
use Rattle.job_plan.specs.declared.query_plan.Plan.{Plan}
use Rattle.result_table.specs.Results.{table_of}

-- what stands before the table of a query, by its number
abbrev pub gap_before : ℕ → List ℕ
gap_before zero = []
gap_before (suc before) = 10 ∷ []

-- the table of a query, and what stands before it
abbrev pub piece_of : Plan → ℕ → List Entry → List ℕ
piece_of plan query entries = gap_before query ++ table_of plan query entries
