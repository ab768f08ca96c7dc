-- Runs: files of rows that are written once and read once.
-- This project's own; Spark's UnsafeSorterSpillWriter writes such files.
use Rattle.std.specs.Prelude.{◌≡◌, ℕ, ◌+◌, max, List, [], ◌∷◌, length, take, Option, Some, None, IsSome, ⊤}
use Rattle.std.specs.FinMap as map
use Rattle.row_page.specs.Grammar.{IsPage}
use Rattle.row_page.specs.Spelling.{row_length, page_length}
use Rattle.spill_disk.specs.Files.{Files, bytes_of}
use Rattle.run_file.specs.declared.run.Run.{Run}

-- the greatest cost of a row in a run file, in bytes: 24 and its encoding; 0 if there is none
abbrev pub greatest_cost : List (List (List ℕ)) → ℕ
greatest_cost [] = 0
greatest_cost (row ∷ rows) = max (24 + row_length row) (greatest_cost rows)

-- the run's numbers are those of these rows
pub record CountsRows (run : Run) (rows : List (List (List ℕ))) : Type 0 where
  pub bytes : run.bytes ≡ page_length rows
  pub count : run.count ≡ length rows
  pub greatest : run.greatest ≡ greatest_cost rows

-- the run stands on a telling disk, as these rows: they are the first bytes of its file
abbrev pub Stands : Option Files → Run → List (List (List ℕ)) → Type 0
Stands None run rows = ⊥
Stands (Some files) run rows =
    IsSome (map.get files run.file) × IsPage (take run.bytes (bytes_of files run.file)) rows × CountsRows run rows

-- where the disk tells, the file has these rows and nothing else
abbrev pub IsFileOf : Option Files → ℕ → List (List (List ℕ)) → Type 0
IsFileOf None file rows = ⊤
IsFileOf (Some files) file rows = IsPage (bytes_of files file) rows
