-- A run that is being written by way of a page: its rows so far, and the run that they come to.
-- This project's own.
use Rattle.std.specs.Prelude.{◌≡◌, ℕ, List, ◌++◌, Option}
use Rattle.row_page.specs.Pages.{PageView}
use Rattle.spill_disk.specs.Files.{Files}
use Rattle.run_file.specs.declared.run.Run.{Run}
use Rattle.run_file.specs.Runs.{CountsRows, IsFileOf}

-- a writer of rows: the run as far as it stands in its file, and the page whose rows don't yet
pub record WriterView : Type 0 where
  pub run : Run
  pub page : PageView

-- these rows are those so far: those in the file, and those of the page
pub record IsSoFar (files : Option Files) (writer : WriterView) (rows : List (List (List ℕ))) : Type 0 where
  pub written : List (List (List ℕ))
  pub counts : CountsRows writer.run written
  pub file : IsFileOf files writer.run.file written
  pub are : rows ≡ written ++ writer.page.rows

-- the run was written with these rows: its file has them and nothing else, where the disk tells
pub record IsWritten (files : Option Files) (run : Run) (rows : List (List (List ℕ))) : Type 0 where
  pub counts : CountsRows run rows
  pub file : IsFileOf files run.file rows
