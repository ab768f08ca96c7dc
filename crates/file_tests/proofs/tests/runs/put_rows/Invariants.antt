use Rattle.std.proofs.Common.{◌≡◌, ◌-◌, ◌<◌, ◌++◌, List, ℕ}
use Rattle.run_file.specs.Readers.{found_of, run_of}
use Rattle.run_file.specs.Reading.{IsAhead}
use Rattle.run_file.specs.Shelved.{files_on}
use Rattle.file_tests.proofs.tests.runs.put_rows.Given as goal

abbrev pub invariant-loop-row : goal.invariant-loop-row
invariant-loop-row g l = record {
  there : (run_of l.reader).disk < g.H.Shelf.count_of l.shelf;
  left : (rows : List (List (List ℕ))) → IsAhead (files_on g.H.Shelf.disk_of g.D.Disk.files l.fn.shelf (run_of l.fn.reader).disk) l.fn.reader rows
      → (left : List (List (List ℕ))) × IsAhead (files_on g.H.Shelf.disk_of g.D.Disk.files l.shelf (run_of l.reader).disk) l.reader left × (l.page.rows ++ left ≡ l.fn.page.rows ++ rows);
}

abbrev pub decreases-loop-row : goal.decreases-loop-row
decreases-loop-row g l = (run_of l.reader).count - found_of l.reader
