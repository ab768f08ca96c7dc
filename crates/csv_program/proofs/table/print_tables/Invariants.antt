use Rattle.std.proofs.Common.{◌≤◌, ℕ, List}
use Rattle.std.specs.Io.KnownBytes.{Appends}
use Rattle.std.specs.List.{range_with_len}
use Rattle.aggregate.specs.Totals.{Entry}
use Rattle.run_file.specs.Shelved.{LeavesFiles, files_on}
use Rattle.csv_program.specs.QueryResults.{HaveResults}
use Rattle.csv_program.proofs.Pieces.{pieces_in}
use Rattle.csv_program.proofs.table.print_tables.Given as goal

-- the tables so far were written
abbrev pub invariant-loop-query : goal.invariant-loop-query
invariant-loop-query g l = record {
  shelf : LeavesFiles g.H.Shelf.count_of g.H.Shelf.named g.H.Shelf.disk_of g.D.Disk.files g.D.Disk.faults l.fn.shelf l.shelf;
  later : g.W.Sink.faults l.fn.output ≤ g.W.Sink.faults l.output;
  written : (totals : ℕ → List Entry) → HaveResults (files_on g.H.Shelf.disk_of g.D.Disk.files l.fn.shelf) l.plan totals l.answers
      → Appends (g.W.Sink.written l.fn.output) (g.W.Sink.written l.output) (pieces_in l.plan totals (range_with_len 0 l.query));
}
