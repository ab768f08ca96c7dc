use Rattle.std.proofs.Common.{◌≡◌, ◌++◌, ◌≤◌, ◌-◌, ℕ, List, is_some}
use Rattle.std.specs.Io.KnownBytes.{Appends}
use Rattle.aggregate.specs.Totals.{Entry}
use Rattle.run_file.specs.Shelved.{LeavesFiles, files_on}
use Rattle.result_table.specs.Ahead.{IsOfKind}
use Rattle.result_table.specs.Told.{TellsEntries, rows_told}
use Rattle.result_table.proofs.run_table.print_entries.Given as goal

abbrev pub invariant-blocks-2 : goal.invariant-blocks-2
invariant-blocks-2 g l = record {
  run : l.reader.run ≡ l.initial.reader.run;
  form : IsOfKind l.kind l.reader;
  few : l.reader.found ≤ l.initial.reader.run.count;
  shelf : LeavesFiles g.H.Shelf.count_of g.H.Shelf.named g.H.Shelf.disk_of g.D.Disk.files g.D.Disk.faults l.initial.shelf l.shelf;
  done : List ℕ;
  written : Appends (g.W.Sink.written l.initial.output) (g.W.Sink.written l.output) done;
  later : g.W.Sink.faults l.initial.output ≤ g.W.Sink.faults l.output;
  shown : is_some (g.W.Sink.written l.output) ≡ is_some (g.W.Sink.written l.initial.output);
  told : List Entry;
  tells : TellsEntries l.shape (files_on g.H.Shelf.disk_of g.D.Disk.files l.initial.shelf l.initial.reader.run.disk)
      (files_on g.H.Shelf.disk_of g.D.Disk.files l.shelf l.initial.reader.run.disk) l.initial.reader l.reader told;
  joined : done ++ l.text.items ≡ l.initial.text.items ++ rows_told l.shape told;
}

abbrev pub decreases-blocks-2 : goal.decreases-blocks-2
decreases-blocks-2 g l = l.reader.run.count - l.reader.found
