use Rattle.std.proofs.Common.{◌≡◌, ◌++◌, ◌≤◌, ◌-◌, List}
use Rattle.aggregate.specs.Totals.{Entry}
use Rattle.run_file.specs.Shelved.{LeavesFiles, files_on}
use Rattle.result_table.specs.Ahead.{IsOfKind}
use Rattle.result_table.specs.Table.{IsBetweenRows, text_in}
use Rattle.result_table.specs.Told.{TellsEntries, rows_told}
use Rattle.result_table.proofs.run_table.put_rows.Given as goal

abbrev pub invariant-entries : goal.invariant-entries
invariant-entries g l = record {
  between : IsBetweenRows l.writer;
  run : l.reader.run ≡ l.initial.reader.run;
  form : IsOfKind l.kind l.reader;
  shelf : LeavesFiles g.H.Shelf.count_of g.H.Shelf.named g.H.Shelf.disk_of g.D.Disk.files g.D.Disk.faults l.initial.shelf l.shelf;
  later : l.initial.reader.found ≤ l.reader.found;
  told : List Entry;
  tells : TellsEntries l.shape (files_on g.H.Shelf.disk_of g.D.Disk.files l.initial.shelf l.initial.reader.run.disk)
      (files_on g.H.Shelf.disk_of g.D.Disk.files l.shelf l.initial.reader.run.disk) l.initial.reader l.reader told;
  text : text_in l.writer ≡ text_in l.initial.writer ++ rows_told l.shape told;
}

abbrev pub decreases-entries : goal.decreases-entries
decreases-entries g l = l.reader.run.count - l.reader.found
