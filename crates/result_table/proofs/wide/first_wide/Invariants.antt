use Rattle.std.proofs.Common.{◌≡◌, ◌-◌, List, length}
use Rattle.aggregate.specs.Totals.{Entry}
use Rattle.aggregate.specs.declared.kind.Kind.TheVariants.{Group}
use Rattle.run_file.specs.Shelved.{LeavesFiles, files_on}
use Rattle.result_table.specs.Ahead.{AreAhead, IsOfKind}
use Rattle.result_table.proofs.WideKeys.{StillWide}
use Rattle.result_table.proofs.wide.first_wide.Given as goal

abbrev pub invariant-entries : goal.invariant-entries
invariant-entries g l = record {
  run : l.reader.run ≡ l.initial.reader.run;
  kind : IsOfKind (Group l.aggs) l.reader;
  shelf : LeavesFiles g.H.Shelf.count_of g.H.Shelf.named g.H.Shelf.disk_of g.D.Disk.files g.D.Disk.faults l.initial.shelf l.shelf;
  ahead : (entries : List Entry) → AreAhead (files_on g.H.Shelf.disk_of g.D.Disk.files l.initial.shelf l.initial.reader.run.disk) l.initial.reader entries
      → StillWide (length l.aggs) (files_on g.H.Shelf.disk_of g.D.Disk.files l.shelf l.reader.run.disk) l.reader entries;
}

abbrev pub decreases-entries : goal.decreases-entries
decreases-entries g l = l.reader.run.count - l.reader.found
