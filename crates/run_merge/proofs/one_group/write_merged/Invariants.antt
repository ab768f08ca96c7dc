use Rattle.std.proofs.Common.{◌≡◌, ◌<◌}
use Rattle.spill_disk.specs.Files.{IsThere}
use Rattle.run_file.specs.Shelved.{files_on, KeepsShelf, SameBut}
use Rattle.run_file.specs.Several.{IsFileAmong, AreOn}
use Rattle.run_merge.specs.Merging.{kind_of, left_of, runs_of}
use Rattle.run_merge.proofs.Gathering.{IsUnderway}
use Rattle.run_merge.proofs.one_group.write_merged.Given as goal

abbrev pub invariant-entries : goal.invariant-entries
invariant-entries g l =
    let files = files_on g.H.Shelf.disk_of g.D.Disk.files in
    let to = l.fn.writer.run.disk in
    record {
      underway : IsUnderway (files l.fn.shelf) (files l.shelf) to l.fn.merge l.merge l.writer (IsFileAmong (g.H.Shelf.named l.fn.shelf) (runs_of l.fn.merge) to l.fn.writer.run.file → ⊥);
      runs : runs_of l.merge ≡ runs_of l.fn.merge;
      kind : kind_of l.merge ≡ kind_of l.fn.merge;
      on : AreOn (g.H.Shelf.count_of l.shelf) (runs_of l.merge);
      within : l.writer.run.disk < g.H.Shelf.count_of l.shelf;
      there : IsThere (files l.shelf l.writer.run.disk) l.writer.run.file;
      disk : l.writer.run.disk ≡ to;
      file : l.writer.run.file ≡ l.fn.writer.run.file;
      same : SameBut (g.H.Shelf.named l.fn.shelf) (files l.fn.shelf) (files l.shelf) to l.fn.writer.run.file;
      shelf : KeepsShelf g.H.Shelf.count_of g.H.Shelf.named g.H.Shelf.disk_of g.D.Disk.files g.D.Disk.faults l.fn.shelf l.shelf;
    }

abbrev pub decreases-entries : goal.decreases-entries
decreases-entries g l = left_of l.merge
