use Rattle.std.proofs.Common.{take}
use Rattle.run_file.specs.Shelved.{files_on, KeepsShelf}
use Rattle.run_file.specs.Several.{SameOthers}
use Rattle.run_merge.specs.Becoming.{AreGone}
use Rattle.run_merge.proofs.one_group.remove_all.Given as goal

abbrev pub invariant-loop-run : goal.invariant-loop-run
invariant-loop-run g l =
    let files = files_on g.H.Shelf.disk_of g.D.Disk.files in
    record {
      gone : AreGone (g.H.Shelf.named l.fn.shelf) (files l.shelf) (take l.run-index l.runs);
      others : SameOthers (g.H.Shelf.named l.fn.shelf) (files l.fn.shelf) (files l.shelf) (take l.run-index l.runs);
      shelf : KeepsShelf g.H.Shelf.count_of g.H.Shelf.named g.H.Shelf.disk_of g.D.Disk.files g.D.Disk.faults l.fn.shelf l.shelf;
    }
