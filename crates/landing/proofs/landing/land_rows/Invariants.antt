use Rattle.std.proofs.Common.{◌≡◌, ◌≤◌, ◌-◌, [], false}
use Rattle.std.specs.Io.KnownBytes.{IsAtEnd}
use Rattle.byte_io.specs.Records.{IsReading, rows_left, source_under}
use Rattle.run_file.specs.Several.{SameOthers, KeepsAll}
use Rattle.run_file.specs.Shelved.{files_on, KeepsShelf}
use Rattle.landing.specs.Filling.{AreLandedSoFar}
use Rattle.landing.specs.Landed.{AreMade}
use Rattle.landing.specs.Ruling.{ahead}
use Rattle.landing.proofs.landing.land_rows.Given as goal

abbrev pub invariant-parts : goal.invariant-parts
invariant-parts g l =
    let files = files_on g.H.Shelf.disk_of g.D.Disk.files in
    record {
      so_far : AreLandedSoFar (files l.shelf) l.rules l.part_rows l.workers l.parts.items l.rows l.desk.more (rows_left l.fn.records) (ahead l.desk.more l.desk.row (rows_left l.records));
      reading : IsReading l.records;
      end : l.desk.more ≡ false → IsAtEnd (g.T.Tap.left (source_under l.records));
      within : l.workers ≤ g.H.Shelf.count_of l.shelf;
      empty : l.page.rows ≡ [];
      made : AreMade (g.H.Shelf.named l.fn.shelf) (files l.fn.shelf) l.parts.items;
      only : SameOthers (g.H.Shelf.named l.fn.shelf) (files l.fn.shelf) (files l.shelf) l.parts.items;
      files : KeepsAll (files l.fn.shelf) (files l.shelf);
      shelf : KeepsShelf g.H.Shelf.count_of g.H.Shelf.named g.H.Shelf.disk_of g.D.Disk.files g.D.Disk.faults l.fn.shelf l.shelf;
    }

abbrev pub decreases-parts : goal.decreases-parts
decreases-parts g l = l.rules.max_rows - l.rows
