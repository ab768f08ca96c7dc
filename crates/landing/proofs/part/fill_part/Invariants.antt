use Rattle.std.proofs.Common.{◌≡◌, ◌<◌, ◌≤◌, ◌-◌, false, true}
use Rattle.std.specs.Io.KnownBytes.{IsAtEnd}
use Rattle.byte_io.specs.Records.{IsReading, rows_left, source_under}
use Rattle.spill_disk.specs.Files.{IsThere}
use Rattle.run_file.specs.Shelved.{files_on, KeepsShelf, SameBut}
use Rattle.landing.specs.Filling.{IsFilling}
use Rattle.landing.specs.Ruling.{ahead}
use Rattle.landing.proofs.part.fill_part.Given as goal

abbrev pub invariant-rows : goal.invariant-rows
invariant-rows g l =
    let files = files_on g.H.Shelf.disk_of g.D.Disk.files in
    let begun = l.fn.writer.run in
    record {
      filling : IsFilling (files l.shelf begun.disk) l.rules l.first l.count l.writer
          (ahead true l.fn.desk.row (rows_left l.fn.records)) (ahead l.desk.more l.desk.row (rows_left l.records));
      most : l.count ≤ l.part_rows;
      some : l.desk.more ≡ false → 1 ≤ l.count;
      reading : IsReading l.records;
      end : l.desk.more ≡ false → IsAtEnd (g.T.Tap.left (source_under l.records));
      within : begun.disk < g.H.Shelf.count_of l.shelf;
      there : IsThere (files l.shelf begun.disk) begun.file;
      disk : l.writer.run.disk ≡ begun.disk;
      file : l.writer.run.file ≡ begun.file;
      same : SameBut (g.H.Shelf.named l.fn.shelf) (files l.fn.shelf) (files l.shelf) begun.disk begun.file;
      shelf : KeepsShelf g.H.Shelf.count_of g.H.Shelf.named g.H.Shelf.disk_of g.D.Disk.files g.D.Disk.faults l.fn.shelf l.shelf;
    }

abbrev pub decreases-rows : goal.decreases-rows
decreases-rows g l = l.part_rows - l.count
