use Rattle.std.proofs.Common.{◌≡◌, Some, ◌∙◌}
use Rattle.row_page.specs.Spelling.{page_bytes}
use Rattle.run_file.proofs.Changing.{same_but, put_some_other}
use Rattle.run_file.proofs.row_writer.write_on.Goals as goal

pub returns-clause-same : goal.returns-clause-same
returns-clause-same g c =
    let shelf = c.args.shelf.now in
    let i = c.args.writer.now.disk in
    let old = c.disk-disk.result.now in
    let new = c.write.new.disk in
    let file = c.args.writer.now.file in
    let value : g.H.Shelf.disk_of shelf i ≡ Some old = rw c.disk.ensures at c.disk-disk.ensures.value in
    rw c.disk.ensures (same_but (g.H.Shelf.named shelf) (g.H.Shelf.disk_of shelf) (g.H.Shelf.disk_of (g.H.Shelf.with_disk shelf i new)) g.D.Disk.files i file old new
    (record {
      was = λ j e. g.met.H.Shelf.one_disk shelf i j e ∙ value;
      is = λ j e. g.met.H.Shelf.changed shelf i j new c.requires.to e;
      others = λ j apart. g.met.H.Shelf.others shelf i j new apart;
    })
    (λ q apart. put_some_other c.write.result (g.D.Disk.files old) (g.D.Disk.files new) file q (page_bytes c.args.page.now.rows) c.write.ensures.ok c.write.ensures.err c.write.ensures.tells apart))
