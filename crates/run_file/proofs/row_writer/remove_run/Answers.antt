use Rattle.std.proofs.Common.{◌∙◌}
use Rattle.run_file.proofs.Changing.{same_but, gone_on, removed_other, removed_gone}
use Rattle.run_file.proofs.row_writer.remove_run.Goals as goal

pub returns-in-Ok-clause-gone : goal.returns-in-Ok-clause-gone
returns-in-Ok-clause-gone g c =
    let shelf = c.args.shelf.now in
    let i = c.args.run.now.disk in
    let old = c.disk-disk.result.now in
    let new = c.remove.new.self in
    gone_on (g.H.Shelf.named shelf) (g.H.Shelf.disk_of shelf) (g.H.Shelf.disk_of (g.H.Shelf.with_disk shelf i new)) g.D.Disk.files i c.args.run.now.file old new
    (record {
      was = λ j e. g.met.H.Shelf.one_disk shelf i j e ∙ c.disk-disk.ensures.value;
      is = λ j e. g.met.H.Shelf.changed shelf i j new c.requires.there e;
      others = λ j apart. g.met.H.Shelf.others shelf i j new apart;
    })
    (removed_gone (g.D.Disk.files old) (g.D.Disk.files new) c.args.run.now.file c.in-Ok.ensures.ok c.remove.ensures.tells)

pub returns-in-Ok-clause-same : goal.returns-in-Ok-clause-same
returns-in-Ok-clause-same g c =
    let shelf = c.args.shelf.now in
    let i = c.args.run.now.disk in
    let old = c.disk-disk.result.now in
    let new = c.remove.new.self in
    same_but (g.H.Shelf.named shelf) (g.H.Shelf.disk_of shelf) (g.H.Shelf.disk_of (g.H.Shelf.with_disk shelf i new)) g.D.Disk.files i c.args.run.now.file old new
    (record {
      was = λ j e. g.met.H.Shelf.one_disk shelf i j e ∙ c.disk-disk.ensures.value;
      is = λ j e. g.met.H.Shelf.changed shelf i j new c.requires.there e;
      others = λ j apart. g.met.H.Shelf.others shelf i j new apart;
    })
    (λ q apart. removed_other (g.D.Disk.files old) (g.D.Disk.files new) c.args.run.now.file q c.in-Ok.ensures.ok c.remove.ensures.tells apart)
