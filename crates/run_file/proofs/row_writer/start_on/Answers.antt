use Rattle.std.proofs.Common.{◌∙◌}
use Rattle.std.proofs.lemmas.Result.{IfOk-weaker}
use Rattle.run_file.proofs.Changing.{same_but, made_other}
use Rattle.run_file.proofs.row_writer.start_on.Goals as goal

pub returns-clause-same : goal.returns-clause-same
returns-clause-same g c =
    let shelf = c.args.shelf.now in
    let i = c.args.to in
    let old = c.disk-disk.result.now in
    let new = c.start.new.disk in
    IfOk-weaker c.start.result _ _ (λ writer made. same_but (g.H.Shelf.named shelf) (g.H.Shelf.disk_of shelf) (g.H.Shelf.disk_of (g.H.Shelf.with_disk shelf i new)) g.D.Disk.files i writer.file old new
    (record {
      was = λ j e. g.met.H.Shelf.one_disk shelf i j e ∙ c.disk-disk.ensures.value;
      is = λ j e. g.met.H.Shelf.changed shelf i j new c.requires.to e;
      others = λ j apart. g.met.H.Shelf.others shelf i j new apart;
    })
    (λ q apart. made_other (g.D.Disk.files old) (g.D.Disk.files new) writer.file q made c.start.ensures.tells apart)) c.start.ensures.made
