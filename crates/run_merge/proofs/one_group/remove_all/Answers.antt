use Rattle.run_file.specs.Shelved.{files_on}
use Rattle.run_file.proofs.Shelves.{keeps_trans}
use Rattle.run_merge.proofs.Clearing.{cleared_more, gone_all}
use Rattle.run_merge.proofs.one_group.remove_all.Goals as goal

pub loop-run-preserved : goal.loop-run-preserved
loop-run-preserved g c =
    let files = files_on g.H.Shelf.disk_of g.D.Disk.files in
    let start = c.args.shelf.now in
    let now = c.loop-run.shelf in
    let after = c.remove_run.new.shelf in
    let before = c.loop-run.invariant in
    let cleared = cleared_more (g.H.Shelf.named start) (g.H.Shelf.named now) (files start) (files now) (files after) c.args.runs.now c.loop-run.run-index c.loop-run-test.true before.shelf.names c.in_ok-remove_run.ensures.gone c.remove_run.ensures.same (record { gone = before.gone; others = before.others }) in
    record {
      gone = cleared.gone;
      others = cleared.others;
      shelf = keeps_trans g.H.Shelf.count_of g.H.Shelf.named g.H.Shelf.disk_of g.D.Disk.files g.D.Disk.faults start now after before.shelf c.remove_run.ensures.shelf;
    }

pub returns-clause-gone : goal.returns-clause-gone
returns-clause-gone g c =
    gone_all (g.H.Shelf.named c.args.shelf.now) (files_on g.H.Shelf.disk_of g.D.Disk.files c.loop-run.shelf) c.args.runs.now c.loop-run.run-index c.loop-run-test.false c.loop-run.invariant.gone
