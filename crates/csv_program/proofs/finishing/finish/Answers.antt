use Rattle.std.proofs.Common.{◌<◌, length, arith, slice_index_or, slice_set}
use Rattle.turn_lock.specs.Passes.{WorkerView}
use Rattle.task_runner.specs.PassViews.{parts_of, task_for}
use Rattle.task_runner.specs.Works.{Works}
use Rattle.csv_program.proofs.Crews.{works_at}
use Rattle.csv_program.proofs.Followed.{on_ok_more}
use Rattle.csv_program.proofs.finishing.finish.Goals as goal

pub returns-clause-works : goal.returns-clause-works
returns-clause-works g c =
    let one : 0 < length c.args.workers.now.items = omega (arith, c.requires.workers.0, c.requires.some) in
    on_ok_more c.merge_aside.result (Works (task_for c.args.pass.now (parts_of c.args.pass.now)) c.index_mut.result.now c.merge_aside.new.worker)
    ((any : WorkerView) → Works (task_for c.args.pass.now (parts_of c.args.pass.now)) (slice_index_or c.args.workers.now.items 0 any) (slice_index_or (slice_set c.args.workers.now.items 0 c.merge_aside.new.worker) 0 any))
    (λ works any. works_at (task_for c.args.pass.now (parts_of c.args.pass.now)) c.args.workers.now.items c.index_mut.result.now c.merge_aside.new.worker any one c.index_mut.ensures.value works)
    c.merge_aside.ensures.works
