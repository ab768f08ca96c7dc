use Rattle.std.proofs.Common.{◌≡◌, ◌∙◌, length, arith}
use Rattle.csv_program.proofs.RemovedBlocks.{cleared_more, cleared_none, cleared_same, gone_all, gone_more}
use Rattle.csv_program.proofs.clearing.clear_each.Goals as goal

pub loop-i-init : goal.loop-i-init
loop-i-init g c = record { clears = cleared_none c.args.datasets.now c.args.worker.now; gone = λ k any low. absurd (omega (arith, low)) }

pub remove-requires : goal.remove-requires
remove-requires g c = record { manager = c.loop-i.invariant.clears.sees.lock_is ∙ c.requires.manager }

pub returns-in_err-remove-clause-clears : goal.returns-in_err-remove-clause-clears
returns-in_err-remove-clause-clears g c =
    let done = c.remove.ensures in
    cleared_same c.args.datasets.now c.args.worker.now c.loop-i.worker c.remove.new.worker c.loop-i.invariant.clears done.task done.pin done.sees c.in_err-remove.ensures.err

pub loop-i-preserved : goal.loop-i-preserved
loop-i-preserved g c =
    let done = c.remove.ensures in
    let held = c.loop-i.invariant in
    record {
      clears = cleared_more c.args.datasets.now c.args.worker.now c.loop-i.worker c.remove.new.worker c.loop-i.i c.loop-i-test.true held.clears done.task done.pin done.sees c.in_ok-remove.ensures.ok;
      gone = gone_more c.args.datasets.now c.args.worker.now c.loop-i.worker c.remove.new.worker c.loop-i.i c.loop-i-test.true held.clears.sees done.sees c.in_ok-remove.ensures.ok held.gone;
    }

pub returns-clause-gone : goal.returns-clause-gone
returns-clause-gone g c =
    let all : c.loop-i.i ≡ length c.args.datasets.now = omega (arith, c.loop-i-test.false, c.loop-i.auto.i-end) in
    gone_all c.args.datasets.now c.args.worker.now c.loop-i.worker c.loop-i.i all c.loop-i.invariant.gone
