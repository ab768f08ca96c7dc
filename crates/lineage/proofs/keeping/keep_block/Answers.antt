use Rattle.std.specs.Arc.{arc_value}
use Rattle.row_page.specs.Spelling.{page_cost}
use Rattle.lineage.proofs.Told.{kept_told}
use Rattle.lineage.proofs.Working.{admission_adds}
use Rattle.lineage.proofs.keeping.keep_block.Goals as goal

pub returns-clause-works : goal.returns-clause-works
returns-clause-works g c =
    let block = arc_value c.in_ok-shared.shared in
    record {
      task = c.in_ok-admit.ensures.task;
      sees = c.in_ok-admit.ensures.sees;
      adds = admission_adds c.in_ok-admit.field-0 block (page_cost block.page.rows) c.args.worker.now c.admit.new.worker c.in_ok-admit.ensures.ok;
    }

pub returns-clause-told : goal.returns-clause-told
returns-clause-told g c =
    let block = arc_value c.in_ok-shared.shared in
    kept_told c.in_ok-admit.field-0 (arc_value c.args.block.now) block (page_cost block.page.rows) c.args.worker.now c.admit.new.worker c.in_ok-shared.ensures c.in_ok-admit.ensures.sees c.in_ok-admit.ensures.ok
