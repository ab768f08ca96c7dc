use Rattle.std.proofs.Common.{◌≡◌, false, rules, sym, subst}
use Rattle.std.specs.Prelude.{is_some}
use Rattle.std.proofs.lemmas.Bool.{both_ways}
use Rattle.row_filter.specs.Chains.{level_at}
use Rattle.turn_lock.specs.Passes.{WorkerView}
use Rattle.lineage.specs.Entries.{WorksOn}
use Rattle.lineage.specs.Telling.{TellsKeep}
use Rattle.lineage.proofs.Told.{keep_earlier}
use Rattle.lineage.proofs.Working.{done_works, works_then}
use Rattle.lineage.proofs.handing.make_rows.Goals as goal
use Rattle.lineage.proofs.handing.make_rows.Goals.{then-is_some+in_ok-keep_block, else-is_some}

pub returns-in_err-keep_block-clause-works : goal.returns-in_err-keep_block-clause-works
returns-in_err-keep_block-clause-works g c =
    let done = c.rows_done.ensures in
    works_then c.args.worker.now c.rows_done.new.worker c.keep_block.new.worker
    (done_works c.args.parent c.args.worker.now c.rows_done.new.worker done.task done.sees done.adds) c.keep_block.ensures.works

pub returns-clause-works : goal.returns-clause-works
returns-clause-works g c =
    let done = c.rows_done.ensures in
    let first = done_works c.args.parent c.args.worker.now c.rows_done.new.worker done.task done.sees done.adds in
    elim c.if-is_some.branch [
      | then-is_some+in_ok-keep_block w ↦ subst (λ (last : WorkerView). WorksOn c.args.worker.now last) (sym w.worker-is)
          (works_then c.args.worker.now c.rows_done.new.worker w.keep_block.new.worker first w.keep_block.ensures.works)
      | else-is_some w ↦ subst (λ (last : WorkerView). WorksOn c.args.worker.now last) (sym w.worker-is) first
    ]

pub returns-clause-told : goal.returns-clause-told
returns-clause-told g c = λ kept.
    let block = c.in_ok-block.ensures in
    elim c.if-is_some.branch [
      | then-is_some+in_ok-keep_block w ↦
          let told = w.in_ok-keep_block.ensures.told in
          let named = rw (block.dataset_is, block.part_is) at told in
          subst (λ (last : WorkerView). TellsKeep _ c.args.part c.args.worker.now last) (sym w.worker-is)
          (keep_earlier _ c.args.part c.args.worker.now c.rows_done.new.worker w.keep_block.new.worker c.rows_done.ensures.sees named)
      | else-is_some w ↦
          let lost : is_some (level_at c.args.lineage.now.chain c.args.dataset) ≡ false = search rules in
          absurd (both_ways (is_some (level_at c.args.lineage.now.chain c.args.dataset)) lost kept)
    ]
