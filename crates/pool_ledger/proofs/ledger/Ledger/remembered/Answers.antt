use Rattle.std.proofs.Common.{◌∙◌, sym}
use Rattle.pool_ledger.proofs.Walk.{frees_fit, grants_fit, held_at, active_at}
use Rattle.pool_ledger.proofs.ledger.Ledger.remembered.Goals as goal

pub after-found-requires-clause-grants : goal.after-found-requires-clause-grants
after-found-requires-clause-grants c =
    let at = c.loop-entry.invariant in
    rw (at.same_task, at.held_is)
    (grants_fit _ _ _ _ c.args.task c.loop-entry-test.true _ at.whole at.recorded at.range)

pub after-found-requires-clause-frees : goal.after-found-requires-clause-frees
after-found-requires-clause-frees c =
    let at = c.loop-entry.invariant in
    rw (at.same_task, at.held_is)
    (frees_fit _ _ _ _ c.args.task c.loop-entry-test.true _ at.whole at.recorded at.range)

pub loop-entry-preserved : goal.loop-entry-preserved
loop-entry-preserved c =
    let at = c.loop-entry.invariant in
    let held_now = held_at _ _ _ _ c.args.task c.loop-entry-test.true _ at.whole at.recorded at.range in
    let held_is = rw (at.same_task, at.held_is) at c.after-found.ensures.held in
    let active_is = rw (at.same_task, at.active_is) at c.after-found.ensures.active in
    record {
      same_task = c.after-found.ensures.task ∙ at.same_task;
      held_is = held_is ∙ sym held_now;
      active_is = active_is ∙ active_at _ _ _ _ c.args.task c.loop-entry-test.true _ at.whole at.recorded at.range _ (held_is ∙ sym held_now);
      whole = at.whole;
      recorded = at.recorded;
      range = at.range;
    }
