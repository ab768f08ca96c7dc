use Rattle.std.proofs.Common.{arith}
use Rattle.task_memory.proofs.Serving.{moves_trans, moves_none}
use Rattle.task_memory.proofs.steps.TaskMemorySpillsServing.serve.Goals as goal

pub spills-preserved : goal.spills-preserved
spills-preserved g c =
    let kept = c.spills.invariant in
    let step = c.in_ok-step.ensures in
    let steps = rw c.if-not-branch.false at step.steps.steps in
    record {
      stands = record { stack = steps.stack; page = step.steps.page; at_work = step.goes.pool.at_work };
      tried = steps.tried;
      moves = moves_trans _ _ _ kept.moves steps.moves;
      few = let before = kept.few in let need = kept.moves.need in let after = steps.few in grind arith;
      few_runs = omega (arith, step.few_runs, kept.few_runs);
      falls = omega (arith, steps.falls, kept.falls);
      goes = c.scenes_go_on.ensures.more _ _ _ kept.goes step.goes;
    }

pub spills-init : goal.spills-init
spills-init g c = record {
  stands = c.requires.stands;
  tried = c.requires.tried;
  moves = moves_none _;
  few = grind arith;
  few_runs = omega arith;
  falls = omega arith;
  goes = c.scenes_go_on.ensures.none _ c.requires.stands.at_work;
}

pub returns-in_err-step-clause-goes : goal.returns-in_err-step-clause-goes
returns-in_err-step-clause-goes g c = c.scenes_go_on.ensures.more _ _ _ c.spills.invariant.goes c.step.ensures.goes

pub returns-then-not-branch-clause-goes : goal.returns-then-not-branch-clause-goes
returns-then-not-branch-clause-goes g c = c.scenes_go_on.ensures.more _ _ _ c.spills.invariant.goes c.step.ensures.goes
