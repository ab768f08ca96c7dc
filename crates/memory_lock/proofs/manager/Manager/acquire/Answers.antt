use Rattle.std.proofs.Common.{◌∙◌, ◌+◌, ℕ, Option, ap, arith, refl}
use Rattle.std.specs.Prelude.{unwrap_or}
use Rattle.pool_ledger.specs.History.{held}
use Rattle.memory_core.specs.Attempts.{granted_in}
use Rattle.memory_lock.specs.Workers.{own_entries, own_of}
use Rattle.task_pool.proofs.GoingOn.{sees_itself, sees_more}
use Rattle.memory_lock.proofs.Adding.{no_wait, waits_on}
use Rattle.memory_lock.proofs.manager.Manager.acquire.Goals as goal

pub loop-init : goal.loop-init
loop-init g c = (tt, tt, sees_itself c.args.worker.now, no_wait c.args.worker.now.number c.args.task.now c.args.asked (own_entries c.args.worker.now), c.requires.its_task, refl, refl)

pub loop-preserved : goal.loop-preserved
loop-preserved g c = (
  tt,
  tt,
  sees_more c.args.worker.now c.loop.worker c.attempt.new.worker c.loop.invariant.2 c.attempt.ensures.sees,
  waits_on c.args.worker.now c.loop.worker c.attempt.new.worker c.args.task.now c.args.asked c.in_ok-bytes.field-0 c.loop.invariant.2 c.loop.invariant.3 c.in_ok-bytes.ensures.ok c.in-Wait.is,
  c.attempt.ensures.its_task,
  c.attempt.ensures.pin ∙ c.loop.invariant.5,
  (let grew = c.in_ok-bytes.ensures.grows ∙ ap (λ (o : Option ℕ). held (own_of c.loop.worker) c.args.task.now + unwrap_or o 0) (ap granted_in c.in-Wait.is) in let was = c.loop.invariant.6 in omega (arith, grew, was)),
)
