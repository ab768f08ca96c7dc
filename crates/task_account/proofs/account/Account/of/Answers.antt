use Rattle.task_pool.specs.Workers.{own_of}
use Rattle.task_account.proofs.Peaks.{held_peaked}
use Rattle.task_account.proofs.account.Account.of.Goals as goal

pub returns-clause-at_work : goal.returns-clause-at_work
returns-clause-at_work g c = record { lock_is = c.requires.manager; has_task = c.requires.its_task; peaked = held_peaked (own_of c.args.worker.now) c.args.task }
