use Rattle.memory_lock.proofs.Deciding.{fit_pool}
use Rattle.memory_lock.proofs.locked.tasks_fit_the_pool.Goals as goal

pub returns : goal.returns
returns c = fit_pool c.own_entries_tell.ensures.worker c.own_entries_tell.ensures.task c.permitted_histories_keep_laws.ensures c.sums_stay_small.ensures
