use Rattle.memory_lock.proofs.Deciding.{decide}
use Rattle.memory_lock.proofs.locked.own_entries_decide.Goals as goal

pub returns : goal.returns
returns c = decide c.own_entries_tell.ensures.worker c.own_entries_tell.ensures.task c.own_entries_tell.ensures.growths
