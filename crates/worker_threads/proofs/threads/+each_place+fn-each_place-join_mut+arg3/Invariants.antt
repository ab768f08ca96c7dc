use Rattle.std.proofs.Common.{length, ◌+◌, ◌*◌}
use Rattle.worker_threads.proofs.threads.+each_place+fn-each_place-join_mut+arg3.Given as goal

abbrev pub decreases-join_mut+arg3 : goal.decreases-join_mut+arg3
decreases-join_mut+arg3 g l = 2 * length l.workers.now + 1

abbrev pub decreases-each_place : goal.decreases-each_place
decreases-each_place g l = 2 * length l.workers.now
