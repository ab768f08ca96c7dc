use Rattle.std.proofs.Common.{◌≡◌}
use Rattle.spill_tests.proofs.tests.playing.note_left.Given as goal

-- the pool stays
abbrev pub invariant-loop-consumer : goal.invariant-loop-consumer
invariant-loop-consumer g l = l.memory.pool ≡ l.fn.memory.pool
