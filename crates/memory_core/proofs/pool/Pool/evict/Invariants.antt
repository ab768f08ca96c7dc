use Rattle.memory_core.proofs.Turning.{IsThrough}
use Rattle.memory_core.proofs.pool.Pool.evict.Given as goal

-- so many of the first blocks that may go went
abbrev pub invariant-loop-step : goal.invariant-loop-step
invariant-loop-step g l = IsThrough l.fn.worker l.fn.except l.fn.count l._step l.fn.self l.self
