use Rattle.std.proofs.Common.{◌≡◌, take}
use Rattle.journal_replay.specs.UseOrder.{evictable_bytes}
use Rattle.journal_replay.proofs.evictable.evictable_bytes.Given as goal

abbrev pub invariant-loop-worker : goal.invariant-loop-worker
invariant-loop-worker l = l.bytes ≡ evictable_bytes l.except (take l.worker l.pins) l.turns.before.order.placed.entries
