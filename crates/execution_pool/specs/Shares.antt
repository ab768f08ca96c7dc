-- What the fair share of an ask is told, and what it answers, in the words of the pool's definitions.
-- This project's own.
use Rattle.std.specs.Prelude.{ℕ, Option, Some, None}
use Rattle.pool_ledger.specs.Answers.{Moment}
use Rattle.execution_pool.specs.declared.ask.ShareAt.{ShareAt}
use Rattle.execution_pool.specs.declared.ask.Share.{Share}
use Rattle.execution_pool.specs.declared.ask.Share.TheVariants.{Grant, Wait}

-- the numbers, as those of a moment, in bytes and in active tasks
abbrev pub moment_of : ShareAt → Moment
moment_of at =
    record {
      maximum = at.max;
      region = at.region;
      stored = at.stored;
      pool = at.pool;
      exec = at.exec;
      held = at.held;
      active = at.active;
      asked = at.asked;
    }

-- the bytes that are granted; none where the task has to wait
abbrev pub granted_in : Share → Option ℕ
granted_in (Grant granted) = Some granted
granted_in Wait = None
