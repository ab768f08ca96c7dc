-- Want of room in the pool, in the journal of a run.
-- This project's own.
use Rattle.std.specs.Prelude.{ℕ, List}
use Rattle.pool_ledger.specs.Journal.{history_of}
use Rattle.pool_ledger.specs.Sizes.{Sizes}
use Rattle.pool_ledger.specs.Workers.{entries_of}
use Rattle.pool_ledger.specs.declared.entry.Entry.{Entry}
use Rattle.task_runner.specs.Works.{ShowsNoRoom}

-- want of room in the pool, by what the journal has of some worker: the last attempt of a task was granted less than it asked,
-- and less than was asked for; and its end freed what it held
pub record ShowsShort (pool : Sizes) (journal : List Entry) (asked held floor : ℕ) : Type 0 where
  pub worker : ℕ
  pub task : ℕ
  pub shows : ShowsNoRoom pool (history_of (entries_of worker journal)) task asked held floor
