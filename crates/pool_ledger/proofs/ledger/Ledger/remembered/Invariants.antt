use Rattle.std.proofs.Common.{◌≡◌}
use Rattle.std.specs.Prelude.{reverse}
use Rattle.pool_ledger.specs.Sizes.{IsInRange}
use Rattle.pool_ledger.specs.History.{held, is_active}
use Rattle.pool_ledger.specs.Journal.{after}
use Rattle.pool_ledger.specs.Recorded.{IsRecorded}
use Rattle.pool_ledger.proofs.ledger.Ledger.remembered.Given as goal

-- what was found is the task after the entries so far
abbrev pub invariant-loop-entry : goal.invariant-loop-entry
invariant-loop-entry l = record {
  same_task : l.found.task ≡ l.task;
  held_is : l.found.held ≡ held (after l.entry-index l.entry-items) l.task;
  active_is : l.found.active ≡ is_active (after l.entry-index l.entry-items) l.task;
  whole : reverse l.entry-items ≡ l.self.history;
  recorded : IsRecorded l.self.setup l.self.history;
  range : IsInRange l.self.setup.maximum l.self.setup.region l.self.setup.workers;
}
