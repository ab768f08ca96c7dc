use Rattle.std.proofs.Common.{◌≡◌}
use Rattle.pool_ledger.specs.History.{open_task}
use Rattle.pool_ledger.specs.Journal.{after}
use Rattle.pool_tests.proofs.tests.game.open_of.Given as goal

-- what was found is right for the entries so far
abbrev pub invariant-loop-entry : goal.invariant-loop-entry
invariant-loop-entry l = l.open ≡ open_task (after l.entry-index l.entries) l.worker
