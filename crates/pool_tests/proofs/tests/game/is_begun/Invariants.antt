use Rattle.std.proofs.Common.{◌≡◌}
use Rattle.pool_ledger.specs.History.{was_begun}
use Rattle.pool_ledger.specs.Journal.{after}
use Rattle.pool_tests.proofs.tests.game.is_begun.Given as goal

-- what was found is right for the entries so far
abbrev pub invariant-loop-entry : goal.invariant-loop-entry
invariant-loop-entry l = l.begun ≡ was_begun (after l.entry-index l.entries) l.task
