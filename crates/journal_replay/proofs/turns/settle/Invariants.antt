use Rattle.std.proofs.Common.{◌≡◌, ◌++◌}
use Rattle.pool_ledger.specs.Journal.{after}
use Rattle.journal_replay.specs.Replays.{TellsBefore}
use Rattle.journal_replay.proofs.turns.settle.Given as goal

abbrev pub invariant-loop-eviction : goal.invariant-loop-eviction
invariant-loop-eviction l =
    (l.ledger.history ≡ after l.eviction-index l.waiting ++ l.initial.ledger.history) × (l.ledger.setup ≡ l.initial.ledger.setup) × TellsBefore l.before l.ledger.history
