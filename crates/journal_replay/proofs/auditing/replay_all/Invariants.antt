use Rattle.std.proofs.Common.{◌≡◌}
use Rattle.pool_ledger.specs.Journal.{after}
use Rattle.journal_replay.specs.Replays.{setup_of, TellsHistory}
use Rattle.journal_replay.proofs.auditing.replay_all.Given as goal

abbrev pub invariant-loop-index : goal.invariant-loop-index
invariant-loop-index l = TellsHistory l.replay (after l.index l.entries) × (setup_of l.replay ≡ l.fn.setup)
