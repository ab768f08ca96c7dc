use Rattle.std.proofs.Common.{◌≡◌, Some, None}
use Rattle.std.specs.Prelude.{IfSome, IfNone}
use Rattle.pool_ledger.specs.Blocks.{worker_pin}
use Rattle.pool_ledger.specs.Journal.{after}
use Rattle.pool_tests.proofs.tests.game.pin_of_worker.Given as goal

-- what was found is right for the entries so far
abbrev pub invariant-loop-entry : goal.invariant-loop-entry
invariant-loop-entry l =
    IfSome l.pinned (λ name. worker_pin (after l.entry-index l.entries) l.worker ≡ Some (record { dataset = name.0; part = name.1 }))
    × IfNone l.pinned (worker_pin (after l.entry-index l.entries) l.worker ≡ None)
