use Rattle.std.proofs.Common.{subst}
use Rattle.pool_ledger.specs.Accounts.{Accounts, AreSums}
use Rattle.pool_ledger.proofs.ledger.Ledger.look_up.Goals as goal
use Rattle.pool_ledger.proofs.Seats.{held_found, active_found}

pub returns-then-open-task-clause-held : goal.returns-then-open-task-clause-held
returns-then-open-task-clause-held c =
    let sums = subst (λ (v : Accounts). AreSums v.setup v.history c.self.inside.seats c.self.inside.exec c.self.inside.stored c.self.inside.max c.self.inside.pool c.self.inside.active) c.self.view_is c.self.invariant.0 in
    held_found _ _ _ _ _ _ _ _ sums _ c.loop-seat-test.true _ _ c.in-Some.is c.if-open-task.true

pub returns-then-open-task-clause-active : goal.returns-then-open-task-clause-active
returns-then-open-task-clause-active c =
    let sums = subst (λ (v : Accounts). AreSums v.setup v.history c.self.inside.seats c.self.inside.exec c.self.inside.stored c.self.inside.max c.self.inside.pool c.self.inside.active) c.self.view_is c.self.invariant.0 in
    active_found _ _ _ _ _ _ _ _ sums _ c.loop-seat-test.true _ _ c.in-Some.is c.if-open-task.true
