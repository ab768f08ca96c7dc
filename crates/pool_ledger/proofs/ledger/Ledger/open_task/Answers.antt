use Rattle.std.proofs.Common.{subst, arith}
use Rattle.pool_ledger.specs.Accounts.{Accounts, AreSums}
use Rattle.pool_ledger.proofs.ledger.Ledger.open_task.Goals as goal
use Rattle.pool_ledger.proofs.Seats.{none_beyond, none_found, open_found}

pub returns-then-worker-ge16 : goal.returns-then-worker-ge16
returns-then-worker-ge16 c =
    let sums = subst (λ (v : Accounts). AreSums v.setup v.history c.self.inside.seats c.self.inside.exec c.self.inside.stored c.self.inside.max c.self.inside.pool c.self.inside.active) c.self.view_is c.self.invariant.0 in
    none_beyond _ _ _ _ _ _ _ _ sums _ c.if-worker-ge16.true

pub returns-in-Some : goal.returns-in-Some
returns-in-Some c =
    let sums = subst (λ (v : Accounts). AreSums v.setup v.history c.self.inside.seats c.self.inside.exec c.self.inside.stored c.self.inside.max c.self.inside.pool c.self.inside.active) c.self.view_is c.self.invariant.0 in
    open_found _ _ _ _ _ _ _ _ sums _ (omega (arith, c.if-worker-ge16.false)) _ c.in-Some.is

pub returns-in-None : goal.returns-in-None
returns-in-None c =
    let sums = subst (λ (v : Accounts). AreSums v.setup v.history c.self.inside.seats c.self.inside.exec c.self.inside.stored c.self.inside.max c.self.inside.pool c.self.inside.active) c.self.view_is c.self.invariant.0 in
    none_found _ _ _ _ _ _ _ _ sums _ (omega (arith, c.if-worker-ge16.false)) c.in-None.is
