-- The running sums at one worker.
-- This project's own.
use Rattle.std.specs.Prelude.{ℕ, ◌≡◌, ◌≤◌}
use Rattle.pool_ledger.specs.declared.ledger.Kept.{Kept}
use Rattle.pool_ledger.specs.Sizes.{Sizes}
use Rattle.pool_ledger.specs.History.{History, exec, active, maximum, execution_pool}
use Rattle.pool_ledger.specs.Blocks.{stored}
use Rattle.pool_ledger.specs.Accounts.{seat_of}

-- the kept values are the sums over the history, and the seat is this worker's
pub record AreKept (setup : Sizes) (history : History) (worker : ℕ) (kept : Kept) : Type 0 where
  pub seat_is : kept.seat ≡ seat_of history worker
  pub exec_is : kept.exec ≡ exec history
  pub exec_fits : kept.exec ≤ maximum setup history
  pub stored_is : kept.stored ≡ stored history
  pub stored_fits : kept.stored ≤ maximum setup history
  pub max_is : kept.max ≡ maximum setup history
  pub pool_is : kept.pool ≡ execution_pool setup history
  pub pool_fits : kept.pool ≤ maximum setup history
  pub active_is : kept.active ≡ active history
