-- What a ledger keeps beside its entries.
-- This project's own.
use Rattle.std.specs.Prelude.{ℕ, ◌≡◌, ◌≤◌, ◌<◌, Option, Some, List, slice_get}
use Rattle.std.specs.Option.{option_map}
use Rattle.pool_ledger.specs.declared.holding.Holding.{Holding}
use Rattle.pool_ledger.specs.Sizes.{Sizes, IsInRange}
use Rattle.pool_ledger.specs.History.{History, held, exec, is_active, active, open_task, maximum, execution_pool}
use Rattle.pool_ledger.specs.Blocks.{stored}
use Rattle.pool_ledger.specs.Recorded.{IsRecorded}

-- a ledger as its callers see it: the setup, the history, and the number of entries for which there is room
pub record Accounts : Type 0 where
  pub setup : Sizes
  pub history : History
  pub spare : ℕ

-- what is kept of the open task of a worker
abbrev pub seat_of : History → ℕ → Option Holding
seat_of history worker =
    option_map (λ task. record { task = task; held = held history task; active = is_active history task }) (open_task history worker)

-- the kept values are the sums over the history, in bytes, and the number of active tasks
pub record AreSums (setup : Sizes) (history : History) (seats : List (Option Holding)) (total kept_stored all pool running : ℕ) : Type 0 where
  pub recorded : IsRecorded setup history
  pub range : IsInRange setup.maximum setup.region setup.workers
  pub seat : (worker : ℕ) → worker < 16 → slice_get seats worker ≡ Some (seat_of history worker)
  pub exec_is : total ≡ exec history
  pub exec_fits : total ≤ maximum setup history
  pub stored_is : kept_stored ≡ stored history
  pub stored_fits : kept_stored ≤ maximum setup history
  pub max_is : all ≡ maximum setup history
  pub pool_is : pool ≡ execution_pool setup history
  pub pool_fits : pool ≤ maximum setup history
  pub active_is : running ≡ active history
