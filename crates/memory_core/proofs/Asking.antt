-- The laws of the answer to an ask.
use Rattle.std.proofs.Common.{◌≡◌, ℕ, Some, sym}
use Rattle.pool_ledger.specs.Sizes.{Sizes}
use Rattle.pool_ledger.specs.History.{History, held, open_task}
use Rattle.pool_ledger.specs.Answers.{answer}
use Rattle.pool_laws.specs.Laws.{KeepsLaws}
use Rattle.memory_core.specs.declared.attempted.Attempted.{Attempted}
use Rattle.memory_core.specs.declared.attempted.Attempted.TheVariants.{Granted, Wait}
use Rattle.memory_core.specs.Attempts.{granted_in, KeepsFloor, WaitsBehind}

pub waits_behind : (setup : Sizes) (history : History) (task asked : ℕ) (got : Attempted) → KeepsLaws setup history
    → granted_in got ≡ answer setup history task asked → WaitsBehind history task got
waits_behind setup history task asked (Granted bytes) laws is = tt
waits_behind setup history task asked Wait laws is = laws.passed task asked (sym is)

pub keeps_floor : (setup : Sizes) (history : History) (worker task asked : ℕ) (got : Attempted) → KeepsLaws setup history
    → open_task history worker ≡ Some task → granted_in got ≡ answer setup history task asked → KeepsFloor setup (held history task) asked got
keeps_floor setup history worker task asked (Granted bytes) laws its is = laws.floor task asked bytes (laws.few_active.asking worker task its) (sym is)
keeps_floor setup history worker task asked Wait laws its is = tt
