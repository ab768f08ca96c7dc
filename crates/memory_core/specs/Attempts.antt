-- What an ask for execution memory is answered, in bytes.
-- After Spark: ExecutionMemoryPool. The floor is this project's own.
use Rattle.std.specs.Prelude.{ℕ, ◌+◌, ◌≤◌, ◌<◌, Option, Some, None}
use Rattle.memory_core.specs.declared.attempted.Attempted.{Attempted}
use Rattle.memory_core.specs.declared.attempted.Attempted.TheVariants.{Granted, Wait}
use Rattle.pool_ledger.specs.Sizes.{Sizes, floor_of}
use Rattle.pool_ledger.specs.History.{History}
use Rattle.pool_laws.specs.Laws.{IsPassed}

-- what is granted; none is a wait
abbrev pub granted_in : Attempted → Option ℕ
granted_in (Granted bytes) = Some bytes
granted_in Wait = None

-- a grant below what was asked leaves a task that held this much with at least the floor
abbrev pub KeepsFloor : Sizes → ℕ → ℕ → Attempted → Type 0
KeepsFloor setup held asked (Granted bytes) = bytes < asked → floor_of setup ≤ held + bytes
KeepsFloor setup held asked Wait = Unit {0}

-- a task waits only where some other active task holds strictly more
abbrev pub WaitsBehind : History → ℕ → Attempted → Type 0
WaitsBehind history task (Granted bytes) = Unit {0}
WaitsBehind history task Wait = IsPassed history task
