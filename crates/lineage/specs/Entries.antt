-- What work on blocks adds to a worker's own entries.
-- This project's own.
use Rattle.std.specs.Prelude.{ℕ, ◌≡◌, ◌⊎◌, Bool, List, [], ◌∷◌, ◌++◌}
use Rattle.std.specs.Arc.{arc_value}
use Rattle.std.specs.List.{AllByRecursion}
use Rattle.pool_ledger.specs.declared.entry.Entry.{Entry}
use Rattle.pool_ledger.specs.declared.entry.Event.TheVariants.{Admit, Pin, Refused, Unpin}
use Rattle.pool_ledger.specs.declared.entry.Level.{Level}
use Rattle.pool_laws.specs.Growing.{entry_by}
use Rattle.turn_lock.specs.Passes.{WorkerView}
use Rattle.task_pool.specs.Workers.{IsEviction, KeepsTask, SeesMore, own_entries}
use Rattle.lineage.specs.declared.rows.Rows.{Rows}
use Rattle.lineage.specs.declared.rows.Rows.TheVariants.{Pinned, Own}

-- the entry is a pin by the worker, or one that it gave back
abbrev pub IsPinning : ℕ → Entry → Type 0
IsPinning worker entry =
    ((dataset part : ℕ) × (copy : Bool) × (entry ≡ entry_by worker (Pin dataset part copy)))
    ⊎ ((dataset part : ℕ) × (entry ≡ entry_by worker (Unpin dataset part)))

-- the entry is an admission by the worker, or its refusal
abbrev pub IsKeeping : ℕ → Entry → Type 0
IsKeeping worker entry =
    ((dataset part size : ℕ) × (level : Level) × (borrowed evictions : ℕ) × (entry ≡ entry_by worker (Admit dataset part size level borrowed evictions)))
    ⊎ ((dataset part size borrowed evictions : ℕ) × (entry ≡ entry_by worker (Refused dataset part size borrowed evictions)))

-- the entry is one of work on blocks: of a pin, of an admission, or an eviction for one
abbrev pub IsRowsWork : ℕ → Entry → Type 0
IsRowsWork worker entry = IsPinning worker entry ⊎ IsKeeping worker entry ⊎ IsEviction worker entry

-- these entries are those before, and such entries
abbrev pub AddsRowsWork : ℕ → List Entry → List Entry → Type 0
AddsRowsWork worker before after = (added : List Entry) × (after ≡ before ++ added) × AllByRecursion (IsRowsWork worker) added

-- the worker went on: its task is as before, it has seen more, and it added entries of work on blocks alone
pub record WorksOn (before after : WorkerView) : Type 0 where
  pub task : KeepsTask before after
  pub sees : SeesMore before after
  pub adds : AddsRowsWork before.number (own_entries before) (own_entries after)

-- what giving rows back adds: the unpin of a block that was pinned
abbrev pub AddsUnpin : WorkerView → WorkerView → Rows → Type 0
AddsUnpin before after (Pinned block) =
    own_entries after ≡ own_entries before ++ entry_by before.number (Unpin (arc_value block).dataset (arc_value block).part) ∷ []
AddsUnpin before after (Own block) = after ≡ before
