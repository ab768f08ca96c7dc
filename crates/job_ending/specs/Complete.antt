-- When a run prints its table: the input is valid, nothing outside fails, and no attempt is granted short.
-- This project's own.
use Rattle.std.specs.Prelude.{ℕ, ◌≤◌, List, unwrap_or, ⊤}
use Rattle.std.specs.List.{AllByRecursion}
use Rattle.fault_count.specs.Faults.{Rose}
use Rattle.pool_ledger.specs.declared.entry.Entry.{Entry}
use Rattle.pool_ledger.specs.declared.entry.Event.{Event}
use Rattle.pool_ledger.specs.declared.entry.Event.TheVariants.{Attempt}

-- no count of faults rose: neither the input's nor the output's, nor that of the journal's sink or of a post's disk
pub record FailsNothing (input input' output output' journal journal' : ℕ) (posts posts' : ℕ → ℕ) : Type 0 where
  pub reads : Rose input input' → ⊥
  pub writes : Rose output output' → ⊥
  pub records : Rose journal journal' → ⊥
  pub disks : (post : ℕ) → Rose (posts post) (posts' post) → ⊥

-- an attempt is granted all that it asks; a wait is granted nothing
abbrev pub IsGrantedWhole : Event → Type 0
IsGrantedWhole (Attempt task asked moved evictions got) = asked ≤ unwrap_or got 0
IsGrantedWhole _ = ⊤

-- each attempt is
abbrev pub GrantsAll : List Entry → Type 0
GrantsAll journal = AllByRecursion (λ entry. IsGrantedWhole entry.event) journal
