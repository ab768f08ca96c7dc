-- Whose entries a journal has, the oldest first.
-- This project's own.
use Rattle.std.specs.Prelude.{ℕ, ◌≡◌, ◌==◌, ◌++◌, List, All, filter}
use Rattle.pool_ledger.specs.declared.entry.Entry.{Entry}

-- the entries of a worker, in order
abbrev pub entries_of : ℕ → List Entry → List Entry
entries_of worker journal = filter (λ entry. entry.worker == worker) journal

-- the journal goes on with entries of this worker alone
abbrev pub Continues : ℕ → List Entry → List Entry → Type 0
Continues worker before after = (more : List Entry) × (before ++ more ≡ after) × All (λ entry. entry.worker ≡ worker) more
