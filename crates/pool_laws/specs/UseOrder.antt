-- Which blocks are in memory, and in what order they were used.
-- After Spark: MemoryStore, whose entries stand in access order.
use Rattle.std.specs.Prelude.{ℕ, ◌≡◌, ◌+◌, ◌<◌, ◌==◌, Bool, true, false, ◌&&◌, if◌then◌else◌, [], ◌∷◌, length}
use Rattle.std.specs.List.{AllPairs}
use Rattle.pool_ledger.specs.declared.entry.Event.{Event}
use Rattle.pool_ledger.specs.declared.entry.Event.TheVariants.{Admit, Evict, Pin, Remove}
use Rattle.pool_ledger.specs.History.{History}
use Rattle.pool_ledger.specs.Blocks.{Resident, residents, is_resident}

-- whether the event is a use of the block: its admission, or a pin of it in memory
abbrev pub is_use : ℕ → ℕ → Event → Bool
is_use dataset part (Admit d p size level borrowed evictions) = dataset == d && part == p
is_use dataset part (Pin d p false) = dataset == d && part == p
is_use dataset part _ = false

-- the place of the block's last use among the entries, from 1; 0 if it was never used
abbrev pub last_use : History → ℕ → ℕ → ℕ
last_use [] dataset part = 0
last_use (entry ∷ before) dataset part =
    if is_use dataset part entry.event then length before + 1 else last_use before dataset part

-- whether the block is in memory after an event, if it was or wasn't before
abbrev pub kept_after : ℕ → ℕ → Event → Bool → Bool
kept_after dataset part (Admit d p size level borrowed evictions) was = if d == dataset && p == part then true else was
kept_after dataset part (Evict d p size fate) was = if d == dataset && p == part then false else was
kept_after dataset part (Remove d p size) was = if d == dataset && p == part then false else was
kept_after dataset part _ was = was

-- whether the block was admitted, and neither evicted nor removed since
abbrev pub is_kept : History → ℕ → ℕ → Bool
is_kept [] dataset part = false
is_kept (entry ∷ before) dataset part = kept_after dataset part entry.event (is_kept before dataset part)

-- the one block was last used before the other
abbrev pub IsUsedBefore : History → Resident → Resident → Type 0
IsUsedBefore history earlier later = last_use history earlier.dataset earlier.part < last_use history later.dataset later.part

-- the residents are the blocks that were admitted and neither evicted nor removed since, and each of them stands
-- before those that were used after it
pub record AreInUseOrder (history : History) : Type 0 where
  pub kept : (dataset part : ℕ) → is_resident history dataset part ≡ is_kept history dataset part
  pub ordered : AllPairs (IsUsedBefore history) (residents history)
