-- The blocks before the evictions that wait, by the places of their last uses in the journal.
-- This project's own; the order is that of Spark's MemoryStore.
use Rattle.std.specs.Prelude.{ℕ, ◌≡◌, ◌<◌, ◌≤◌, ◌+◌, ◌^◌, Bool, false, List, Option, Some, map}
use Rattle.std.specs.BTreeMap as tree
use Rattle.std.specs.BTreeMap.{BTreeMap}
use Rattle.std.specs.BTreeMap.Range.{entries_between}
use Rattle.std.specs.BTreeSet as tree_set
use Rattle.std.specs.BTreeSet.{BTreeSet}
use Rattle.std.specs.HashMap.{HashMap, get as map_get}
use Rattle.std.specs.Ordering.{nat_cmp}
use Rattle.std.specs.declared.ops.Bound.TheVariants.{Included, Unbounded}
use Rattle.pool_ledger.specs.Blocks.{Resident, is_block}
use Rattle.eviction.specs.declared.candidate.Candidate.{Candidate}
use Rattle.eviction.specs.Victims.{evictable, sizes}
use Rattle.journal_audit.specs.Rules.{is_the}
use Rattle.journal_replay.specs.declared.block_name.BlockName.{BlockName}
use Rattle.journal_replay.specs.declared.placed.Placed.{Placed}
use Rattle.journal_replay.specs.declared.use_order.UseOrder.{UseOrder}
use Rattle.journal_replay.specs.Tables.{block_of, candidate_in, named, same_name}

-- the block as the rules see it
abbrev pub resident_in : Placed → Resident
resident_in placed = block_of (placed.name, placed.kept)

-- the blocks of some entries, in their order
abbrev pub residents_in : List (ℕ × Placed) → List Resident
residents_in entries = map (λ entry. resident_in entry.1) entries

-- the blocks of some entries as a choice of victims sees them, with these pins
abbrev pub candidates_of : List (Option BlockName) → List (ℕ × Placed) → List Candidate
candidates_of pins entries = map (candidate_in pins) (residents_in entries)

-- the entries from this place on
abbrev pub entries_from : ℕ → List (ℕ × Placed) → List (ℕ × Placed)
entries_from from entries = entries_between nat_cmp (Included from) Unbounded entries

-- of the entries from this place on, the blocks that may go
abbrev pub evictable_from : Option ℕ → List (Option BlockName) → ℕ → List (ℕ × Placed) → List Candidate
evictable_from except pins from entries = evictable except (candidates_of pins (entries_from from entries))

-- the bytes of the blocks that may go, with these pins
abbrev pub evictable_bytes : Option ℕ → List (Option BlockName) → List (ℕ × Placed) → ℕ
evictable_bytes except pins entries = sizes (evictable except (candidates_of pins entries))

-- the block at a place
abbrev pub block_by : BTreeMap ℕ Placed → ℕ → Option Placed
block_by blocks place = tree.get nat_cmp blocks place

-- whether a stretch begins at this place
abbrev pub is_start : BTreeSet ℕ → ℕ → Bool
is_start starts place = tree_set.contains nat_cmp starts place

-- the place that is kept of a block
abbrev pub place_of : {S : Type 0} → HashMap BlockName ℕ S → ℕ → ℕ → Option ℕ
place_of places dataset part = map_get same_name places (named dataset part)

-- the block at a place is the one of which this place is kept
abbrev pub AreKnown : {S : Type 0} → BTreeMap ℕ Placed → HashMap BlockName ℕ S → Type 0
AreKnown blocks places = (place : ℕ) (placed : Placed) → block_by blocks place ≡ Some placed
    → (dataset part : ℕ) → is_the (place_of places dataset part) place ≡ is_block dataset part (resident_in placed)

-- the places that are kept come before this one
abbrev pub AreBefore : {S : Type 0} → HashMap BlockName ℕ S → ℕ → Type 0
AreBefore places place = (dataset part kept : ℕ) → place_of places dataset part ≡ Some kept → kept < place

-- two blocks are of one dataset where no stretch begins behind the first, up to the second
abbrev pub AreStretches : BTreeMap ℕ Placed → BTreeSet ℕ → Type 0
AreStretches blocks starts = (p q : ℕ) (a b : Placed) → block_by blocks p ≡ Some a → block_by blocks q ≡ Some b → p < q
    → ((start : ℕ) → p < start → start ≤ q → is_start starts start ≡ false) → a.name.dataset ≡ b.name.dataset

-- the blocks stand where it is kept, all before this place, and stretches are of one dataset
pub record IsInOrder (order : UseOrder) (place : ℕ) : Type 0 where
  pub known : AreKnown order.placed order.places
  pub before : AreBefore order.places place
  pub stretches : AreStretches order.placed order.starts

-- behind the place of each block there is another number
abbrev pub HasRoom : BTreeMap ℕ Placed → Type 0
HasRoom blocks = (place : ℕ) (placed : Placed) → block_by blocks place ≡ Some placed → place + 1 < 2 ^ 64
