-- What the store keeps of the blocks in memory: numbered slots, the last used first.
-- After Spark: MemoryStore, whose entries stand in access order.
use Rattle.std.specs.Prelude.{◌≡◌, ◌<◌, ◌≤◌, ◌+◌, ◌-◌, ◌^◌, ℕ, List, [], ◌∷◌, ◌++◌, length, Option, Some, None, true, nat_eq, ⊤}
use Rattle.std.specs.Map.{lookup}
use Rattle.std.specs.Arc.{arc_value}
use Rattle.lru.specs.LruCache.{LruCache}
use Rattle.block_store.specs.declared.resident.Resident.{Resident}
use Rattle.block_store.specs.Stores.{HeldBlock, held_of, is_held, AreApart}

-- a slot with its number: it has a block, or is empty
abbrev pub NumberedSlot : Type 0
NumberedSlot = ℕ × Option Resident

-- the block that a slot has
abbrev pub held_in : Resident → HeldBlock
held_in resident = held_of resident.pins (arc_value resident.block)

-- it, with so many pins
abbrev pub with_pins : ℕ → Resident → Resident
with_pins pins resident = record resident { pins = pins }

-- these blocks, and behind them the one that a slot has
abbrev pub followed_by : List HeldBlock → Option Resident → List HeldBlock
followed_by blocks None = blocks
followed_by blocks (Some resident) = blocks ++ held_in resident ∷ []

-- the blocks in the slots, from the last slot to the first
abbrev pub blocks_in : List NumberedSlot → List HeldBlock
blocks_in [] = []
blocks_in (slot ∷ slots) = followed_by (blocks_in slots) slot.1

-- each number is below this one
abbrev pub AreBelow : ℕ → List NumberedSlot → Type 0
AreBelow count [] = ⊤
AreBelow count (slot ∷ slots) = (slot.0 < count) × AreBelow count slots

-- the slots, where there are any
abbrev pub slots_of : Option (LruCache ℕ (Option Resident)) → List NumberedSlot
slots_of None = []
slots_of (Some cache) = cache.entries

-- the cache never evicts by itself
abbrev pub IsUnbounded : Option (LruCache ℕ (Option Resident)) → Type 0
IsUnbounded None = ⊤
IsUnbounded (Some cache) = cache.cap ≡ 2 ^ 64 - 1

-- the blocks in memory in use order, and for how many more there is room
pub record MemoryView : Type 0 where
  pub blocks : List HeldBlock
  pub room : ℕ

-- what is true of the slots, where so many have blocks and there is room for so many more
pub record AreSlots (cache : Option (LruCache ℕ (Option Resident))) (count room : ℕ) : Type 0 where
  pub apart : AreApart (blocks_in (slots_of cache))
  pub counted : count ≡ length (blocks_in (slots_of cache))
  pub enough : count + room ≤ length (slots_of cache)
  pub numbers : AreBelow (length (slots_of cache)) (slots_of cache)
  pub unbounded : IsUnbounded cache

-- the slot of this number has the block of this name
pub record HasBlock
    (dataset part number : ℕ) (resident : Resident) (slots : List NumberedSlot) : Type 0 where
  pub here : lookup (nat_eq number) slots ≡ Some (Some resident)
  pub named : is_held dataset part (held_in resident) ≡ true
