-- A store of blocks as its callers see it: what is in memory, in use order.
-- After Spark: MemoryStore (use order). Pins and copies are this project's own.
use Rattle.std.specs.Prelude.{ℕ, ◌≡◌, ◌-◌, Bool, false, ◌==◌, ◌&&◌, not, if◌then◌else◌, List, [], ◌∷◌, filter, nat_lt, Option, ⊤}
use Rattle.std.specs.List.{find, list_any}
use Rattle.std.specs.Option.{option_map, option_map_or}
use Rattle.row_page.specs.Spelling.{page_cost}
use Rattle.pool_ledger.specs.declared.entry.Level.{Level}
use Rattle.eviction.specs.declared.candidate.Candidate.{Candidate}
use Rattle.block_store.specs.declared.block.Block.{Block}

-- a block's content: its rows, each the list of its fields
abbrev pub Rows : Type 0
Rows = List (List (List ℕ))

-- a block in memory: its name, its bytes, its level, its rows, and how many pins keep it
pub record HeldBlock : Type 0 where
  pub dataset : ℕ
  pub part : ℕ
  pub size : ℕ
  pub level : Level
  pub rows : Rows
  pub pins : ℕ

-- what a choice of victims sees of it
abbrev pub candidate_of : HeldBlock → Candidate
candidate_of held =
    record {
      dataset = held.dataset;
      part = held.part;
      size = held.size;
      pinned = nat_lt 0 held.pins;
    }

-- whether it is the block of this dataset and part
abbrev pub is_held : ℕ → ℕ → HeldBlock → Bool
is_held dataset part held = held.dataset == dataset && held.part == part

-- the block, if it is in memory
abbrev pub held_at : List HeldBlock → ℕ → ℕ → Option HeldBlock
held_at blocks dataset part = find (is_held dataset part) blocks

-- the blocks but for this one, in their order
abbrev pub without : ℕ → ℕ → List HeldBlock → List HeldBlock
without dataset part blocks = filter (λ held. not (is_held dataset part held)) blocks

-- a block as it is in memory with so many pins
abbrev pub held_of : ℕ → Block → HeldBlock
held_of pins block =
    record {
      dataset = block.dataset;
      part = block.part;
      size = page_cost block.page.rows;
      level = block.level;
      rows = block.page.rows;
      pins = pins;
    }

-- how many pins keep the block in memory; 0 where it isn't there
abbrev pub pins_at : List HeldBlock → ℕ → ℕ → ℕ
pins_at blocks dataset part = option_map_or (λ held. held.pins) (held_at blocks dataset part) 0

-- the level of the block, if it is in memory
abbrev pub level_at : List HeldBlock → ℕ → ℕ → Option Level
level_at blocks dataset part = option_map (λ held. held.level) (held_at blocks dataset part)

-- the rows of the block, if it is in memory
abbrev pub rows_at : List HeldBlock → ℕ → ℕ → Option Rows
rows_at blocks dataset part = option_map (λ held. held.rows) (held_at blocks dataset part)

-- a block, with one pin less if it is the one of this name
abbrev pub unpinned : ℕ → ℕ → HeldBlock → HeldBlock
unpinned dataset part held =
    if is_held dataset part held then record held { pins = held.pins - 1 } else held

-- no two of the blocks have one name
abbrev pub AreApart : List HeldBlock → Type 0
AreApart [] = ⊤
AreApart (held ∷ others) =
    (list_any (is_held held.dataset held.part) others ≡ false) × AreApart others
