-- Which blocks of a list may be evicted, and their bytes.
-- After Spark: MemoryStore (the dataset that a block is put for is excepted). Pins are this project's own.
use Rattle.std.specs.Prelude.{ℕ, Bool, not, ◌&&◌, Option, List, filter, sum_by}
use Rattle.pool_ledger.specs.Blocks.{is_excepted}
use Rattle.eviction.specs.declared.candidate.Candidate.{Candidate}

-- whether the block isn't pinned, and not of the dataset that is excepted
abbrev pub is_evictable : Option ℕ → Candidate → Bool
is_evictable except block = not block.pinned && not (is_excepted except block.dataset)

-- the blocks that may be evicted, in use order
abbrev pub evictable : Option ℕ → List Candidate → List Candidate
evictable except blocks = filter (is_evictable except) blocks

-- the bytes of the blocks
abbrev pub sizes : List Candidate → ℕ
sizes blocks = sum_by (λ block. block.size) blocks
