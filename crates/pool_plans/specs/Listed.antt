-- The residents of a history as a choice of victims sees them.
-- This project's own.
use Rattle.std.specs.Prelude.{List, map}
use Rattle.pool_ledger.specs.History.{History}
use Rattle.pool_ledger.specs.Blocks.{Resident, is_pinned, residents}
use Rattle.eviction.specs.declared.candidate.Candidate.{Candidate}

-- what a choice sees of a block in memory: its name, its bytes, and whether a pin keeps it
abbrev pub seen_in : History → Resident → Candidate
seen_in history block =
    record { dataset = block.dataset; part = block.part; size = block.size; pinned = is_pinned history block.dataset block.part }

-- the residents in use order, as a choice sees them
abbrev pub listed : History → List Candidate
listed history = map (seen_in history) (residents history)
