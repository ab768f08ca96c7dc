-- What was read ahead of a file: bytes of it from a place on, out of which short reads are given.
-- This project's own.
use Rattle.std.specs.Prelude.{◌≡◌, ◌≤◌, ℕ, ◌+◌, ◌-◌, List, ◌++◌, length, drop}
use Rattle.spill_disk.specs.Files.{read_of}

-- the bytes ahead, the first of which stands at `from`, have so many bytes at a place
abbrev pub Covers : ℕ → List ℕ → ℕ → ℕ → Type 0
Covers from ahead place count = (from ≤ place) × (place + count ≤ from + length ahead)

-- the front of the buffer is filled with what stands ahead at the place, as far as there is something
pub record GivesAhead (from : ℕ) (ahead : List ℕ) (place : ℕ) (before after : List ℕ) (count : ℕ) : Type 0 where
  pub reached : from ≤ place
  pub counted : count ≡ length (read_of ahead (place - from) (length before))
  pub filled : after ≡ read_of ahead (place - from) (length before) ++ drop count before
