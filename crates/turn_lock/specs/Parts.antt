-- What a list that was seen says of a history, both the oldest entry first.
-- This project's own.
use Rattle.std.specs.Prelude.{◌≡◌, ℕ, List, length, Contains, nat_lt, if◌then◌else◌}
use mathlib.Core.List.{IsPrefix}
use Rattle.pool_ledger.specs.declared.entry.Entry.{Entry}
use Rattle.pool_ledger.specs.Workers.{entries_of}

-- the whole begins with the part, and has of the workers with these numbers the part's entries alone
pub record IsPart (numbers : List ℕ) (part whole : List Entry) : Type 0 where
  pub begins : IsPrefix part whole
  pub own : (number : ℕ) → Contains numbers number → entries_of number whole ≡ entries_of number part

-- the longer of two lists; the first, where neither is longer
abbrev pub longer : List Entry → List Entry → List Entry
longer first second = if nat_lt (length first) (length second) then second else first
