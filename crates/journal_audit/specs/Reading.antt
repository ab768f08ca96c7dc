-- Reading the lines of a journal's text, as functions on lists of bytes.
-- This project's own.
use Rattle.std.specs.Prelude.{ℕ, if◌then◌else◌, ◌^◌, ◌&&◌, Bool, not, nat_eq, nat_le, List, [], ◌∷◌, Option, Some, None, codes, take, drop, cond}
use Rattle.std.specs.List.{prefix_len}
use Rattle.std.specs.Str.{bytes_eq}
use Rattle.pool_ledger.specs.declared.entry.Entry.{Entry}
use Rattle.pool_ledger.specs.Sizes.{Sizes}
use Rattle.journal_audit.specs.declared.version.Version.{Version}
use Rattle.journal_audit.specs.declared.version.Version.TheVariants.{First, Second}
use Rattle.journal_audit.specs.Fields.{◌>>=◌, split, long_at, ended}
use Rattle.journal_audit.specs.Entries.{entry_at}

-- the sizes, if a setup can have them
unfoldable pub setup_of : ℕ → ℕ → ℕ → Option Sizes
setup_of maximum region workers =
    cond ((nat_le region maximum && nat_le maximum (2 ^ 40)) && (nat_le 1 workers && nat_le workers 16))
    (Some (record { maximum = maximum; region = region; workers = workers })) None

-- the sizes behind the word of the first line
unfoldable pub sizes_at : List ℕ → Option Sizes
sizes_at bytes = do
  maximum ← long_at bytes
  region ← long_at maximum.1
  workers ← long_at region.1
  setup ← setup_of maximum.0 region.0 workers.0
  ended setup workers.1

-- the version whose texts begin with these words
unfoldable pub version_of : List ℕ → Option Version
version_of words =
    if bytes_eq words (codes "memory journal 1") then Some First
    else if bytes_eq words (codes "memory journal 2") then Some Second
    else None

-- the version and the sizes of a first line, without its line feed
unfoldable pub head_at : List ℕ → Option (Version × Sizes)
head_at bytes = do
  version ← version_of (split bytes).0
  setup ← sizes_at (split bytes).1
  Some (version, setup)

-- whether the byte is no line feed
abbrev pub is_inline : ℕ → Bool
is_inline b = not (nat_eq b 10)

-- a line, and what follows the line feed behind it
unfoldable pub cut_behind : List ℕ → List ℕ → Option (List ℕ × List ℕ)
cut_behind line [] = None
cut_behind line (b ∷ rest) = cond (nat_eq b 10) (Some (line, rest)) None

-- the first line, and what follows its line feed
unfoldable pub cut : List ℕ → Option (List ℕ × List ℕ)
cut bytes = cut_behind (take (prefix_len is_inline bytes) bytes) (drop (prefix_len is_inline bytes) bytes)

-- the entry of the first line in this version, and what follows its line feed
unfoldable pub line_at : Version → List ℕ → Option (Entry × List ℕ)
line_at version bytes = do
  found ← cut bytes
  entry ← entry_at version found.0
  Some (entry, found.1)

-- the version and the sizes of the first line, and what follows its line feed
unfoldable pub head_line_at : List ℕ → Option (Version × Sizes × List ℕ)
head_line_at bytes = do
  found ← cut bytes
  head ← head_at found.0
  Some (head.0, head.1, found.1)
