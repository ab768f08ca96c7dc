-- The lines of a text, and which line is no line of a journal.
-- This project's own.
use Rattle.std.specs.Prelude.{ℕ, ◌≡◌, ◌+◌, ◌++◌, ◌<◌, List, ◌∷◌, All, length}
use Rattle.pool_ledger.specs.declared.entry.Entry.{Entry}
use Rattle.pool_ledger.specs.Sizes.{Sizes, IsInRange}
use Rattle.journal_audit.specs.declared.version.Version.{Version}
use Rattle.journal_audit.specs.Text.{entry_text, head_text, lines_text, FitsIn}

-- the sizes are ones that a setup can have
abbrev pub IsSetup : Sizes → Type 0
IsSetup setup = IsInRange setup.maximum setup.region setup.workers

-- the bytes begin with the line that an entry has in this version
abbrev pub BeginsLine : Version → List ℕ → Type 0
BeginsLine version bytes =
    (entry : Entry) × (rest : List ℕ) × FitsIn version entry × (bytes ≡ entry_text entry ++ (10 ∷ rest))

-- the bytes begin with the line that a setup has in this version
abbrev pub BeginsHead : Version → List ℕ → Type 0
BeginsHead version bytes =
    (setup : Sizes) × (rest : List ℕ) × IsSetup setup × (bytes ≡ head_text version setup ++ (10 ∷ rest))

-- the line, from 1, is the first one that isn't an entry's in this version, in bytes that begin with the second line
pub record IsBadLine (version : Version) (bytes : List ℕ) (line : ℕ) : Type 0 where
  pub front : List Entry
  pub rest : List ℕ
  pub fits : All (FitsIn version) front
  pub split : bytes ≡ lines_text front ++ rest
  pub left : 0 < length rest
  pub number : line ≡ length front + 2
  pub bad : BeginsLine version rest → ⊥
