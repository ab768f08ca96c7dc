-- What an audit answers to a text.
-- This project's own.
use Rattle.std.specs.Prelude.{ℕ, ◌≡◌, ◌≢◌, ◌+◌, ◌++◌, ◌⊎◌, List, [], ◌∷◌, All, Some, length}
use Rattle.pool_ledger.specs.declared.entry.Entry.{Entry}
use Rattle.pool_ledger.specs.Sizes.{Sizes}
use Rattle.pool_ledger.specs.Journal.{history_of}
use Rattle.pool_ledger.specs.Legal.{pending, IsLegal, IsPermitted}
use Rattle.journal_audit.specs.declared.rules.Rule.{Rule}
use Rattle.journal_audit.specs.declared.rules.Rule.TheVariants.{Pending}
use Rattle.journal_audit.specs.declared.version.Version.{Version}
use Rattle.journal_audit.specs.Text.{head_text, text_by, FitsIn}
use Rattle.journal_audit.specs.Lines.{BeginsHead, IsBadLine, IsSetup}
use Rattle.journal_audit.specs.Rules.{first_broken}
use Rattle.journal_replay.specs.declared.verdict.Verdict.{Verdict}
use Rattle.journal_replay.specs.declared.verdict.Verdict.TheVariants.{Yes, No, BadLine}

-- the text is that of this setup and these entries, in one of the versions
pub record IsTextOf (text : List ℕ) (setup : Sizes) (entries : List Entry) : Type 0 where
  pub version : Version
  pub setup_is : IsSetup setup
  pub fits : All (FitsIn version) entries
  pub text_is : text ≡ text_by version setup entries

-- the entry of this number, from 1, is the first that isn't permitted after those before it, and this is the first
-- rule that it breaks
pub record BreaksAt (setup : Sizes) (entries : List Entry) (event : ℕ) (rule : Rule) : Type 0 where
  pub front : List Entry
  pub entry : Entry
  pub behind : List Entry
  pub split : entries ≡ front ++ entry ∷ behind
  pub permitted : IsPermitted setup (history_of front)
  pub breaks : first_broken setup (history_of front) entry ≡ Some rule
  pub number : event ≡ length front + 1

-- all entries are permitted, and at the end evictions wait for what they are for
pub record EndsAmid (setup : Sizes) (entries : List Entry) (event : ℕ) (rule : Rule) : Type 0 where
  pub permitted : IsPermitted setup (history_of entries)
  pub waits : pending (history_of entries) ≢ []
  pub number : event ≡ length entries + 1
  pub rule_is : rule ≡ Pending

-- the answer to these entries
abbrev pub IsAnswer : Sizes → List Entry → Verdict → Type 0
IsAnswer setup entries (Yes events) = IsLegal setup (history_of entries) × (events ≡ length entries)
IsAnswer setup entries (No event rule) = BreaksAt setup entries event rule ⊎ EndsAmid setup entries event rule
IsAnswer setup entries (BadLine line) = ⊥

-- the text is that of a journal, and this is the answer to its entries
pub record IsOfJournal (text : List ℕ) (verdict : Verdict) : Type 0 where
  pub setup : Sizes
  pub entries : List Entry
  pub of : IsTextOf text setup entries
  pub answer : IsAnswer setup entries verdict

-- the first line is a setup's in one of the versions, and this one, from 1, is the first after it that isn't an
-- entry's in that version
pub record HasBadLine (text : List ℕ) (line : ℕ) : Type 0 where
  pub version : Version
  pub setup : Sizes
  pub lines : List ℕ
  pub setup_is : IsSetup setup
  pub split : text ≡ head_text version setup ++ (10 ∷ lines)
  pub bad : IsBadLine version lines line

-- this line is the first one that isn't of a journal's form: the first one where it is a setup's in no version
abbrev pub IsBad : List ℕ → ℕ → Type 0
IsBad text line = (((version : Version) → BeginsHead version text → ⊥) × (line ≡ 1)) ⊎ HasBadLine text line

-- the answer to a text: the whole of it is read first, so a bad line is told before a broken rule
abbrev pub IsVerdict : List ℕ → Verdict → Type 0
IsVerdict text (Yes events) = IsOfJournal text (Yes events)
IsVerdict text (No event rule) = IsOfJournal text (No event rule)
IsVerdict text (BadLine line) = IsBad text line
