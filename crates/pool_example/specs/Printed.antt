-- What is printed.
-- This project's own.
use Rattle.std.specs.Prelude.{ℕ, ◌≡◌, List}
use Rattle.pool_ledger.specs.declared.entry.Entry.{Entry}
use Rattle.pool_ledger.specs.Sizes.{Sizes}
use Rattle.pool_ledger.specs.Journal.{history_of}
use Rattle.pool_ledger.specs.Legal.{IsLegal}
use Rattle.journal_audit.specs.Text.{text_of}

-- the text is that of a legal journal of a pool with these sizes
abbrev pub IsLegalText : Sizes → List ℕ → Type 0
IsLegalText sizes text = (journal : List Entry) × (text ≡ text_of sizes journal) × IsLegal sizes (history_of journal)
