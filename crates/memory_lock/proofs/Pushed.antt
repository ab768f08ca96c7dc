-- A worker's own entries with one more.
use Rattle.std.proofs.Common.{◌≡◌, ◌∙◌, ◌∷◌, ◌++◌, [], ℕ, ap}
use Rattle.std.proofs.lemmas.Grind.{reverse_onto}
use Rattle.pool_ledger.specs.declared.entry.Entry.{Entry}
use Rattle.pool_ledger.specs.History.{History}
use Rattle.pool_ledger.specs.Journal.{journal_of}
use Rattle.pool_ledger.specs.Workers.{entries_of}
use Rattle.turn_lock.proofs.Entries.{entries_of-push}

pub pushed : (worker : ℕ) (entry : Entry) (history : History) → entry.worker ≡ worker → entries_of worker (journal_of (entry ∷ history)) ≡ entries_of worker (journal_of history) ++ entry ∷ []
pushed worker entry history its = ap (entries_of worker) (reverse_onto history entry []) ∙ entries_of-push worker (journal_of history) entry its
