-- A journal, which users see, and its histories, which definitions walk.
-- This project's own.
use Rattle.std.specs.Prelude.{ℕ, List, reverse, take}
use Rattle.pool_ledger.specs.declared.entry.Entry.{Entry}
use Rattle.pool_ledger.specs.History.{History}

-- the history of a whole journal: the same entries, the newest first
abbrev pub history_of : List Entry → History
history_of journal = reverse journal

-- the history after the first n entries of a journal
abbrev pub after : ℕ → List Entry → History
after n journal = reverse (take n journal)

-- the journal of a history: the same entries, the oldest first
abbrev pub journal_of : History → List Entry
journal_of history = reverse history
