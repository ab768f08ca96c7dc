-- Reading the text of an entry, as functions on lists of bytes: what follows a word, and which word it is.
-- This project's own.
use Rattle.std.specs.Prelude.{ℕ, if◌then◌else◌, List, Option, None, codes}
use Rattle.std.specs.Str.{bytes_eq}
use Rattle.pool_ledger.specs.declared.entry.Entry.{Entry}
use Rattle.pool_ledger.specs.declared.entry.Event.TheVariants.{Begin, Attempt, Release, End, Evict, Admit, Refused, Pin, Unpin, Remove, Grow}
use Rattle.journal_audit.specs.declared.version.Version.{Version}
use Rattle.journal_audit.specs.declared.version.Version.TheVariants.{First, Second}
use Rattle.journal_audit.specs.Fields.{◌>>=◌, split, long_at, short_at, got_at, fate_at, level_at, form_at, ended}

-- what follows the word `begin`
unfoldable pub begin_at : List ℕ → Option Entry
begin_at bytes = do
  worker ← short_at bytes
  task ← short_at worker.1
  ended (record { worker = worker.0; event = Begin task.0 }) task.1

-- what follows the word `attempt`
unfoldable pub attempt_at : List ℕ → Option Entry
attempt_at bytes = do
  worker ← short_at bytes
  task ← short_at worker.1
  asked ← long_at task.1
  moved ← long_at asked.1
  evictions ← long_at moved.1
  got ← got_at evictions.1
  ended (record { worker = worker.0; event = Attempt task.0 asked.0 moved.0 evictions.0 got.0 }) got.1

-- what follows the word `release`
unfoldable pub release_at : List ℕ → Option Entry
release_at bytes = do
  worker ← short_at bytes
  task ← short_at worker.1
  freed ← long_at task.1
  ended (record { worker = worker.0; event = Release task.0 freed.0 }) freed.1

-- what follows the word `end`
unfoldable pub end_at : List ℕ → Option Entry
end_at bytes = do
  worker ← short_at bytes
  task ← short_at worker.1
  freed ← long_at task.1
  ended (record { worker = worker.0; event = End task.0 freed.0 }) freed.1

-- what follows the word `evict`
unfoldable pub evict_at : List ℕ → Option Entry
evict_at bytes = do
  worker ← short_at bytes
  dataset ← short_at worker.1
  part ← short_at dataset.1
  size ← long_at part.1
  fate ← fate_at size.1
  ended (record { worker = worker.0; event = Evict dataset.0 part.0 size.0 fate.0 }) fate.1

-- what follows the word `admit`
unfoldable pub admit_at : List ℕ → Option Entry
admit_at bytes = do
  worker ← short_at bytes
  dataset ← short_at worker.1
  part ← short_at dataset.1
  size ← long_at part.1
  level ← level_at size.1
  borrowed ← long_at level.1
  evictions ← long_at borrowed.1
  ended (record { worker = worker.0; event = Admit dataset.0 part.0 size.0 level.0 borrowed.0 evictions.0 }) evictions.1

-- what follows the word `refused`
unfoldable pub refused_at : List ℕ → Option Entry
refused_at bytes = do
  worker ← short_at bytes
  dataset ← short_at worker.1
  part ← short_at dataset.1
  size ← long_at part.1
  borrowed ← long_at size.1
  evictions ← long_at borrowed.1
  ended (record { worker = worker.0; event = Refused dataset.0 part.0 size.0 borrowed.0 evictions.0 }) evictions.1

-- what follows the word `pin`
unfoldable pub pin_at : List ℕ → Option Entry
pin_at bytes = do
  worker ← short_at bytes
  dataset ← short_at worker.1
  part ← short_at dataset.1
  copy ← form_at part.1
  ended (record { worker = worker.0; event = Pin dataset.0 part.0 copy.0 }) copy.1

-- what follows the word `unpin`
unfoldable pub unpin_at : List ℕ → Option Entry
unpin_at bytes = do
  worker ← short_at bytes
  dataset ← short_at worker.1
  part ← short_at dataset.1
  ended (record { worker = worker.0; event = Unpin dataset.0 part.0 }) part.1

-- what follows the word `remove`
unfoldable pub remove_at : List ℕ → Option Entry
remove_at bytes = do
  worker ← short_at bytes
  dataset ← short_at worker.1
  part ← short_at dataset.1
  size ← long_at part.1
  ended (record { worker = worker.0; event = Remove dataset.0 part.0 size.0 }) size.1

-- the entry of a word of a block's event, and what follows it
unfoldable pub block_word : List ℕ → List ℕ → Option Entry
block_word word rest =
    if bytes_eq word (codes "evict") then evict_at rest
    else if bytes_eq word (codes "admit") then admit_at rest
    else if bytes_eq word (codes "refused") then refused_at rest
    else if bytes_eq word (codes "pin") then pin_at rest
    else if bytes_eq word (codes "unpin") then unpin_at rest
    else if bytes_eq word (codes "remove") then remove_at rest
    else None

-- the entry of a word, and what follows it
unfoldable pub task_word : List ℕ → List ℕ → Option Entry
task_word word rest =
    if bytes_eq word (codes "begin") then begin_at rest
    else if bytes_eq word (codes "attempt") then attempt_at rest
    else if bytes_eq word (codes "release") then release_at rest
    else if bytes_eq word (codes "end") then end_at rest
    else block_word word rest

-- what follows the word `grow`, which only the second version has
unfoldable pub grow_at : Version → List ℕ → Option Entry
grow_at First bytes = None
grow_at Second bytes = do
  worker ← short_at bytes
  grown ← long_at worker.1
  ended (record { worker = worker.0; event = Grow grown.0 }) grown.1

-- the entry of a word in this version, and what follows it
unfoldable pub entry_word : Version → List ℕ → List ℕ → Option Entry
entry_word version word rest = if bytes_eq word (codes "grow") then grow_at version rest else task_word word rest

-- the entry of a line in this version, without its line feed
unfoldable pub entry_at : Version → List ℕ → Option Entry
entry_at version bytes = entry_word version (split bytes).0 (split bytes).1
