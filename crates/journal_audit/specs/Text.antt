-- The one text of a journal in each version: a line with the setup's sizes, then a line for each entry.
-- This project's own.
use Rattle.std.specs.Prelude.{ℕ, ◌≡◌, ◌<◌, ◌^◌, ◌++◌, Bool, true, false, List, [], ◌∷◌, Option, Some, None, codes, decimal, flat_map, IfSome}
use Rattle.pool_ledger.specs.declared.entry.Entry.{Entry}
use Rattle.pool_ledger.specs.declared.entry.Event.{Event}
use Rattle.pool_ledger.specs.declared.entry.Event.TheVariants.{Begin, Attempt, Release, End, Evict, Admit, Refused, Pin, Unpin, Remove, Grow}
use Rattle.pool_ledger.specs.declared.entry.Fate.{Fate}
use Rattle.pool_ledger.specs.declared.entry.Fate.TheVariants.{Disk, Gone, NoMemory}
use Rattle.pool_ledger.specs.declared.entry.Level.{Level}
use Rattle.pool_ledger.specs.declared.entry.Level.TheVariants.{Memory, Disk as OnDisk}
use Rattle.pool_ledger.specs.Sizes.{Sizes}
use Rattle.journal_audit.specs.declared.version.Version.{Version}
use Rattle.journal_audit.specs.declared.version.Version.TheVariants.{First, Second}

-- a field with the comma ahead of it
abbrev pub field : List ℕ → List ℕ
field text = 44 ∷ text

-- a number as a field
abbrev pub number_field : ℕ → List ℕ
number_field n = field (decimal n)

-- fields, one behind another
abbrev pub fields_joined : List (List ℕ) → List ℕ
fields_joined [] = []
fields_joined (text ∷ texts) = field text ++ fields_joined texts

-- what became of an evicted block
abbrev pub fate_word : Fate → List ℕ
fate_word Disk = codes "disk"
fate_word Gone = codes "gone"
fate_word NoMemory = codes "nomem"

-- where a block goes when it is evicted
abbrev pub level_word : Level → List ℕ
level_word Memory = codes "memory"
level_word OnDisk = codes "disk"

-- whether a pin read a copy, or kept a block in memory
abbrev pub form_word : Bool → List ℕ
form_word true = codes "copy"
form_word false = codes "resident"

-- what an attempt was granted; none is a wait
abbrev pub got_text : Option ℕ → List ℕ
got_text None = codes "wait"
got_text (Some n) = decimal n

-- the text of a block that was stored or found no room, for this worker; nothing for another event
abbrev pub stored_text : ℕ → Event → List ℕ
stored_text worker (Admit dataset part size level borrowed evictions) =
    codes "admit" ++ fields_joined (decimal worker ∷ decimal dataset ∷ decimal part ∷ decimal size ∷ level_word level
    ∷ decimal borrowed ∷ decimal evictions ∷ [])
stored_text worker (Refused dataset part size borrowed evictions) =
    codes "refused" ++ fields_joined (decimal worker ∷ decimal dataset ∷ decimal part ∷ decimal size
    ∷ decimal borrowed ∷ decimal evictions ∷ [])
stored_text worker _ = []

-- the text of an event of a block, for this worker; nothing for an event of a task
abbrev pub block_text : ℕ → Event → List ℕ
block_text worker (Evict dataset part size fate) =
    codes "evict" ++ fields_joined (decimal worker ∷ decimal dataset ∷ decimal part ∷ decimal size ∷ fate_word fate ∷ [])
block_text worker (Pin dataset part copy) =
    codes "pin" ++ fields_joined (decimal worker ∷ decimal dataset ∷ decimal part ∷ form_word copy ∷ [])
block_text worker (Unpin dataset part) =
    codes "unpin" ++ fields_joined (decimal worker ∷ decimal dataset ∷ decimal part ∷ [])
block_text worker (Remove dataset part size) =
    codes "remove" ++ fields_joined (decimal worker ∷ decimal dataset ∷ decimal part ∷ decimal size ∷ [])
block_text worker event = stored_text worker event

-- the text of an event, for this worker: a word and its fields
abbrev pub event_text : ℕ → Event → List ℕ
event_text worker (Begin task) = codes "begin" ++ fields_joined (decimal worker ∷ decimal task ∷ [])
event_text worker (Attempt task asked moved evictions got) =
    codes "attempt" ++ fields_joined (decimal worker ∷ decimal task ∷ decimal asked ∷ decimal moved ∷ decimal evictions
    ∷ got_text got ∷ [])
event_text worker (Release task freed) = codes "release" ++ fields_joined (decimal worker ∷ decimal task ∷ decimal freed ∷ [])
event_text worker (End task freed) = codes "end" ++ fields_joined (decimal worker ∷ decimal task ∷ decimal freed ∷ [])
event_text worker (Grow bytes) = codes "grow" ++ fields_joined (decimal worker ∷ decimal bytes ∷ [])
event_text worker event = block_text worker event

-- the text of an entry, without its line feed
abbrev pub entry_text : Entry → List ℕ
entry_text entry = event_text entry.worker entry.event

-- the lines of entries, the oldest first
abbrev pub lines_text : List Entry → List ℕ
lines_text entries = flat_map (λ entry. entry_text entry ++ 10 ∷ []) entries

-- the words that a text of this version begins with
abbrev pub version_words : Version → List ℕ
version_words First = codes "memory journal 1"
version_words Second = codes "memory journal 2"

-- the text of the sizes that a pool started with, in this version, without its line feed
abbrev pub head_text : Version → Sizes → List ℕ
head_text version setup =
    version_words version ++ fields_joined (decimal setup.maximum ∷ decimal setup.region ∷ decimal setup.workers ∷ [])

-- the text of a journal in this version
abbrev pub text_by : Version → Sizes → List Entry → List ℕ
text_by version setup entries = head_text version setup ++ (10 ∷ lines_text entries)

-- the text of a journal, which is written in the second version
abbrev pub text_of : Sizes → List Entry → List ℕ
text_of setup entries = text_by Second setup entries

-- whether the pool grows
abbrev pub is_growth : Event → Bool
is_growth (Grow bytes) = true
is_growth _ = false

-- the numbers of an event are below their widths: names in 32 bits, amounts in 64
abbrev pub EventFits : Event → Type 0
EventFits (Begin task) = task < 2 ^ 32
EventFits (Attempt task asked moved evictions got) =
    (task < 2 ^ 32) × (asked < 2 ^ 64) × (moved < 2 ^ 64) × (evictions < 2 ^ 64) × IfSome got (λ n. n < 2 ^ 64)
EventFits (Release task freed) = (task < 2 ^ 32) × (freed < 2 ^ 64)
EventFits (End task freed) = (task < 2 ^ 32) × (freed < 2 ^ 64)
EventFits (Evict dataset part size fate) = (dataset < 2 ^ 32) × (part < 2 ^ 32) × (size < 2 ^ 64)
EventFits (Admit dataset part size level borrowed evictions) =
    (dataset < 2 ^ 32) × (part < 2 ^ 32) × (size < 2 ^ 64) × (borrowed < 2 ^ 64) × (evictions < 2 ^ 64)
EventFits (Refused dataset part size borrowed evictions) =
    (dataset < 2 ^ 32) × (part < 2 ^ 32) × (size < 2 ^ 64) × (borrowed < 2 ^ 64) × (evictions < 2 ^ 64)
EventFits (Pin dataset part copy) = (dataset < 2 ^ 32) × (part < 2 ^ 32)
EventFits (Unpin dataset part) = (dataset < 2 ^ 32) × (part < 2 ^ 32)
EventFits (Remove dataset part size) = (dataset < 2 ^ 32) × (part < 2 ^ 32) × (size < 2 ^ 64)
EventFits (Grow bytes) = bytes < 2 ^ 64

-- the numbers of an entry are below their widths
pub record Fits (entry : Entry) : Type 0 where
  pub worker : entry.worker < 2 ^ 32
  pub event : EventFits entry.event

-- an entry that has a line in a text of this version: its numbers are below their widths, and a growth stands only in the second
pub record FitsIn (version : Version) (entry : Entry) : Type 0 where
  pub fits : Fits entry
  pub known : version ≡ First → is_growth entry.event ≡ false
