-- What contracts see of a disk in a folder: its counts and the files that it has open, but not a file's bytes.
-- This project's own.
use Rattle.std.specs.Prelude.{◌≡◌, ◌≢◌, ℕ, ◌-◌, List, [], ◌++◌, length, nat_le, nat_eq, slice_get, if◌then◌else◌, Option, Some, None, ⊤, ◌⊎◌}
use Rattle.std.specs.Option.{option_map_or}
use Rattle.indexmap.specs.IndexMap.{IndexMap, get}
use Rattle.spill_disk.specs.declared.folder_disk.FolderDisk.{FolderDisk}
use Rattle.spill_disk.specs.declared.opened.Opened.{Opened}
use Rattle.spill_disk.specs.Ahead.{Covers, GivesAhead}

-- how often it failed, as far as a `u64` counts
abbrev pub folder_faults : {R F G : Type 0} → FolderDisk R F G → ℕ
folder_faults disk = disk.faults

-- how many files were made: the number of the next one
abbrev pub folder_next : {R F G : Type 0} → FolderDisk R F G → ℕ
folder_next disk = disk.next

-- what is collected for the end of a file; none where it isn't open
abbrev pub collected_in : {F S : Type 0} → IndexMap ℕ (Opened F) S → ℕ → List ℕ
collected_in kept file = option_map_or (λ opened. opened.collected.items) (get nat_eq kept file) []

-- the file, where it is open
abbrev pub open_of : {R F G : Type 0} → FolderDisk R F G → ℕ → Option (Opened F)
open_of disk file = get nat_eq disk.kept file

-- what is collected for the end of a file; none where it isn't open
abbrev pub collected_of : {R F G : Type 0} → FolderDisk R F G → ℕ → List ℕ
collected_of disk file = collected_in disk.kept file

-- what is collected for a file's end once these bytes were added: long ones are written at once, and what was
-- collected is written first where both together are long
abbrev pub collected_with : List ℕ → List ℕ → List ℕ
collected_with collected bytes =
    if nat_le 65536 (length bytes) then []
    else (if nat_le (65536 - length bytes) (length collected) then bytes else collected ++ bytes)

-- the file is open, with nothing collected and nothing read ahead
abbrev pub IsNew : {F : Type 0} → Option (Opened F) → Type 0
IsNew None = ⊥
IsNew (Some opened) = (opened.collected.items ≡ []) × (opened.ahead.items ≡ [])

-- the file is open as it was, or closed
abbrev pub StaysOpen : {F : Type 0} → Option (Opened F) → Option (Opened F) → Type 0
StaysOpen before after = (after ≡ before) ⊎ (after ≡ None)

-- each file but this one is open as it was, or closed
abbrev pub HoldsOthers : {F S : Type 0} → IndexMap ℕ (Opened F) S → IndexMap ℕ (Opened F) S → ℕ → Type 0
HoldsOthers before after file = (other : ℕ) → other ≢ file → StaysOpen (get nat_eq before other) (get nat_eq after other)

-- the file is open, and what is ahead of it has so many bytes at the place
abbrev pub IsAhead : {F : Type 0} → Option (Opened F) → ℕ → ℕ → Type 0
IsAhead None place count = ⊥
IsAhead (Some opened) place count = Covers opened.ahead_at opened.ahead.items place count

-- the front of the buffer is filled with what stands ahead at the place, of a file that is open
abbrev pub FillsFront : {F : Type 0} → Option (Opened F) → ℕ → List ℕ → List ℕ → ℕ → Type 0
FillsFront None place before after count = ⊥
FillsFront (Some opened) place before after count = GivesAhead opened.ahead_at opened.ahead.items place before after count

-- where what was ahead has so many bytes at the place, it is still what is ahead
abbrev pub GivesAgain : {F : Type 0} → Option (Opened F) → Option (Opened F) → ℕ → ℕ → Type 0
GivesAgain None after place count = ⊤
GivesAgain (Some opened) None place count = ⊥
GivesAgain (Some opened) (Some later) place count = Covers opened.ahead_at opened.ahead.items place count
    → (later.ahead_at ≡ opened.ahead_at) × (later.ahead.items ≡ opened.ahead.items)

-- the file stands at this place among the open ones
pub record IsOpenAt {F S : Type 0} (kept : IndexMap ℕ (Opened F) S) (file at : ℕ) : Type 0 where
  pub opened : Opened F
  pub entry : slice_get kept.entries at ≡ Some (file, opened)
  pub found : get nat_eq kept file ≡ Some opened
