-- What a call on runs sees and leaves of a shelf of disks.
-- This project's own.
use Rattle.std.specs.Prelude.{◌≡◌, ◌≤◌, ℕ, List, Option, Some, None, is_some, option_map, ⊤}
use Rattle.std.specs.FinMap as map
use Rattle.std.specs.Option.{option_and_then, option_map_or}
use Rattle.spill_disk.specs.Files.{Files}

-- the files of the disk that a number names, where it tells
abbrev pub files_on : {H D : Type 0} → (H → ℕ → Option D) → (D → Option Files) → H → ℕ → Option Files
files_on disk_of files shelf i = option_and_then files (disk_of shelf i)

-- the count of faults of the disk that a number names
abbrev pub faults_on : {H D : Type 0} → (H → ℕ → Option D) → (D → ℕ) → H → ℕ → ℕ
faults_on disk_of faults shelf i = option_map_or faults (disk_of shelf i) 0

-- all files of all disks are as before, no count of faults fell, and the numbers name what they named
pub record LeavesFiles {H D : Type 0} (count_of : H → ℕ) (named : H → ℕ → ℕ) (disk_of : H → ℕ → Option D) (files : D → Option Files) (faults : D → ℕ) (old new : H) : Type 0 where
  pub count : count_of new ≡ count_of old
  pub names : (j : ℕ) → named new j ≡ named old j
  pub same : (j : ℕ) → files_on disk_of files new j ≡ files_on disk_of files old j
  pub later : (j : ℕ) → faults_on disk_of faults old j ≤ faults_on disk_of faults new j

-- the numbers name what they named, no count of faults fell, and each disk tells where it told
pub record KeepsShelf {H D : Type 0} (count_of : H → ℕ) (named : H → ℕ → ℕ) (disk_of : H → ℕ → Option D) (files : D → Option Files) (faults : D → ℕ) (old new : H) : Type 0 where
  pub count : count_of new ≡ count_of old
  pub names : (j : ℕ) → named new j ≡ named old j
  pub tells : (j : ℕ) → is_some (files_on disk_of files new j) ≡ is_some (files_on disk_of files old j)
  pub later : (j : ℕ) → faults_on disk_of faults old j ≤ faults_on disk_of faults new j

-- what a disk has under a number, where it tells
abbrev pub file_in : Option Files → ℕ → Option (Option (List ℕ))
file_in files file = option_map (λ known. map.get known file) files

-- all files but one of one disk are as before; `named` says which disk a number names
abbrev pub SameBut : (ℕ → ℕ) → (ℕ → Option Files) → (ℕ → Option Files) → ℕ → ℕ → Type 0
SameBut named before after disk file =
    (j g : ℕ) → ((named j ≡ named disk) × (g ≡ file) → ⊥) → file_in (after j) g ≡ file_in (before j) g

-- a file isn't there, where the disk tells
abbrev pub IsNotThere : Option Files → ℕ → Type 0
IsNotThere None file = ⊤
IsNotThere (Some files) file = map.get files file ≡ None

-- a file of a disk isn't there, under whichever number the disk has
abbrev pub IsNotThereOn : (ℕ → ℕ) → (ℕ → Option Files) → ℕ → ℕ → Type 0
IsNotThereOn named files disk file = (j : ℕ) → named j ≡ named disk → IsNotThere (files j) file
