-- What a disk in memory keeps, as its files.
-- This project's own.
use Rattle.std.specs.Prelude.{ℕ, ◌+◌, List, [], ◌∷◌, if◌then◌else◌}
use Rattle.std.specs.FinMap as map
use Rattle.spill_disk.specs.Files.{Files}
use Rattle.spill_disk.specs.declared.memory_disk.Stored.{Stored}

-- the files in these slots, the first of which has the number n
abbrev pub files_from : ℕ → List Stored → Files
files_from n [] = map.empty
files_from n (stored ∷ others) =
    if stored.is_there then map.insert (files_from (n + 1) others) n stored.bytes.items
    else files_from (n + 1) others
