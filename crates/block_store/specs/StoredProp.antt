-- That copies are stored has one proof at most, which a ghost field asks for.
-- This project's own.
use Rattle.std.specs.Prelude.{ℕ, List, [], ◌∷◌, length, Option, Some, None}
use Rattle.std.specs.FinMap as map
use Rattle.std.specs.Coded.{×_prop, Unit-prop, le_prop, Coded-set, coded_ℕ, coded_bool}
use mathlib.Core.HLevel.{⊥_prop}
use mathlib.Core.Logic.{∥∥₁_prop}
use Rattle.spill_disk.specs.Files.{Files}
use Rattle.block_store.specs.declared.block_copy.BlockCopy.{BlockCopy}
use Rattle.block_store.specs.Copies.{HasPage, IsStored, AreStored}

-- there is at most one proof that a file has a page with this number of bytes
HasPage-prop : (file : Option (List ℕ)) (count : ℕ) → IsProp (HasPage file count)
HasPage-prop None count = ⊥_prop
HasPage-prop (Some bytes) count = ×_prop (Coded-set coded_ℕ (length bytes) count) ∥∥₁_prop

-- there is at most one proof that a copy is stored
IsStored-prop : (files : Option Files) (copy : BlockCopy) → IsProp (IsStored files copy)
IsStored-prop None copy = Unit-prop
IsStored-prop (Some files) copy = HasPage-prop (map.get files copy.file) copy.bytes

-- there is at most one proof that all copies are stored, with numbers below the next file's
pub AreStored-prop : (files : Option Files) (next : ℕ) (copies : List BlockCopy) → IsProp (AreStored files next copies)
AreStored-prop files next [] = Unit-prop
AreStored-prop files next (copy ∷ others) =
    ×_prop le_prop (×_prop (×_prop le_prop (IsStored-prop files copy))
    (×_prop (Coded-set coded_bool _ _)
    (×_prop (Coded-set coded_bool _ _) (AreStored-prop files next others))))
