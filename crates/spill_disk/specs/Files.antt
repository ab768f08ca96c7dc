-- The files of a disk as a finite map from number to bytes, and what each call does to it.
-- This project's own. A disk whose bytes nobody knows has no such map, and then nothing is said.
use Rattle.std.specs.Prelude.{◌≡◌, ℕ, List, [], ◌++◌, length, take, drop, Option, Some, None, IsSome, unwrap_or, ⊤}
use Rattle.std.specs.Ordering.{nat_cmp}
use Rattle.std.specs.FinMap as map

-- the files that are there, by number
abbrev pub Files : Type 0
Files = map.FinMap nat_cmp (List ℕ)

-- a file's bytes; none where it isn't there
abbrev pub bytes_of : Files → ℕ → List ℕ
bytes_of files file = unwrap_or (map.get files file) []

-- where the disk tells, the file is there
abbrev pub IsThere : Option Files → ℕ → Type 0
IsThere None file = ⊤
IsThere (Some files) file = IsSome (map.get files file)

-- an empty file that wasn't there was made
abbrev pub Creates : Option Files → Option Files → ℕ → Type 0
Creates (Some before) (Some after) file =
    (map.get before file ≡ None) × (after ≡ map.insert before file [])
Creates None after file = ⊤
Creates (Some before) None file = ⊥

-- these bytes stand at the file's end
abbrev pub Appends : Option Files → Option Files → ℕ → List ℕ → Type 0
Appends (Some before) (Some after) file bytes =
    after ≡ map.insert before file (bytes_of before file ++ bytes)
Appends None after file bytes = ⊤
Appends (Some before) None file bytes = ⊥

-- a part of these bytes, from the front, stands at the file's end: all, some or none
abbrev pub AppendsPart : Option Files → Option Files → ℕ → List ℕ → Type 0
AppendsPart before after file bytes =
    (part rest : List ℕ) × (bytes ≡ part ++ rest) × Appends before after file part

-- the bytes that a read of so many bytes at a place gives
abbrev pub read_of : List ℕ → ℕ → ℕ → List ℕ
read_of bytes place n = take n (drop place bytes)

-- the front of the buffer is filled with what stands at the place, as far as there is something
abbrev pub Reads : Option Files → ℕ → ℕ → List ℕ → List ℕ → ℕ → Type 0
Reads None file place before after count = ⊤
Reads (Some files) file place before after count =
    let given = read_of (bytes_of files file) place (length before) in
    (count ≡ length given) × (after ≡ given ++ drop count before)

-- the file isn't there any more
abbrev pub Removes : Option Files → Option Files → ℕ → Type 0
Removes (Some before) (Some after) file = after ≡ map.remove before file
Removes None after file = ⊤
Removes (Some before) None file = ⊥
