-- How a field or a number is spelled in a key, and what follows for the order of keys.
-- This project's own.
use Rattle.std.specs.Prelude.{◌≡◌, ◌≢◌, ℕ, zero, suc, ◌+◌, ◌-◌, ◌^◌, ◌==◌, List, [], ◌∷◌, ◌++◌, Bool, true, false, Option, Some, None, length, map, if◌then◌else◌, ℤ, pos, ◌+ℤ◌, unsigned_abs}
use Rattle.std.specs.List.{flat_map}
use Rattle.std.specs.Ordering.{int_cmp, nat_cmp, ordering_then}
use Rattle.std.specs.Cmp.Lexicographic.{slice_cmp}
use Rattle.std.specs.Int.{w64}
use Rattle.std.specs.Int.RustNames.{FitsSigned}
use Rattle.byteorder.specs.Endian.{big_bytes}

-- a zero byte as 0 1, any other as it is
abbrev pub spelled_byte : ℕ → List ℕ
spelled_byte b = if b == 0 then 0 ∷ 1 ∷ [] else b ∷ []

-- the bytes of a field, and 0 0 at the end
abbrev pub spelled : List ℕ → List ℕ
spelled field = flat_map spelled_byte field ++ (0 ∷ 0 ∷ [])

-- each byte turned round, so that the order is turned round
abbrev pub turned_if : Bool → List ℕ → List ℕ
turned_if down bytes = if down then map (λ b. 255 - b) bytes else bytes

-- a field as a key has it, turned round where `down`
abbrev pub spelling : List ℕ → Bool → List ℕ
spelling field down = turned_if down (spelled field)

-- a number of 64 bits as a key has it: 2^63 more, as 8 bytes, the greatest first, turned round where `down`
unfoldable pub number_spelling : ℤ → Bool → List ℕ
number_spelling n down = turned_if down (big_bytes 8 (unsigned_abs (n +ℤ pos (2 ^ 63))))

-- a field that begins with these bytes, spelled with so many bytes more
abbrev pub behind : List ℕ → ℕ → Option (List ℕ × ℕ) → Option (List ℕ × ℕ)
behind field n None = None
behind field n (Some p) = Some (field ++ p.0, n + p.1)

-- the field whose spelling begins a key, and how many bytes the spelling has
unfoldable pub unspelled : List ℕ → Option (List ℕ × ℕ)
unspelled [] = None
unspelled (zero ∷ []) = None
unspelled (zero ∷ zero ∷ bytes) = Some ([], 2)
unspelled (zero ∷ suc zero ∷ bytes) = behind (0 ∷ []) 2 (unspelled bytes)
unspelled (zero ∷ suc (suc b) ∷ bytes) = None
unspelled (suc b ∷ bytes) = behind (suc b ∷ []) 1 (unspelled bytes)

-- the bytes after `old` are a field whose spelling, of n bytes, begins the key
pub record TakesField (key old new : List ℕ) (n : ℕ) : Type 0 where
  pub field : List ℕ
  pub rest : List ℕ
  pub key_is : key ≡ spelled field ++ rest
  pub length_is : n ≡ length (spelled field)
  pub read_is : unspelled key ≡ Some (field, n)
  pub appended : new ≡ old ++ field

-- no field's spelling begins the key
abbrev pub BeginsWithNone : List ℕ → Type 0
BeginsWithNone key = (field rest : List ℕ) → key ≢ spelled field ++ rest

-- keys compare as their fields, and then as what stands behind
abbrev pub KeysInOrder : Type 0
KeysInOrder =
    (a b x y : List ℕ) → slice_cmp nat_cmp (spelled a ++ x) (spelled b ++ y) ≡ ordering_then (slice_cmp nat_cmp a b) (slice_cmp nat_cmp x y)

-- a field is read back from its spelling, whatever follows
abbrev pub SpellingsAreReadBack : Type 0
SpellingsAreReadBack = (field rest : List ℕ) → unspelled (spelled field ++ rest) ≡ Some (field, length (spelled field))

-- keys are equal only where their fields are, and what stands behind
abbrev pub SpellingsAreApart : Type 0
SpellingsAreApart = (a b x y : List ℕ) → spelled a ++ x ≡ spelled b ++ y → (a ≡ b) × (x ≡ y)

-- keys compare as their numbers, or the other way round where these are turned round, and then as what stands behind
pub record NumbersInOrder : Type 0 where
  pub upward : (a b : ℤ) (x y : List ℕ) → FitsSigned w64 a → FitsSigned w64 b
      → slice_cmp nat_cmp (number_spelling a false ++ x) (number_spelling b false ++ y) ≡ ordering_then (int_cmp a b) (slice_cmp nat_cmp x y)
  pub downward : (a b : ℤ) (x y : List ℕ) → FitsSigned w64 a → FitsSigned w64 b
      → slice_cmp nat_cmp (number_spelling a true ++ x) (number_spelling b true ++ y) ≡ ordering_then (int_cmp b a) (slice_cmp nat_cmp x y)
