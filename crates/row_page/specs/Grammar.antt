-- The grammar of rows and pages, by cases on the bytes.
-- This project's own.
use Rattle.std.specs.Prelude.{◌≡◌, ℕ, ◌+◌, ◌*◌, ◌^◌, ◌<◌, List, [], ◌∷◌, ◌++◌, length}

-- four bytes are this length, the greatest byte first
pub record IsLength (a b c d n : ℕ) : Type 0 where
  pub first : a < 256
  pub second : b < 256
  pub third : c < 256
  pub fourth : d < 256
  pub value : n ≡ a * 16777216 + b * 65536 + c * 256 + d

-- the bytes are a length, a piece of that many bytes, and what stands behind it
abbrev pub IsPieceThen : List ℕ → List ℕ → List ℕ → Type 0
IsPieceThen [] piece behind = ⊥
IsPieceThen (a ∷ []) piece behind = ⊥
IsPieceThen (a ∷ b ∷ []) piece behind = ⊥
IsPieceThen (a ∷ b ∷ c ∷ []) piece behind = ⊥
IsPieceThen (a ∷ b ∷ c ∷ d ∷ bytes) piece behind =
    IsLength a b c d (length piece) × (bytes ≡ piece ++ behind)

-- the bytes are these pieces, one behind the other, and nothing else
abbrev pub ArePieces : List ℕ → List (List ℕ) → Type 0
ArePieces bytes [] = bytes ≡ []
ArePieces bytes (piece ∷ pieces) = (behind : List ℕ) × IsPieceThen bytes piece behind × ArePieces behind pieces

-- the bytes are pieces
abbrev pub HasPieces : List ℕ → Type 0
HasPieces bytes = (pieces : List (List ℕ)) × ArePieces bytes pieces

-- the bytes are the encoding of a row with these fields, whose own length fits four bytes
pub record IsRow (bytes : List ℕ) (fields : List (List ℕ)) : Type 0 where
  pub pieces : ArePieces bytes fields
  pub short : length bytes < 2 ^ 32

-- the bytes are those of a page with these rows: each row's encoding with its length, in order
abbrev pub IsPage : List ℕ → List (List (List ℕ)) → Type 0
IsPage bytes [] = bytes ≡ []
IsPage bytes (row ∷ rows) =
    (encoding behind : List ℕ) × IsPieceThen bytes encoding behind × IsRow encoding row × IsPage behind rows

-- the bytes are a page's
abbrev pub HasRows : List ℕ → Type 0
HasRows bytes = (rows : List (List (List ℕ))) × IsPage bytes rows
