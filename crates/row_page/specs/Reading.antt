-- What bytes show as: the fields of a row, the rows of a page.
-- This project's own. No contract rests on these alone: a row's and a page's bytes are in the grammar.
use Rattle.std.specs.Prelude.{ℕ, zero, suc, List, [], ◌∷◌, length, take, drop, map, Option, Some, None, nat_lt, if◌then◌else◌}
use Rattle.std.specs.Option.{option_map_or}
use Rattle.std.specs.Int.{w32, from_be_bytes}

-- the length that the first four bytes are
unfoldable pub length_at : List ℕ → ℕ
length_at bytes = from_be_bytes w32 (take 4 bytes)

-- the piece at the front and what stands behind it, where both are there
unfoldable pub piece_at : List ℕ → Option (List ℕ × List ℕ)
piece_at bytes =
    if nat_lt (length bytes) 4 then None
    else (if nat_lt (length (drop 4 bytes)) (length_at bytes) then None
    else Some (take (length_at bytes) (drop 4 bytes), drop (length_at bytes) (drop 4 bytes)))

-- at most n pieces from the front
unfoldable pub pieces_within : ℕ → List ℕ → List (List ℕ)
pieces_within zero bytes = []
pieces_within (suc n) [] = []
pieces_within (suc n) (b ∷ bs) =
    option_map_or (λ found. found.0 ∷ pieces_within n found.1) (piece_at (b ∷ bs)) []

-- the fields of a row with this encoding
unfoldable pub fields_of : List ℕ → List (List ℕ)
fields_of bytes = pieces_within (length bytes) bytes

-- the rows of a page with these bytes
unfoldable pub rows_of : List ℕ → List (List (List ℕ))
rows_of bytes = map fields_of (fields_of bytes)
