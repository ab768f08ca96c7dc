-- A key in parts: its first 8 bytes as one number, the next 8 as another, how many bytes it has, and the bytes behind them.
-- This project's own.
use Rattle.std.specs.Prelude.{◌≡◌, ◌-◌, ℕ, List, [], ◌∷◌, ◌++◌, length, take, drop}
use Rattle.std.specs.Hash as fed
use Rattle.byteorder.specs.Endian.{big_bytes}
use Rattle.aggregate.specs.Fronts.{front_of}

-- the bytes of a key, from its parts
abbrev pub bytes_by : ℕ → ℕ → ℕ → List ℕ → List ℕ
bytes_by front next len rest = take len (big_bytes 8 front) ++ take (len - 8) (big_bytes 8 next) ++ rest

-- the parts are those of the key that they make
pub record AreParts (front next len : ℕ) (rest : List ℕ) : Type 0 where
  pub front_is : front ≡ front_of (bytes_by front next len rest)
  pub next_is : next ≡ front_of (drop 8 (bytes_by front next len rest))
  pub len_is : len ≡ length (bytes_by front next len rest)
  pub rest_is : rest ≡ drop 8 (drop 8 (bytes_by front next len rest))

-- what a hasher is fed of the bytes behind the first 16: nothing where there are none
abbrev pub rest_input : List ℕ → List (List ℕ)
rest_input [] = []
rest_input (b ∷ bytes) = (b ∷ bytes) ∷ []

-- what it is fed of the 8 behind the first 8: nothing where there are none
abbrev pub next_input : List ℕ → List (List ℕ)
next_input [] = []
next_input (b ∷ bytes) = fed.u64 (front_of (b ∷ bytes))
