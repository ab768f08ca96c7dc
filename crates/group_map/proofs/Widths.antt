-- Places of values within all values.
use Rattle.std.proofs.Common.{◌≡◌, ℕ, ◌+◌, ◌*◌, ◌<◌, ◌≤◌, arith}
use Rattle.std.proofs.Math.Nat.{mul-le-mul_left}

-- a value's place ends within the values
pub within_width : (w i n : ℕ) → i < n → w * i + w ≤ w * n
within_width w i n b = let more : w * (i + 1) ≡ w * i + w = omega arith in let le : w * (i + 1) ≤ w * n = mul-le-mul_left w (omega arith) in omega arith

-- and so do the values up to a place
pub upto_width : (w i n : ℕ) → i ≤ n → w * i ≤ w * n
upto_width w i n b = mul-le-mul_left w b
