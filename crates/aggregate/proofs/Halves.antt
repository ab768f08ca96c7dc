-- The 16 bytes of a number of 128 bits, by its two halves of 64 bits.
use Rattle.std.proofs.Common.{◌≡◌, ◌+◌, ◌*◌, ◌/◌, ◌%◌, ◌^◌, ◌++◌, ◌∙◌, [], ℕ, zero, suc, List, length, take, drop, refl, sym, ap, arith}
use Rattle.std.proofs.lemmas.List.{append-nil, take_at, drop_at, drop_all, drop-drop, get_or-drop, length-take}
use Rattle.std.specs.Int.{bytes_high_first}
use Rattle.byteorder.specs.Endian.{big_from, big_number}
use Rattle.byteorder.specs.Numbers.{big_from-take, length-bytes_high_first}
use borrow.Rule.Slice.PartMut.{put_mid}

-- each byte of the upper half
high0 : (x : ℕ) → x / 18446744073709551616 % 256 ≡ x / 256 ^ 8 % 256
high0 x = omega arith

high1 : (x : ℕ) → x / 18446744073709551616 / 256 ^ 1 % 256 ≡ x / 256 ^ 9 % 256
high1 x = omega arith

high2 : (x : ℕ) → x / 18446744073709551616 / 256 ^ 2 % 256 ≡ x / 256 ^ 10 % 256
high2 x = omega arith

high3 : (x : ℕ) → x / 18446744073709551616 / 256 ^ 3 % 256 ≡ x / 256 ^ 11 % 256
high3 x = omega arith

high4 : (x : ℕ) → x / 18446744073709551616 / 256 ^ 4 % 256 ≡ x / 256 ^ 12 % 256
high4 x = omega arith

high5 : (x : ℕ) → x / 18446744073709551616 / 256 ^ 5 % 256 ≡ x / 256 ^ 13 % 256
high5 x = omega arith

high6 : (x : ℕ) → x / 18446744073709551616 / 256 ^ 6 % 256 ≡ x / 256 ^ 14 % 256
high6 x = omega arith

high7 : (x : ℕ) → x / 18446744073709551616 / 256 ^ 7 % 256 ≡ x / 256 ^ 15 % 256
high7 x = omega arith

-- and of the lower
low0 : (x : ℕ) → x % 18446744073709551616 % 256 ≡ x % 256
low0 x = omega arith

low1 : (x : ℕ) → x % 18446744073709551616 / 256 ^ 1 % 256 ≡ x / 256 ^ 1 % 256
low1 x = omega arith

low2 : (x : ℕ) → x % 18446744073709551616 / 256 ^ 2 % 256 ≡ x / 256 ^ 2 % 256
low2 x = omega arith

low3 : (x : ℕ) → x % 18446744073709551616 / 256 ^ 3 % 256 ≡ x / 256 ^ 3 % 256
low3 x = omega arith

low4 : (x : ℕ) → x % 18446744073709551616 / 256 ^ 4 % 256 ≡ x / 256 ^ 4 % 256
low4 x = omega arith

low5 : (x : ℕ) → x % 18446744073709551616 / 256 ^ 5 % 256 ≡ x / 256 ^ 5 % 256
low5 x = omega arith

low6 : (x : ℕ) → x % 18446744073709551616 / 256 ^ 6 % 256 ≡ x / 256 ^ 6 % 256
low6 x = omega arith

low7 : (x : ℕ) → x % 18446744073709551616 / 256 ^ 7 % 256 ≡ x / 256 ^ 7 % 256
low7 x = omega arith

-- the bytes of a number are those of its upper half, and then those of the lower
pub halves : (x : ℕ) → bytes_high_first 16 x ≡ bytes_high_first 8 (x / 18446744073709551616) ++ bytes_high_first 8 (x % 18446744073709551616)
halves x = rw (high7 x, high6 x, high5 x, high4 x, high3 x, high2 x, high1 x, high0 x, low7 x, low6 x, low5 x, low4 x, low3 x, low2 x, low1 x, low0 x) refl

-- where one half is written and then the other, the bytes of the number stand
pub halves_written : (old upper lower : List ℕ) (x : ℕ) → length old ≡ 16
    → upper ≡ bytes_high_first 8 (x / 18446744073709551616) → lower ≡ bytes_high_first 8 (x % 18446744073709551616)
    → put_mid 8 8 (upper ++ drop 8 old) lower ≡ bytes_high_first 16 x
halves_written old upper lower x long is_upper is_lower =
    let many : length upper ≡ 8 = ap length is_upper ∙ length-bytes_high_first 8 (x / 18446744073709551616) in
    let none : drop 8 (drop 8 old) ≡ [] = drop-drop 8 8 old ∙ drop_all 16 old (omega (arith, long)) in
    rw (take_at upper (drop 8 old) 8 many, drop_at upper (drop 8 old) 8 many, none, append-nil lower, is_upper, is_lower) (sym (halves x))

-- the number of bytes from a place is that of the bytes behind it
from_place : (i n : ℕ) (xs : List ℕ) → big_from i n (drop 8 xs) ≡ big_from (8 + i) n xs
from_place i zero xs = refl
from_place i (suc n) xs =
    let next : 8 + suc i ≡ suc (8 + i) = omega arith in
    rw (get_or-drop 8 xs i 0, from_place (suc i) n xs, next) refl

-- the number of 16 bytes is that of the upper half, and then of the lower
pub big_number-halves : (xs : List ℕ) → big_number 16 xs ≡ big_number 8 (take 8 xs) * 18446744073709551616 + big_number 8 (drop 8 xs)
big_number-halves xs =
    rw (big_from-take 0 8 8 xs (omega arith), from_place 0 8 xs) (omega arith)

-- what is written of a number into just 8 bytes
pub half_written : (old new : List ℕ) (n m : ℕ) → n ≡ m → new ≡ bytes_high_first 8 n ++ drop 8 (take 8 old) → new ≡ bytes_high_first 8 m
half_written old new n m same h =
    let none : drop 8 (take 8 old) ≡ [] = drop_all 8 (take 8 old) (omega (arith, length-take 8 old)) in
    h ∙ rw (none, append-nil (bytes_high_first 8 n)) (ap (bytes_high_first 8) same)
