-- A key is the one that its parts make.
use Rattle.std.proofs.Common.{◌≡◌, ℕ, zero, suc, ◌+◌, ◌*◌, ◌/◌, ◌%◌, ◌^◌, ◌<◌, List, [], ◌∷◌, ◌++◌, length, take, drop, slice_index, refl, sym, ap, ◌∙◌, arith, append_assoc, length-drop}
use Rattle.std.specs.Int.{byte_at, bytes_high_first}
use Rattle.std.proofs.Math.Nat.{div-one, mod-eq_of_lt, mul-add-div_right, mul-add-mod_self_right, mul_assoc, one-le-pow, pow-succ'}
use Rattle.std.proofs.lemmas.Nat.{div-mul-add}
use Rattle.byteorder.specs.Endian.{big_bytes, big_from}
use Rattle.byteorder.specs.Numbers.{big_from-cons, big_from-lt}
use Rattle.aggregate.specs.Fronts.{front_of}
use Rattle.group_map.specs.Keys.{AreParts, bytes_by}

-- what a key of bytes is
abbrev pub AreBytes : List ℕ → Type 0
AreBytes key = (k : ℕ) → slice_index key k < 256

-- ---- the bytes of a number whose bytes were read

byte_is : (k x : ℕ) → byte_at k x ≡ x / 256 ^ k % 256
byte_is zero x = ap (λ (y : ℕ). y % 256) (sym (div-one x))
byte_is (suc k) x = refl

some_pow : (n : ℕ) → 0 < 256 ^ n
some_pow n = let least = one-le-pow n 256 (omega arith) in omega arith

power : (k c : ℕ) → c * 256 ^ suc k ≡ c * 256 * 256 ^ k
power k c = ap (λ (p : ℕ). c * p) (pow-succ' 256 k) ∙ sym (mul_assoc c 256 (256 ^ k))

-- what stands above the lowest bytes doesn't change them
low_byte : (k c r : ℕ) → byte_at k (c * 256 ^ suc k + r) ≡ byte_at k r
low_byte k c r =
    byte_is k (c * 256 ^ suc k + r)
    ∙ ap (λ (y : ℕ). (y + r) / 256 ^ k % 256) (power k c)
    ∙ ap (λ (y : ℕ). y % 256) (mul-add-div_right (some_pow k) (c * 256) r)
    ∙ mul-add-mod_self_right c 256 (r / 256 ^ k)
    ∙ sym (byte_is k r)

low_bytes : (n c r : ℕ) → bytes_high_first n (c * 256 ^ n + r) ≡ bytes_high_first n r
low_bytes zero c r = refl
low_bytes (suc n) c r =
    ap (λ (b : ℕ). b ∷ bytes_high_first n (c * 256 ^ suc n + r)) (low_byte n c r)
    ∙ ap (λ (y : ℕ). byte_at n r ∷ bytes_high_first n (y + r)) (power n c)
    ∙ ap (λ (bs : List ℕ). byte_at n r ∷ bs) (low_bytes n (c * 256) r)

from_cons : (n x : ℕ) (xs : List ℕ) → big_from 0 (suc n) (x ∷ xs) ≡ x * 256 ^ n + big_from 0 n xs
from_cons n x xs = ap (λ (r : ℕ). x * 256 ^ n + r) (big_from-cons 0 n x xs)

tail_bytes : (x : ℕ) (xs : List ℕ) → AreBytes (x ∷ xs) → AreBytes xs
tail_bytes x xs bytes k = bytes (suc k)

first_byte : (n x r : ℕ) → x < 256 → r < 256 ^ n → byte_at n (x * 256 ^ n + r) ≡ x
first_byte n x r byte small = byte_is n (x * 256 ^ n + r) ∙ ap (λ (y : ℕ). y % 256) (div-mul-add x (256 ^ n) r small) ∙ mod-eq_of_lt byte

none_taken : (n : ℕ) (xs : List ℕ) → take n [] ++ xs ≡ xs
none_taken zero xs = refl
none_taken (suc n) xs = refl

parts_from : (n : ℕ) (key : List ℕ) → AreBytes key → take (length key) (bytes_high_first n (big_from 0 n key)) ++ drop n key ≡ key
parts_from zero key bytes = none_taken (length key) key
parts_from (suc n) [] bytes = refl
parts_from (suc n) (x ∷ xs) bytes =
    let rest_bytes = tail_bytes x xs bytes in
    let number = from_cons n x xs in
    ap (λ (y : ℕ). byte_at n y ∷ (take (length xs) (bytes_high_first n y) ++ drop n xs)) number
    ∙ ap (λ (b : ℕ). b ∷ (take (length xs) (bytes_high_first n (x * 256 ^ n + big_from 0 n xs)) ++ drop n xs)) (first_byte n x (big_from 0 n xs) (bytes 0) (big_from-lt 0 n xs rest_bytes))
    ∙ ap (λ (bs : List ℕ). x ∷ (take (length xs) bs ++ drop n xs)) (low_bytes n x (big_from 0 n xs))
    ∙ ap (λ (bs : List ℕ). x ∷ bs) (parts_from n xs rest_bytes)

-- where there are no bytes, the number that the first are is 0
pub none_front : (bytes : List ℕ) → length bytes ≡ 0 → 0 ≡ front_of bytes
unfolding front_of
none_front [] none = refl
none_front (b ∷ bytes) none = omega (arith, none)

-- what a number and the bytes behind it make
front_and : (key : List ℕ) → AreBytes key → take (length key) (big_bytes 8 (front_of key)) ++ drop 8 key ≡ key
unfolding front_of
front_and key bytes = parts_from 8 key bytes

drop_bytes : (n : ℕ) (key : List ℕ) → AreBytes key → AreBytes (drop n key)
drop_bytes zero key bytes = bytes
drop_bytes (suc n) [] bytes = bytes
drop_bytes (suc n) (x ∷ xs) bytes = drop_bytes n xs (tail_bytes x xs bytes)

-- a key is what its parts make
pub parts_make : (key : List ℕ) → AreBytes key → bytes_by (front_of key) (front_of (drop 8 key)) (length key) (drop 8 (drop 8 key)) ≡ key
parts_make key bytes =
    let tail = drop 8 key in
    let first = take (length key) (big_bytes 8 (front_of key)) in
    ap (λ (n : ℕ). first ++ take n (big_bytes 8 (front_of tail)) ++ drop 8 tail) (sym (length-drop 8 key))
    ∙ append_assoc first (take (length tail) (big_bytes 8 (front_of tail))) (drop 8 tail)
    ∙ ap (λ (bs : List ℕ). first ++ bs) (front_and tail (drop_bytes 8 key bytes))
    ∙ front_and key bytes

-- ---- what was made of a key has its parts

pub made_by : (front next len : ℕ) (rest key : List ℕ) → AreBytes key → front ≡ front_of key → next ≡ front_of (drop 8 key) → len ≡ length key → rest ≡ drop 8 (drop 8 key) → bytes_by front next len rest ≡ key
made_by front next len rest key bytes is_front is_next is_len is_rest =
    ap (λ (f : ℕ). bytes_by f next len rest) is_front
    ∙ ap (λ (f : ℕ). bytes_by (front_of key) f len rest) is_next
    ∙ ap (λ (n : ℕ). bytes_by (front_of key) (front_of (drop 8 key)) n rest) is_len
    ∙ ap (λ (bs : List ℕ). bytes_by (front_of key) (front_of (drop 8 key)) (length key) bs) is_rest
    ∙ parts_make key bytes

pub parts_of : (front next len : ℕ) (rest key : List ℕ) → AreBytes key → front ≡ front_of key → next ≡ front_of (drop 8 key) → len ≡ length key → rest ≡ drop 8 (drop 8 key) → AreParts front next len rest
parts_of front next len rest key bytes is_front is_next is_len is_rest =
    let made = made_by front next len rest key bytes is_front is_next is_len is_rest in
    record {
      front_is = is_front ∙ sym (ap front_of made);
      next_is = is_next ∙ sym (ap (λ (k : List ℕ). front_of (drop 8 k)) made);
      len_is = is_len ∙ sym (ap length made);
      rest_is = is_rest ∙ sym (ap (λ (k : List ℕ). drop 8 (drop 8 k)) made);
    }
