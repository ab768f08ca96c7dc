-- A number and its 16 bytes, and a partial value and its 17.
use Rattle.std.proofs.Common.{◌≡◌, ◌<◌, ◌*◌, ◌^◌, ◌++◌, ◌∙◌, [], ◌∷◌, ℕ, zero, suc, List, length, slice_index, refl, ap, subst, arith, ℤ, pos, Option, Some, None, replicate}
use Rattle.std.proofs.lemmas.Int.{SFits-int_wrap, ints, to_z-of_z}
use Rattle.std.proofs.lemmas.List.{append-nil, drop_at, take_at}
use Rattle.std.proofs.lemmas.Option.{same_Some}
use Rattle.std.proofs.Math.Nat.{mod-eq_of_lt}
use Rattle.std.specs.Int.{cast_signed, cast_unsigned, int_wrap, w128}
use Rattle.std.specs.Int.RustNames.{FitsSigned}
use Rattle.byteorder.specs.Endian.{big_number}
use Rattle.byteorder.specs.Numbers.{big_from-lt, big_number-reads_back, length-bytes_high_first}
use Rattle.aggregate.specs.Partial.{number, number_bytes, partial_at, partial_in, partial_of, slot_bytes}
use Rattle.aggregate.specs.Values.{FitsPartial}

pub length-number_bytes : (n : ℤ) → length (number_bytes n) ≡ 16
unfolding number_bytes
length-number_bytes n = length-bytes_high_first 16 (cast_unsigned w128 n)

bits-fit : (n : ℤ) → FitsSigned w128 n → cast_unsigned w128 n < 256 ^ 16
bits-fit n fits = omega (arith, ints)

-- 128 bits are left as they are
wrap-bits : (n : ℕ) → n < 256 ^ 16 → int_wrap w128 (pos n) ≡ cast_signed w128 n
unfolding int_wrap
wrap-bits n small = ap (cast_signed w128) (mod-eq_of_lt small)

-- whatever the list, its number has a place in 128 bits
pub number-fits : (bytes : List ℕ) → FitsSigned w128 (number bytes)
unfolding number
number-fits bytes = SFits-int_wrap w128 (pos (big_number 16 bytes))

-- the number of a list of bytes
pub number-bytes : (bytes : List ℕ) → ((k : ℕ) → slice_index bytes k < 256) → number bytes ≡ cast_signed w128 (big_number 16 bytes)
unfolding number
number-bytes bytes small = wrap-bits (big_number 16 bytes) (big_from-lt 0 16 bytes small)

pub number-number_bytes : (n : ℤ) (rest : List ℕ) → FitsSigned w128 n → number (number_bytes n ++ rest) ≡ n
unfolding number number_bytes
number-number_bytes n rest fits =
    let small = bits-fit n fits in
    ap (λ (bits : ℕ). int_wrap w128 (pos bits)) (big_number-reads_back 16 (cast_unsigned w128 n) rest small)
    ∙ wrap-bits (cast_unsigned w128 n) small
    ∙ to_z-of_z w128 n fits

pub number-alone : (n : ℤ) → FitsSigned w128 n → number (number_bytes n) ≡ n
number-alone n fits = let e = number-number_bytes n [] fits in rw append-nil at e

-- zeros alone are the number 0
pub wrap-zero : int_wrap w128 (pos 0) ≡ pos 0
unfolding int_wrap
wrap-zero = refl

pub number-zeros : number (replicate 16 0) ≡ pos 0
unfolding number
number-zeros = wrap-zero

pub zeros-number : number_bytes (pos 0) ≡ replicate 16 0
unfolding number_bytes
zeros-number = refl

-- Partial values

pub length-partial_of : (o : Option ℤ) → length (partial_of o) ≡ slot_bytes
length-partial_of None = refl
length-partial_of (Some n) = ap suc (length-number_bytes n)

-- whatever the list, its number, if it is one, has a place in 128 bits
pub partial-fits : (bytes : List ℕ) → FitsPartial (partial_in bytes)
partial-fits [] n is = cc
partial-fits (zero ∷ bytes) n is = cc
partial-fits (suc b ∷ bytes) n is = subst (λ (z : ℤ). FitsSigned w128 z) (same_Some (number bytes) n is) (number-fits bytes)

pub partial-alone : (o : Option ℤ) → FitsPartial o → partial_in (partial_of o) ≡ o
partial-alone None fits = refl
partial-alone (Some n) fits = ap Some (number-alone n (fits n refl))

pub partial_at-put : (o : Option ℤ) (place : ℕ) (before rest : List ℕ) → FitsPartial o → length before ≡ slot_bytes * place
    → partial_at place (before ++ (partial_of o ++ rest)) ≡ o
partial_at-put o place before rest fits long =
    rw (drop_at before (partial_of o ++ rest) (slot_bytes * place) long, take_at (partial_of o) rest slot_bytes (length-partial_of o))
    (partial-alone o fits)
