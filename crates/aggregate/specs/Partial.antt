-- Partial values of a group: for each aggregate 17 bytes. These are 1 and a whole number of 128 bits in two's complement,
-- the greatest byte first, or 17 zeros where every field was missing.
-- This project's own.
use Rattle.std.specs.Prelude.{◌≡◌, ℕ, zero, suc, ◌*◌, ◌^◌, List, [], ◌∷◌, ◌++◌, Option, Some, None, take, drop, flat_map, option_to_list, if◌then◌else◌, ℤ, pos, negsuc, ◌+ℤ◌, Bool, true, false, map, nat_lt, replicate}
use Rattle.std.specs.Int.{cast_unsigned, int_max, int_min, int_wrap, w128}
use Rattle.byteorder.specs.Endian.{big_bytes, big_number}
use Rattle.aggregate.specs.declared.agg_list.Agg.{Agg}
use Rattle.aggregate.specs.declared.agg_list.Agg.TheVariants.{Count, Sum, Min, Max}
use Rattle.aggregate.specs.declared.partial.Finished.{Finished}
use Rattle.aggregate.specs.declared.partial.Finished.TheVariants.{Missing, Number, Wide}

-- the bytes of one partial value
abbrev pub slot_bytes : ℕ
slot_bytes = 17

-- the number in the first 16 bytes, in two's complement of 128 bits
unfoldable pub number : List ℕ → ℤ
number bytes = int_wrap w128 (pos (big_number 16 bytes))

-- the 16 bytes of a number
unfoldable pub number_bytes : ℤ → List ℕ
number_bytes n = big_bytes 16 (cast_unsigned w128 n)

-- the bytes of a partial value: 1 and the number, or zeros alone where there is none
abbrev pub partial_of : Option ℤ → List ℕ
partial_of None = replicate slot_bytes 0
partial_of (Some n) = 1 ∷ number_bytes n

-- the partial value that bytes are: none where they begin with a zero
abbrev pub partial_in : List ℕ → Option ℤ
partial_in [] = None
partial_in (zero ∷ bytes) = None
partial_in (suc b ∷ bytes) = Some (number bytes)

-- whether an aggregate adds
abbrev pub adds : Agg → Bool
adds Count = true
adds Sum = true
adds Min = false
adds Max = false

-- two aggregates that add
abbrev pub AreTwoSums : List Agg → Type 0
AreTwoSums aggs = map adds aggs ≡ true ∷ (true ∷ [])

-- two numbers as one: what is added is taken modulo 2^128; of two the lesser or the greater
abbrev pub joined_number : Agg → ℤ → ℤ → ℤ
joined_number Count a b = int_wrap w128 (a +ℤ b)
joined_number Sum a b = int_wrap w128 (a +ℤ b)
joined_number Min a b = int_min a b
joined_number Max a b = int_max a b

-- two partial values as one: where one is missing it is the other
abbrev pub joined : Agg → Option ℤ → Option ℤ → Option ℤ
joined agg None b = b
joined agg (Some a) None = Some a
joined agg (Some a) (Some b) = Some (joined_number agg a b)

-- the same of the bytes of two
abbrev pub joined_bytes : Agg → List ℕ → List ℕ → List ℕ
joined_bytes agg a b = partial_of (joined agg (partial_in a) (partial_in b))

-- two values as one
abbrev pub combined : List Agg → List ℕ → List ℕ → List ℕ
combined [] a b = []
combined (agg ∷ aggs) a b =
    joined_bytes agg (take slot_bytes a) (take slot_bytes b) ++ combined aggs (drop slot_bytes a) (drop slot_bytes b)

-- the numbers of those partial values that are there
abbrev pub present : List (Option ℤ) → List ℤ
present partials = flat_map option_to_list partials

-- the partial value at a place of a value, from 0
abbrev pub partial_at : ℕ → List ℕ → Option ℤ
partial_at place value = partial_in (take slot_bytes (drop (slot_bytes * place) value))

-- whether a number is in the range of `i64`
abbrev pub fits_i64 : ℤ → Bool
fits_i64 (pos n) = nat_lt n (2 ^ 63)
fits_i64 (negsuc n) = nat_lt n (2 ^ 63)

-- what is told of a partial value: that there is none, the number, or that it leaves that range
abbrev pub finished_of : Option ℤ → Finished
finished_of None = Missing
finished_of (Some z) = if fits_i64 z then Number z else Wide
