-- Which bytes are those of a partial value.
use Rattle.std.proofs.Common.{◌≡◌, ◌∷◌, ◌∙◌, ◌^◌, [], ℕ, zero, suc, List, length, take, drop, get_or, refl, sym, ap, subst, arith, Some, None, ℤ, pos}
use Rattle.std.proofs.lemmas.Int.{ints, of_z-to_z}
use Rattle.std.proofs.lemmas.List.{append-nil, take_all}
use Rattle.std.proofs.lemmas.Option.{same_Some}
use Rattle.std.specs.Int.{bytes_high_first, cast_unsigned, w128}
use Rattle.std.specs.Int.RustNames.{FitsSigned}
use Rattle.byteorder.specs.Endian.{big_bytes, big_from, big_number}
use Rattle.byteorder.specs.Numbers.{big_from-lt, big_number-reads_back, length-bytes_high_first}
use Rattle.aggregate.specs.declared.agg_list.Agg.{Agg}
use Rattle.aggregate.specs.declared.agg_list.Agg.TheVariants.{Count, Sum, Min, Max}
use Rattle.aggregate.specs.Partial.{number, number_bytes}
use Rattle.aggregate.specs.Values.{IsPartial, Suits}
use Rattle.aggregate.proofs.Fronts.{AreBytes}
use Rattle.aggregate.proofs.NumberOrder.{byte-small}
use Rattle.aggregate.proofs.Numbers.{number-bytes, number-fits, number-zeros, zeros-number}
use Rattle.aggregate.proofs.Rests.{digits_same, from_cons}

-- bytes of equal number are equal
same_bytes : (n : ℕ) (xs ys : List ℕ) → AreBytes xs → AreBytes ys → length xs ≡ n → length ys ≡ n → big_from 0 n xs ≡ big_from 0 n ys → xs ≡ ys
same_bytes zero [] [] bx by' lx ly e = refl
same_bytes zero [] (y ∷ ys) bx by' lx ly e = absurd (omega (arith, ly))
same_bytes zero (x ∷ xs) ys bx by' lx ly e = absurd (omega (arith, lx))
same_bytes (suc n) [] ys bx by' lx ly e = absurd (omega (arith, lx))
same_bytes (suc n) (x ∷ xs) [] bx by' lx ly e = absurd (omega (arith, ly))
same_bytes (suc n) (x ∷ xs) (y ∷ ys) bx by' lx ly e =
    let small_x = big_from-lt 0 n xs (λ k. bx (suc k)) in
    let small_y = big_from-lt 0 n ys (λ k. by' (suc k)) in
    let same = digits_same (256 ^ n) x y (big_from 0 n xs) (big_from 0 n ys) small_x small_y (sym (from_cons n x xs) ∙ e ∙ from_cons n y ys) in
    ap (λ (b : ℕ). b ∷ xs) same.0 ∙ ap (λ (bs : List ℕ). y ∷ bs) (same_bytes n xs ys (λ k. bx (suc k)) (λ k. by' (suc k)) (omega (arith, lx)) (omega (arith, ly)) same.1)

digits_small : (n x : ℕ) → AreBytes (bytes_high_first n x)
digits_small zero x k = omega arith
digits_small (suc n) x zero = byte-small n x
digits_small (suc n) x (suc k) = digits_small n x k

-- 16 bytes are those of their number
pub bytes-again : (bytes : List ℕ) → AreBytes bytes → length bytes ≡ 16 → number_bytes (number bytes) ≡ bytes
unfolding number_bytes
bytes-again bytes small long =
    let n = big_number 16 bytes in
    let below = big_from-lt 0 16 bytes small in
    let bits : cast_unsigned w128 (number bytes) ≡ n = ap (cast_unsigned w128) (number-bytes bytes small) ∙ of_z-to_z w128 n (omega (arith, ints, below)) in
    let back : big_from 0 16 (big_bytes 16 n) ≡ n = ap (big_from 0 16) (sym (append-nil (bytes_high_first 16 n))) ∙ big_number-reads_back 16 n [] below in
    ap (big_bytes 16) bits ∙ same_bytes 16 (big_bytes 16 n) bytes (digits_small 16 n) small (length-bytes_high_first 16 n) long back

-- what is there has a 1 in front
pub one_is : (agg : Agg) (b : ℕ) (bytes : List ℕ) → b ≡ 1 → AreBytes bytes → length bytes ≡ 16 → IsPartial agg (b ∷ bytes)
one_is agg b bytes first small long =
    (Some (number bytes), λ n is. subst (λ (z : ℤ). FitsSigned w128 z) (same_Some (number bytes) n is) (number-fits bytes), ap (λ (x : ℕ). x ∷ bytes) first ∙ ap (λ (bs : List ℕ). 1 ∷ bs) (sym (bytes-again bytes small long)), any agg)
  where
    any : (g : Agg) → Suits g (Some (number bytes))
    any Count = tt
    any Sum = tt
    any Min = tt
    any Max = tt

-- and what is missing is zeros alone, of an aggregate that is no count
pub zero_is : (agg : Agg) (b : ℕ) (bytes : List ℕ) → b ≡ 0 → AreBytes bytes → length bytes ≡ 16 → number bytes ≡ pos 0 → Suits agg None → IsPartial agg (b ∷ bytes)
zero_is agg b bytes first small long none suits =
    (None, λ n is. absurd (cc is), ap (λ (x : ℕ). x ∷ bytes) first ∙ ap (λ (bs : List ℕ). 0 ∷ bs) (sym (bytes-again bytes small long) ∙ ap number_bytes none ∙ zeros-number), suits)

-- The same of 17 bytes as a whole

pub one_whole : (agg : Agg) (bytes : List ℕ) → AreBytes bytes → length bytes ≡ 17 → get_or bytes 0 0 ≡ 1 → IsPartial agg bytes
one_whole agg [] small long first = absurd (omega (arith, long))
one_whole agg (b ∷ bytes) small long first = one_is agg b bytes first (λ k. small (suc k)) (omega (arith, long))

pub zero_whole : (agg : Agg) (bytes : List ℕ) → AreBytes bytes → length bytes ≡ 17 → get_or bytes 0 0 ≡ 0 → number (take 16 (drop 1 bytes)) ≡ pos 0 → Suits agg None → IsPartial agg bytes
zero_whole agg [] small long first none suits = absurd (omega (arith, long))
zero_whole agg (b ∷ bytes) small long first none suits =
    let all : take 16 bytes ≡ bytes = take_all 16 bytes (omega (arith, long)) in
    zero_is agg b bytes first (λ k. small (suc k)) (omega (arith, long)) (ap number (sym all) ∙ none) suits

pub zero_back : (agg : Agg) (bytes : List ℕ) → get_or bytes 0 0 ≡ 0 → IsPartial agg bytes → (number (take 16 (drop 1 bytes)) ≡ pos 0) × Suits agg None
zero_back agg bytes first (None, _, is, suits) = (ap (λ (bs : List ℕ). number (take 16 (drop 1 bs))) is ∙ number-zeros, suits)
zero_back agg bytes first (Some n, _, is, suits) = absurd (let one : get_or bytes 0 0 ≡ 1 = ap (λ (bs : List ℕ). get_or bs 0 0) is in omega (arith, one, first))
