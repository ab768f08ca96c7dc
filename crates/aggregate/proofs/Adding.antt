-- What adding two partial values writes, where a missing one counts as 0.
use Rattle.std.proofs.Common.{◌≡◌, ◌∷◌, ◌++◌, ◌∙◌, ◌≢◌, [], ℕ, max, List, length, drop, get_or, set, refl, sym, ap, arith, Option, Some, None, ℤ, pos, ◌+ℤ◌}
use Rattle.std.proofs.lemmas.Int.{ints, int_wrap_fits}
use Rattle.std.proofs.lemmas.List.{append-nil, drop_all}
use Rattle.std.specs.Int.{int_wrap, w128}
use Rattle.aggregate.specs.declared.agg_list.Agg.{Agg}
use Rattle.aggregate.specs.declared.agg_list.Agg.TheVariants.{Sum}
use Rattle.aggregate.specs.Partial.{joined_bytes, joined_number, number, number_bytes, partial_of}
use Rattle.aggregate.specs.Values.{FitsPartial, IsPartial}
use Rattle.aggregate.proofs.Numbers.{length-number_bytes, number-alone, number-fits, number-zeros, wrap-zero, zeros-number}
use borrow.Rule.Slice.PartMut.{put_mid}

none-left : (y : ℤ) → pos 0 +ℤ y ≡ y
none-left y = omega (arith, ints)

none-right : (x : ℤ) → x +ℤ pos 0 ≡ x
none-right x = omega (arith, ints)

-- 1 where one of the two is there
abbrev pub there : List ℕ → List ℕ → ℕ
there a b = max (get_or a 0 0) (get_or b 0 0)

-- the sum of the two numbers, of which a missing one has 0
abbrev pub sum_of : List ℕ → List ℕ → ℤ
sum_of a b = int_wrap w128 (number (drop 1 a) +ℤ number (drop 1 b))

added-at : (x y : Option ℤ) → there (partial_of x) (partial_of y) ∷ number_bytes (sum_of (partial_of x) (partial_of y)) ≡ joined_bytes Sum (partial_of x) (partial_of y)
added-at None None = ap (λ (bytes : List ℕ). 0 ∷ bytes) (ap (λ (z : ℤ). number_bytes (int_wrap w128 (z +ℤ z))) number-zeros ∙ ap number_bytes wrap-zero ∙ zeros-number)
added-at None (Some y) =
    let n = number (number_bytes y) in
    ap (λ (bytes : List ℕ). 1 ∷ bytes) (ap (λ (z : ℤ). number_bytes (int_wrap w128 (z +ℤ n))) number-zeros ∙ ap (λ (z : ℤ). number_bytes (int_wrap w128 z)) (none-left n) ∙ ap number_bytes (int_wrap_fits w128 n (number-fits (number_bytes y))))
added-at (Some x) None =
    let n = number (number_bytes x) in
    ap (λ (bytes : List ℕ). 1 ∷ bytes) (ap (λ (z : ℤ). number_bytes (int_wrap w128 (n +ℤ z))) number-zeros ∙ ap (λ (z : ℤ). number_bytes (int_wrap w128 z)) (none-right n) ∙ ap number_bytes (int_wrap_fits w128 n (number-fits (number_bytes x))))
added-at (Some x) (Some y) = refl

-- what is written over a value, first its first byte and then the others
written : (old tail : List ℕ) (first : ℕ) → length old ≡ 17 → put_mid 1 16 (set old 0 first) tail ≡ first ∷ tail
written [] tail first long = absurd (omega (arith, long))
written (b ∷ bytes) tail first long =
    let none : drop 16 bytes ≡ [] = drop_all 16 bytes (omega (arith, long)) in
    ap (λ (more : List ℕ). first ∷ (tail ++ more)) none ∙ ap (λ (more : List ℕ). first ∷ more) (append-nil tail)

pub added : (old from tail : List ℕ) (first : ℕ) → IsPartial Sum old → IsPartial Sum from → length old ≡ 17 → first ≡ there old from → tail ≡ number_bytes (sum_of old from)
    → put_mid 1 16 (set old 0 first) tail ≡ joined_bytes Sum old from
added old from tail first (x, _, is_x, _) (y, _, is_y, _) long first_is tail_is =
    written old tail first long
    ∙ rw (first_is, tail_is, is_x, is_y) (added-at x y)

-- what taking one of two leaves or writes

pub none_from : (agg : Agg) (old from : List ℕ) → IsPartial Sum old → IsPartial Sum from → get_or from 0 0 ≡ 0 → old ≡ joined_bytes agg old from
none_from agg old from (x, fits, is_x, _) (y, _, is_y, _) none = rw (is_x, is_y) (left x y fits (rw is_y at none))
  where
    left : (x y : Option ℤ) → FitsPartial x → get_or (partial_of y) 0 0 ≡ 0 → partial_of x ≡ joined_bytes agg (partial_of x) (partial_of y)
    left None None fits none = refl
    left (Some n) None fits none = ap (λ (bytes : List ℕ). 1 ∷ bytes) (sym (ap number_bytes (number-alone n (fits n refl))))
    left x (Some m) fits none = absurd (omega (arith, none))

pub none_into : (agg : Agg) (old from : List ℕ) → IsPartial Sum old → IsPartial Sum from → get_or old 0 0 ≡ 0 → from ≡ joined_bytes agg old from
none_into agg old from (x, _, is_x, _) (y, fits, is_y, _) none = rw (is_x, is_y) (right x y fits (rw is_x at none))
  where
    right : (x y : Option ℤ) → FitsPartial y → get_or (partial_of x) 0 0 ≡ 0 → partial_of y ≡ joined_bytes agg (partial_of x) (partial_of y)
    right None None fits none = refl
    right None (Some n) fits none = ap (λ (bytes : List ℕ). 1 ∷ bytes) (sym (ap number_bytes (number-alone n (fits n refl))))
    right (Some m) y fits none = absurd (omega (arith, none))

put_tail : (old tail : List ℕ) (b : ℕ) (bytes : List ℕ) → old ≡ b ∷ bytes → length bytes ≡ 16 → put_mid 1 16 old tail ≡ b ∷ tail
put_tail old tail b bytes is long =
    rw is (let none : drop 16 bytes ≡ [] = drop_all 16 bytes (omega (arith, long)) in
    ap (λ (more : List ℕ). b ∷ (tail ++ more)) none ∙ ap (λ (more : List ℕ). b ∷ more) (append-nil tail))

pub both_there : (agg : Agg) (old from tail : List ℕ) → IsPartial Sum old → IsPartial Sum from → get_or old 0 0 ≢ 0 → get_or from 0 0 ≢ 0
    → tail ≡ number_bytes (joined_number agg (number (drop 1 old)) (number (drop 1 from))) → put_mid 1 16 old tail ≡ joined_bytes agg old from
both_there agg old from tail (None, _, is_x, _) (y, _, is_y, _) some other tail_is = absurd (some (rw is_x refl))
both_there agg old from tail (Some x, _, is_x, _) (None, _, is_y, _) some other tail_is = absurd (other (rw is_y refl))
both_there agg old from tail (Some x, _, is_x, _) (Some y, _, is_y, _) some other tail_is =
    put_tail old tail 1 (number_bytes x) is_x (length-number_bytes x) ∙ rw (tail_is, is_x, is_y) refl
