-- Combining goes in any grouping, and place by place.
use Rattle.std.proofs.Common.{◌≡◌, ◌∷◌, ◌++◌, ◌∙◌, [], ℕ, zero, suc, Bool, true, false, cond, List, take, drop, slice_index_or, refl, sym, ap, subst, arith, Option, Some, None, ℤ, ◌+ℤ◌, int_lt}
use Rattle.std.proofs.lemmas.Bool.{true≢false}
use Rattle.std.proofs.lemmas.Option.{same_Some}
use Rattle.std.proofs.lemmas.Int.{clamps, ints, int_wrap-add_left, int_wrap-add_right, int_wrap_fits, SFits-int_wrap}
use Rattle.std.proofs.lemmas.List.{take_at, drop_at}
use Rattle.std.specs.Int.{int_max, int_min, int_wrap, w128}
use Rattle.std.specs.Int.RustNames.{FitsSigned}
use Rattle.aggregate.specs.declared.agg_list.Agg.{Agg}
use Rattle.aggregate.specs.declared.agg_list.Agg.TheVariants.{Count, Sum, Min, Max}
use Rattle.aggregate.specs.Partial.{combined, joined, joined_bytes, joined_number, partial_in, partial_of}
use Rattle.aggregate.specs.PartialLaws.{IsAssociative, PartialsAreJoined, SumsAreExact, adds}
use Rattle.aggregate.specs.Values.{FitsPartial}
use Rattle.aggregate.proofs.Numbers.{partial-alone, partial-fits}
use Rattle.aggregate.proofs.Combining.{length-joined_bytes, slot, slot-more}

add-assoc : (x y z : ℤ) → (x +ℤ y) +ℤ z ≡ x +ℤ (y +ℤ z)
add-assoc x y z = omega (arith, ints)

sum-assoc : (x y z : ℤ) → int_wrap w128 (int_wrap w128 (x +ℤ y) +ℤ z) ≡ int_wrap w128 (x +ℤ int_wrap w128 (y +ℤ z))
sum-assoc x y z = int_wrap-add_left w128 (x +ℤ y) z ∙ ap (int_wrap w128) (add-assoc x y z) ∙ sym (int_wrap-add_right w128 x (y +ℤ z))

min-assoc : (x y z : ℤ) → int_min (int_min x y) z ≡ int_min x (int_min y z)
min-assoc x y z = omega (arith, ints, clamps)

max-assoc : (x y z : ℤ) → int_max (int_max x y) z ≡ int_max x (int_max y z)
max-assoc x y z = omega (arith, ints, clamps)

number-assoc : (agg : Agg) (x y z : ℤ) → joined_number agg (joined_number agg x y) z ≡ joined_number agg x (joined_number agg y z)
number-assoc Count x y z = sum-assoc x y z
number-assoc Sum x y z = sum-assoc x y z
number-assoc Min x y z = min-assoc x y z
number-assoc Max x y z = max-assoc x y z

cond-fits : (t : Bool) (x y : ℤ) → FitsSigned w128 x → FitsSigned w128 y → FitsSigned w128 (cond t x y)
cond-fits true x y fits_x fits_y = fits_x
cond-fits false x y fits_x fits_y = fits_y

-- what is joined of two numbers that have a place in 128 bits has one
number-joint-fits : (agg : Agg) (x y : ℤ) → FitsSigned w128 x → FitsSigned w128 y → FitsSigned w128 (joined_number agg x y)
number-joint-fits Count x y fits_x fits_y = SFits-int_wrap w128 (x +ℤ y)
number-joint-fits Sum x y fits_x fits_y = SFits-int_wrap w128 (x +ℤ y)
number-joint-fits Min x y fits_x fits_y = cond-fits (int_lt y x) y x fits_y fits_x
number-joint-fits Max x y fits_x fits_y = cond-fits (int_lt y x) x y fits_x fits_y

joined-assoc : (agg : Agg) (x y z : Option ℤ) → joined agg (joined agg x y) z ≡ joined agg x (joined agg y z)
joined-assoc agg None y z = refl
joined-assoc agg (Some x) None z = refl
joined-assoc agg (Some x) (Some y) None = refl
joined-assoc agg (Some x) (Some y) (Some z) = ap Some (number-assoc agg x y z)

pub joined-fits : (agg : Agg) (x y : Option ℤ) → FitsPartial x → FitsPartial y → FitsPartial (joined agg x y)
joined-fits agg None y fits_x fits_y = fits_y
joined-fits agg (Some x) None fits_x fits_y = fits_x
joined-fits agg (Some x) (Some y) fits_x fits_y = λ n is.
    subst (λ (z : ℤ). FitsSigned w128 z) (same_Some (joined_number agg x y) n is) (number-joint-fits agg x y (fits_x x refl) (fits_y y refl))

pub partial-joined_bytes : (agg : Agg) (a b : List ℕ) → partial_in (joined_bytes agg a b) ≡ joined agg (partial_in a) (partial_in b)
partial-joined_bytes agg a b =
    partial-alone (joined agg (partial_in a) (partial_in b)) (joined-fits agg (partial_in a) (partial_in b) (partial-fits a) (partial-fits b))

head-assoc : (agg : Agg) (x y z : List ℕ) → joined_bytes agg (joined_bytes agg x y) z ≡ joined_bytes agg x (joined_bytes agg y z)
head-assoc agg x y z =
    ap partial_of (rw (partial-joined_bytes agg x y, partial-joined_bytes agg y z) (joined-assoc agg (partial_in x) (partial_in y) (partial_in z)))

pub associative : IsAssociative
associative [] a b c = refl
associative (agg ∷ aggs) a b c =
    let one = length-joined_bytes agg (take 17 a) (take 17 b) in
    let two = length-joined_bytes agg (take 17 b) (take 17 c) in
    rw (
      take_at (joined_bytes agg (take 17 a) (take 17 b)) (combined aggs (drop 17 a) (drop 17 b)) 17 one,
      drop_at (joined_bytes agg (take 17 a) (take 17 b)) (combined aggs (drop 17 a) (drop 17 b)) 17 one,
      take_at (joined_bytes agg (take 17 b) (take 17 c)) (combined aggs (drop 17 b) (drop 17 c)) 17 two,
      drop_at (joined_bytes agg (take 17 b) (take 17 c)) (combined aggs (drop 17 b) (drop 17 c)) 17 two,
      head-assoc agg (take 17 a) (take 17 b) (take 17 c),
      associative aggs (drop 17 a) (drop 17 b) (drop 17 c),
    )
    refl

-- at each place stands what its aggregate makes of the two numbers there
pub joined_at : PartialsAreJoined
joined_at [] place a b in' = absurd (omega arith)
joined_at (agg ∷ aggs) zero a b in' =
    let one = length-joined_bytes agg (take 17 a) (take 17 b) in
    rw (take_at (joined_bytes agg (take 17 a) (take 17 b)) (combined aggs (drop 17 a) (drop 17 b)) 17 one)
    (partial-joined_bytes agg (take 17 a) (take 17 b))
joined_at (agg ∷ aggs) (suc place) a b in' =
    let one = length-joined_bytes agg (take 17 a) (take 17 b) in
    let more = joined_at aggs place (drop 17 a) (drop 17 b) (omega arith) in
    let here = rw (slot-more place a, slot-more place b) at more in
    let behind : slot (suc place) (joined_bytes agg (take 17 a) (take 17 b) ++ combined aggs (drop 17 a) (drop 17 b)) ≡ slot place (combined aggs (drop 17 a) (drop 17 b)) =
    sym (slot-more place (joined_bytes agg (take 17 a) (take 17 b) ++ combined aggs (drop 17 a) (drop 17 b)))
    ∙ rw (drop_at (joined_bytes agg (take 17 a) (take 17 b)) (combined aggs (drop 17 a) (drop 17 b)) 17 one) refl in
    ap partial_in behind ∙ here

joined-exact : (agg : Agg) (x y : ℤ) → adds agg ≡ true → FitsSigned w128 (x +ℤ y) → joined_number agg x y ≡ x +ℤ y
joined-exact Count x y adding fits = int_wrap_fits w128 (x +ℤ y) fits
joined-exact Sum x y adding fits = int_wrap_fits w128 (x +ℤ y) fits
joined-exact Min x y adding fits = absurd (true≢false (sym adding))
joined-exact Max x y adding fits = absurd (true≢false (sym adding))

pub exact : SumsAreExact
exact aggs place a b x y in' adding here there fits =
    joined_at aggs place a b in' ∙ rw (here, there) (ap Some (joined-exact (slice_index_or aggs place Count) x y adding fits))
