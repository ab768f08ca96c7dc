-- What values come to that are joined one by one: how many they are, and of the numbers that aren't missing the exact sum,
-- the least and the greatest.
use Rattle.std.proofs.Common.{◌≡◌, ◌+◌, ◌*◌, ◌^◌, ◌≤◌, ◌∙◌, ℕ, Bool, true, false, List, [], ◌∷◌, map, length, refl, sym, ap, arith, subst, Option, Some, None, ℤ, pos, negsuc, unsigned_abs, inl, inr, ltb-true}
use Rattle.std.specs.Prelude.{◌+ℤ◌, ◌++◌, ◌&&◌, unwrap_or, is_some, not, nat_lt, option_to_list}
use Rattle.std.specs.Int.{int_max, int_min, int_wrap, w128, w64}
use Rattle.std.specs.Int.RustNames.{FitsSigned}
use Rattle.std.specs.List.{AllByRecursion, fold}
use Rattle.std.specs.Str.{all_ascii_digits}
use Rattle.std.specs.Str.Parse.{signed_digits_value, without_leading_sign}
use Rattle.std.proofs.lemmas.Bool.{cases_Bool, true≢false}
use Rattle.std.proofs.lemmas.List.{length-map}
use Rattle.std.proofs.lemmas.Int.{clamps, fits_signed_from_abs, int_wrap_fits, ints}
use Rattle.aggregate.specs.declared.agg_list.Agg.{Agg}
use Rattle.aggregate.specs.declared.agg_list.Agg.TheVariants.{Count, Sum, Min, Max}
use Rattle.aggregate.specs.Partial.{joined, present}
use Rattle.aggregate.specs.Values.{FitsPartial}
use Rattle.aggregate.proofs.Present.{joint, joint-present, joint_number, joint_of}
use Rattle.row_form.specs.Numbers.{fits_i64, is_number, number}
use Rattle.job_text.specs.Jobs.{is_count}
use Rattle.job_answer.specs.Answer.{aggregated, greatest, least, summed}

-- ---- the number of a field is one of 64 bits

fits-64 : (z : ℤ) → fits_i64 z ≡ true → FitsSigned w64 z
fits-64 (pos n) h = let small = ltb-true n (2 ^ 63) h in omega (arith, ints)
fits-64 (negsuc n) h = let small = ltb-true n (2 ^ 63) h in omega (arith, ints)

second : (a b : Bool) → (a && b) ≡ true → b ≡ true
second true b h = h
second false b h = absurd (true≢false (sym h))

pub number-small : (field : List ℕ) → FitsSigned w64 (unwrap_or (number field) (pos 0))
number-small field = elim (cases_Bool (is_number field)) [
  | inl known ↦
      let digits = without_leading_sign field in
      let value = signed_digits_value 10 field in
      rw known (fits-64 value (second (nat_lt 0 (length digits) && all_ascii_digits digits) (fits_i64 value) known))
  | inr none ↦ rw none (omega (arith, ints))
]

-- a number, if there is one, has 64 bits
abbrev pub IsSmall : Option ℤ → Type 0
IsSmall o = (n : ℤ) → o ≡ Some n → FitsSigned w64 n

pub value-small : (field : List ℕ) → IsSmall (number field)
value-small field n is = subst (λ (z : ℤ). FitsSigned w64 z) (ap (λ (o : Option ℤ). unwrap_or o (pos 0)) is) (number-small field)

abs-small : (z : ℤ) → FitsSigned w64 z → unsigned_abs z ≤ 2 ^ 63
abs-small z fits = omega (arith, ints)

fits-wider : (z : ℤ) → FitsSigned w64 z → FitsSigned w128 z
fits-wider z fits = omega (arith, ints)

-- ---- joined from the right and from the left

min-assoc : (x y z : ℤ) → int_min (int_min x y) z ≡ int_min x (int_min y z)
min-assoc x y z = omega (arith, ints, clamps)

max-assoc : (x y z : ℤ) → int_max (int_max x y) z ≡ int_max x (int_max y z)
max-assoc x y z = omega (arith, ints, clamps)

add-assoc : (x y z : ℤ) → (x +ℤ y) +ℤ z ≡ x +ℤ (y +ℤ z)
add-assoc x y z = omega (arith, ints)

fold-front : (f : ℤ → ℤ → ℤ) → ((x y z : ℤ) → f (f x y) z ≡ f x (f y z)) → (a b : ℤ) (bs : List ℤ) → fold f (f a b) bs ≡ f a (fold f b bs)
fold-front f assoc a b [] = refl
fold-front f assoc a b (c ∷ cs) = ap (λ (s : ℤ). fold f s cs) (assoc a b c) ∙ fold-front f assoc a (f b c) cs

joint-least : (a : ℤ) (bs : List ℤ) → joint_number Min a bs ≡ fold int_min a bs
joint-least a [] = refl
joint-least a (b ∷ bs) = ap (int_min a) (joint-least b bs) ∙ sym (fold-front int_min min-assoc a b bs)

joint-greatest : (a : ℤ) (bs : List ℤ) → joint_number Max a bs ≡ fold int_max a bs
joint-greatest a [] = refl
joint-greatest a (b ∷ bs) = ap (int_max a) (joint-greatest b bs) ∙ sym (fold-front int_max max-assoc a b bs)

-- ---- sums that are exact

wrap-small : (z : ℤ) (m : ℕ) → unsigned_abs z ≤ 2 ^ 63 * m → m ≤ 2 ^ 32 → int_wrap w128 z ≡ z
wrap-small z m close few = int_wrap_fits w128 z (fits_signed_from_abs w128 z (omega arith))

abs-add : (x y : ℤ) (m : ℕ) → unsigned_abs x ≤ 2 ^ 63 → unsigned_abs y ≤ 2 ^ 63 * m → unsigned_abs (x +ℤ y) ≤ 2 ^ 63 * (m + 1)
abs-add x y m small close = omega (arith, ints)

-- the sum of so many numbers of 64 bits, and how far it is from 0 at most
joint-sum : (a : ℤ) (bs : List ℤ) → unsigned_abs a ≤ 2 ^ 63 → AllByRecursion (λ b. unsigned_abs b ≤ 2 ^ 63) bs → length bs + 1 ≤ 2 ^ 32
    → (joint_number Sum a bs ≡ fold ◌+ℤ◌ a bs) × (unsigned_abs (fold ◌+ℤ◌ a bs) ≤ 2 ^ 63 * (length bs + 1))
joint-sum a [] small all few = (refl, omega arith)
joint-sum a (b ∷ bs) small all few =
    let more = joint-sum b bs all.0 all.1 (omega arith) in
    let whole : fold ◌+ℤ◌ (a +ℤ b) bs ≡ a +ℤ fold ◌+ℤ◌ b bs = fold-front ◌+ℤ◌ add-assoc a b bs in
    let next : length bs + 1 ≡ length (b ∷ bs) = omega arith in
    let close : unsigned_abs (a +ℤ fold ◌+ℤ◌ b bs) ≤ 2 ^ 63 * (length (b ∷ bs) + 1) = rw next at (abs-add a (fold ◌+ℤ◌ b bs) (length bs + 1) small more.1) in
    let exact : int_wrap w128 (a +ℤ fold ◌+ℤ◌ b bs) ≡ a +ℤ fold ◌+ℤ◌ b bs = wrap-small (a +ℤ fold ◌+ℤ◌ b bs) (length (b ∷ bs) + 1) close few in
    (ap (λ (s : ℤ). int_wrap w128 (a +ℤ s)) more.0 ∙ exact ∙ sym whole, rw whole close)

-- the same of ones
joint-count : {X : Type 0} (rows : List X) → length rows + 1 ≤ 2 ^ 32 → joint Count (Some (pos 1)) (map (λ row. Some (pos 1)) rows) ≡ Some (pos (length rows + 1))
joint-count [] few = refl
joint-count (row ∷ rows) few =
    let more = joint-count rows (omega arith) in
    let size : 1 + (length rows + 1) ≡ length (row ∷ rows) + 1 = omega arith in
    ap (joined Count (Some (pos 1))) more
    ∙ ap Some (wrap-small (pos (1 + (length rows + 1))) (length (row ∷ rows) + 1) (omega (arith, ints)) few ∙ ap pos size)

-- ---- what a part tells

pub small-fits : (o : Option ℤ) → IsSmall o → FitsPartial o
small-fits o small n is = fits-wider n (small n is)

-- the numbers of small values are small
one-small : (o : Option ℤ) (ns : List ℤ) → IsSmall o → AllByRecursion (λ b. unsigned_abs b ≤ 2 ^ 63) ns → AllByRecursion (λ b. unsigned_abs b ≤ 2 ^ 63) (option_to_list o ++ ns)
one-small None ns is all = all
one-small (Some n) ns is all = (abs-small n (is n refl), all)

all-small : {X : Type 0} (h : X → Option ℤ) → ((x : X) → IsSmall (h x)) → (xs : List X) → AllByRecursion (λ b. unsigned_abs b ≤ 2 ^ 63) (present (map h xs))
all-small h small [] = tt
all-small h small (x ∷ xs) = one-small (h x) (present (map h xs)) (small x) (all-small h small xs)

-- there are at most as many as values
pub present-few : (os : List (Option ℤ)) → length (present os) ≤ length os
present-few [] = omega arith
present-few (None ∷ os) = let more = present-few os in omega arith
present-few (Some n ∷ os) = let more = present-few os in omega arith

summed-joint : (ns : List ℤ) → AllByRecursion (λ b. unsigned_abs b ≤ 2 ^ 63) ns → length ns ≤ 2 ^ 32 → joint_of Sum ns ≡ summed ns
summed-joint [] small few = refl
summed-joint (n ∷ ns) small few = ap Some (joint-sum n ns small.0 small.1 (omega arith)).0

least-joint : (ns : List ℤ) → joint_of Min ns ≡ least ns
least-joint [] = refl
least-joint (n ∷ ns) = ap Some (joint-least n ns)

greatest-joint : (ns : List ℤ) → joint_of Max ns ≡ greatest ns
greatest-joint [] = refl
greatest-joint (n ∷ ns) = ap Some (joint-greatest n ns)

-- what a row adds to an aggregate: 1 where rows are counted, else the value in the column
abbrev pub told_of_column : {X : Type 0} → (X → ℕ → Option ℤ) → Option ℕ → X → Option ℤ
told_of_column values None row = Some (pos 1)
told_of_column values (Some column) row = values row column

-- the values that are joined come to the aggregate of them
pub joint-aggregated : {X : Type 0} (values : X → ℕ → Option ℤ) → ((row : X) (column : ℕ) → IsSmall (values row column))
    → (agg : Agg) (column : Option ℕ) (first : X) (rest : List X) → is_some column ≡ not (is_count agg) → length rest + 1 ≤ 2 ^ 32
    → joint agg (told_of_column values column first) (map (told_of_column values column) rest)
    ≡ aggregated agg (map (λ row. values row (unwrap_or column 0)) (first ∷ rest))
joint-aggregated values fits Count None first rest is few =
    let size : length rest + 1 ≡ length (map (λ row. values row 0) (first ∷ rest)) = omega (arith, length-map rest (λ row. values row 0)) in
    joint-count rest few ∙ ap (λ (n : ℕ). Some (pos n)) size
joint-aggregated values fits Count (Some k) first rest is few = absurd (true≢false is)
joint-aggregated values fits Sum None first rest is few = absurd (true≢false (sym is))
joint-aggregated {X} values fits Sum (Some k) first rest is few =
    let told = λ (row : X). values row k in
    let os = map told (first ∷ rest) in
    let size : length os ≡ length rest + 1 = omega (arith, length-map (first ∷ rest) told) in
    joint-present Sum (values first k) (map told rest)
    ∙ summed-joint (present os) (all-small told (λ row. fits row k) (first ∷ rest)) (omega (arith, present-few os, size, few))
joint-aggregated values fits Min None first rest is few = absurd (true≢false (sym is))
joint-aggregated values fits Min (Some k) first rest is few =
    joint-present Min (values first k) (map (λ row. values row k) rest) ∙ least-joint (present (map (λ row. values row k) (first ∷ rest)))
joint-aggregated values fits Max None first rest is few = absurd (true≢false (sym is))
joint-aggregated values fits Max (Some k) first rest is few =
    joint-present Max (values first k) (map (λ row. values row k) rest) ∙ greatest-joint (present (map (λ row. values row k) (first ∷ rest)))
