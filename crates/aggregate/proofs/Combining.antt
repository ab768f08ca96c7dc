-- Values, joined number by number from the first place to the last.
use Rattle.std.proofs.Common.{◌≡◌, ◌<◌, ◌+◌, ◌*◌, ◌∷◌, ◌++◌, ◌∙◌, [], ℕ, ℤ, zero, suc, List, length, take, drop, refl, sym, ap, subst, arith, append_assoc, get_or, Bool, true, Option, Some, None}
use Rattle.std.proofs.lemmas.List.{append-nil, drop-drop, length-append, length-drop, length-map, take_at, drop_at, length-take, take_more, take_all, drop_all}
use Rattle.aggregate.specs.declared.agg_list.Agg.{Agg}
use Rattle.aggregate.specs.declared.agg_list.Agg.TheVariants.{Count, Sum, Min, Max}
use Rattle.aggregate.specs.Partial.{adds, AreTwoSums, combined, joined, joined_bytes, partial_in, partial_of}
use Rattle.aggregate.specs.Values.{ArePartials, IsPartial, Suits}
use Rattle.aggregate.proofs.Numbers.{length-partial_of}
use borrow.Rule.Slice.PartMut.{put_mid}

pub length-joined_bytes : (agg : Agg) (a b : List ℕ) → length (joined_bytes agg a b) ≡ 17
length-joined_bytes agg a b = length-partial_of (joined agg (partial_in a) (partial_in b))

pub length-combined : (aggs : List Agg) (a b : List ℕ) → length (combined aggs a b) ≡ 17 * length aggs
length-combined [] a b = refl
length-combined (agg ∷ aggs) a b =
    let first = length-joined_bytes agg (take 17 a) (take 17 b) in
    let rest = length-combined aggs (drop 17 a) (drop 17 b) in
    length-append (joined_bytes agg (take 17 a) (take 17 b)) (combined aggs (drop 17 a) (drop 17 b)) ∙ rw (first, rest) (omega arith)

-- the bytes of one aggregate
abbrev pub slot : ℕ → List ℕ → List ℕ
slot i xs = take 17 (drop (17 * i) xs)

pub slot-more : (n : ℕ) (xs : List ℕ) → slot n (drop 17 xs) ≡ slot (suc n) xs
slot-more n xs =
    let e : 17 + 17 * n ≡ 17 * suc n = omega arith in
    rw (drop-drop (17 * n) 17 xs, e) refl

pub combined-more : (aggs : List Agg) (agg : Agg) (a b : List ℕ)
    → combined (aggs ++ agg ∷ []) a b ≡ combined aggs a b ++ joined_bytes agg (slot (length aggs) a) (slot (length aggs) b)
combined-more [] agg a b = append-nil (joined_bytes agg (take 17 a) (take 17 b))
combined-more (g ∷ gs) agg a b =
    let more = combined-more gs agg (drop 17 a) (drop 17 b) in
    let last = rw (slot-more (length gs) a, slot-more (length gs) b) at more in
    ap (λ (t : List ℕ). joined_bytes g (take 17 a) (take 17 b) ++ t) last
    ∙ sym (append_assoc (joined_bytes g (take 17 a) (take 17 b)) (combined gs (drop 17 a) (drop 17 b)) _)

-- a part written in its place
put-slot : (n : ℕ) (p old new : List ℕ) → length p ≡ 17 * n → put_mid (17 * n) 17 (p ++ drop (17 * n) old) new ≡ (p ++ new) ++ drop (17 * (n + 1)) old
put-slot n p old new h =
    let e : 17 * n + 17 ≡ 17 * (n + 1) = omega arith in
    rw (take_at p (drop (17 * n) old) (17 * n) h, drop_at p (drop (17 * n) old) (17 * n) h, drop-drop 17 (17 * n) old, e)
    (sym (append_assoc p new (drop (17 * (n + 1)) old)))

-- one more aggregate is joined
pub combine-step : (aggs : List Agg) (i k : ℕ) (old from into new : List ℕ) → i < length aggs → k ≡ 17
    → into ≡ combined (take i aggs) old from ++ drop (17 * i) old
    → new ≡ joined_bytes (get_or aggs i Count) (take k (drop (17 * i) into)) (take k (drop (17 * i) from))
    → put_mid (17 * i) k into new ≡ combined (take (i + 1) aggs) old from ++ drop (17 * (i + 1)) old
combine-step aggs i k old from into new lt ek inv made =
    let many : length (take i aggs) ≡ i = let t = length-take i aggs in omega arith in
    let long : length (combined (take i aggs) old from) ≡ 17 * i = length-combined (take i aggs) old from ∙ ap (λ (n : ℕ). 17 * n) many in
    let there : take 17 (drop (17 * i) (combined (take i aggs) old from ++ drop (17 * i) old)) ≡ slot i old =
    rw (drop_at (combined (take i aggs) old from) (drop (17 * i) old) (17 * i) long) refl in
    let piece : new ≡ joined_bytes (get_or aggs i Count) (slot i old) (slot i from) = rw there at (rw (ek, inv) at made) in
    let last = combined-more (take i aggs) (get_or aggs i Count) old from in
    rw (ek, inv, piece, take_more aggs i Count lt, last, many)
    (put-slot i (combined (take i aggs) old from) old (joined_bytes (get_or aggs i Count) (slot i old) (slot i from)) long)

-- a value of one number is joined whole
pub one_joined : (aggs : List Agg) (old from new : List ℕ) → length aggs ≡ 1 → length old ≡ 17 → length from ≡ 17 → new ≡ joined_bytes (get_or aggs 0 Count) old from → new ≡ combined aggs old from
one_joined [] old from new one long long_from made = absurd (omega arith)
one_joined (agg ∷ []) old from new one long long_from made =
    let first : take 17 old ≡ old = take_all 17 old (omega arith) in
    let second : take 17 from ≡ from = take_all 17 from (omega arith) in
    rw (first, second) (made ∙ sym (append-nil (joined_bytes agg old from)))
one_joined (agg ∷ (next ∷ aggs)) old from new one long long_from made = absurd (omega arith)

-- one of two numbers in two steps
pub two_joined : (aggs : List Agg) (old from first second : List ℕ) → length aggs ≡ 2 → length old ≡ 34
    → first ≡ joined_bytes (get_or aggs 0 Count) (take 17 old) (take 17 from)
    → second ≡ joined_bytes (get_or aggs 1 Count) (take 17 (drop 17 (first ++ drop 17 old))) (take 17 (drop 17 from))
    → put_mid 17 17 (first ++ drop 17 old) second ≡ combined aggs old from
two_joined aggs old from first second two long is_first is_second =
    let step = combine-step aggs 0 17 old from old first (omega arith) refl refl is_first in
    let last = combine-step aggs 1 17 old from (first ++ drop 17 old) second (omega arith) refl step is_second in
    let none : drop 34 old ≡ [] = drop_all 34 old (omega arith) in
    let all : take 2 aggs ≡ aggs = take_all 2 aggs (omega arith) in
    last ∙ rw (none, all) (append-nil (combined aggs old from))

-- what adds, adds alike
same_joined : (agg : Agg) (x y : Option ℤ) → adds agg ≡ true → joined Sum x y ≡ joined agg x y
same_joined agg None y sums = refl
same_joined agg (Some x) None sums = refl
same_joined Count (Some x) (Some y) sums = refl
same_joined Sum (Some x) (Some y) sums = refl
same_joined Min (Some x) (Some y) sums = absurd (cc)
same_joined Max (Some x) (Some y) sums = absurd (cc)

pub same_sum : (agg : Agg) (a b : List ℕ) → adds agg ≡ true → joined_bytes Sum a b ≡ joined_bytes agg a b
same_sum agg a b sums = ap partial_of (same_joined agg (partial_in a) (partial_in b) sums)

-- a value of two numbers that are added is joined in two steps
pub two_summed : (aggs : List Agg) (old from first second : List ℕ) → AreTwoSums aggs → length old ≡ 17 * length aggs
    → first ≡ joined_bytes Sum (take 17 old) (take 17 from)
    → second ≡ joined_bytes Sum (take 17 (drop 17 (first ++ drop 17 old))) (take 17 (drop 17 from))
    → put_mid 17 17 (first ++ drop 17 old) second ≡ combined aggs old from
two_summed [] old from first second two long is_first is_second = absurd (let many = ap length two in omega arith)
two_summed (x ∷ []) old from first second two long is_first is_second = absurd (let many = ap length two in omega arith)
two_summed (x ∷ (y ∷ [])) old from first second two long is_first is_second =
    two_joined (x ∷ (y ∷ [])) old from first second refl long
    (is_first ∙ same_sum x (take 17 old) (take 17 from) (ap (λ (bs : List Bool). get_or bs 0 true) two))
    (is_second ∙ same_sum y (take 17 (drop 17 (first ++ drop 17 old))) (take 17 (drop 17 from)) (ap (λ (bs : List Bool). get_or bs 1 true) two))
two_summed (x ∷ (y ∷ (z ∷ aggs))) old from first second two long is_first is_second = absurd (let many = ap length two in omega arith)

-- Well-formed values

pub any_sum : (agg : Agg) (bytes : List ℕ) → IsPartial agg bytes → IsPartial Sum bytes
any_sum agg bytes (o, fits, is, suits) = (o, fits, is, tt)

pub length_partial : (agg : Agg) (bytes : List ℕ) → IsPartial agg bytes → length bytes ≡ 17
length_partial agg bytes (o, fits, is, suits) = ap length is ∙ length-partial_of o

pub length_partials : (aggs : List Agg) (value : List ℕ) → ArePartials aggs value → length value ≡ 17 * length aggs
length_partials [] value are = ap length are
length_partials (agg ∷ aggs) value are =
    let first = length_partial agg (take 17 value) are.0 in
    let rest = length_partials aggs (drop 17 value) are.1 in
    omega (arith, first, rest, length-take 17 value, length-drop 17 value)

-- the partial value at a place
pub slot_formed : (aggs : List Agg) (i : ℕ) (value : List ℕ) → i < length aggs → ArePartials aggs value → IsPartial (get_or aggs i Count) (slot i value)
slot_formed [] i value lt are = absurd (omega (arith, lt))
slot_formed (agg ∷ aggs) zero value lt are = are.0
slot_formed (agg ∷ aggs) (suc i) value lt are =
    subst (λ (bytes : List ℕ). IsPartial (get_or aggs i Count) bytes) (slot-more i value) (slot_formed aggs i (drop 17 value) (omega (arith, lt)) are.1)

pub joined_suits : (agg : Agg) (x y : Option ℤ) → Suits agg x → Suits agg (joined agg x y)
joined_suits Count None y suits = absurd suits
joined_suits Count (Some x) None suits = tt
joined_suits Count (Some x) (Some y) suits = tt
joined_suits Sum x y suits = tt
joined_suits Min x y suits = tt
joined_suits Max x y suits = tt

pub read_suits : (agg : Agg) (o : Option ℤ) → Suits agg o → Suits agg (partial_in (partial_of o))
read_suits agg None suits = suits
read_suits Count (Some n) suits = tt
read_suits Sum (Some n) suits = tt
read_suits Min (Some n) suits = tt
read_suits Max (Some n) suits = tt

-- what is still to be joined is as it was
pub slot_left : (aggs : List Agg) (i : ℕ) (old from into : List ℕ) → i < length aggs → into ≡ combined (take i aggs) old from ++ drop (17 * i) old → slot i into ≡ slot i old
slot_left aggs i old from into lt inv =
    let many : length (take i aggs) ≡ i = let t = length-take i aggs in omega arith in
    let long : length (combined (take i aggs) old from) ≡ 17 * i = length-combined (take i aggs) old from ∙ ap (λ (n : ℕ). 17 * n) many in
    rw inv (rw (drop_at (combined (take i aggs) old from) (drop (17 * i) old) (17 * i) long) refl)

-- two that add are two
pub two_long : (aggs : List Agg) → AreTwoSums aggs → length aggs ≡ 2
two_long aggs two = sym (length-map aggs adds) ∙ ap length two

pub sum_at : (aggs : List Agg) (i : ℕ) (value : List ℕ) → i < length aggs → ArePartials aggs value → IsPartial Sum (slot i value)
sum_at aggs i value lt are = any_sum (get_or aggs i Count) (slot i value) (slot_formed aggs i value lt are)

-- the one partial value of a value that has one
pub one_formed : (aggs : List Agg) (value : List ℕ) → length aggs ≡ 1 → length value ≡ 17 → ArePartials aggs value → IsPartial (get_or aggs 0 Count) value
one_formed aggs value one long are =
    let whole : take 17 value ≡ value = take_all 17 value (omega (arith, long)) in
    subst (λ (bytes : List ℕ). IsPartial (get_or aggs 0 Count) bytes) whole (slot_formed aggs 0 value (omega (arith, one)) are)

none_left : (value : List ℕ) → length value ≡ 0 → value ≡ []
none_left [] none = refl
none_left (b ∷ value) none = absurd (omega (arith, none))

-- a value whose parts are all partial values is one
pub all_formed : (aggs : List Agg) (value : List ℕ) → length value ≡ 17 * length aggs → ((k : ℕ) → k < length aggs → IsPartial (get_or aggs k Count) (slot k value)) → ArePartials aggs value
all_formed [] value long each = none_left value long
all_formed (agg ∷ aggs) value long each = (
  each 0 (omega arith),
  all_formed aggs (drop 17 value) (omega (arith, long, length-drop 17 value)) (λ k lt. subst (λ (bytes : List ℕ). IsPartial (get_or aggs k Count) bytes) (sym (slot-more k value)) (each (suc k) (omega (arith, lt)))),
)
