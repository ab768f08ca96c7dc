-- Keys stand in the order of their numbers.
use Rattle.std.proofs.Common.{◌≡◌, ◌<◌, ◌≤◌, ◌+◌, ◌-◌, ◌*◌, ◌/◌, ◌%◌, ◌^◌, ◌++◌, ◌∙◌, ℕ, zero, suc, List, map, refl, sym, ap, arith, ℤ, pos, ◌+ℤ◌, ◌<ℤ◌, unsigned_abs}
use Rattle.std.proofs.Math.Nat.{add-mul, add_assoc, div-add-mod', div-one, mod-eq_of_lt, mod-lt, mul-add-mod_self_right, mul-le-mul_right, mul_assoc, one-le-pow, pow-succ'}
use Rattle.std.proofs.lemmas.Int.{ints}
use Rattle.std.specs.Int.{byte_at, bytes_high_first, w64}
use Rattle.std.specs.Int.RustNames.{FitsSigned}
use Rattle.std.specs.Ordering.{MatchOrdering, int_cmp, nat_cmp, ordering_then}
use Rattle.std.specs.Cmp.{int_ranked, nat_cmp_is, ranked}
use Rattle.std.specs.Cmp.Lexicographic.{slice_cmp}
use Rattle.std.specs.declared.cmp.Ordering.{Ordering}
use Rattle.std.specs.declared.cmp.Ordering.TheVariants.{Less, Equal, Greater}
use Rattle.aggregate.specs.Spelling.{NumbersInOrder, number_spelling}
use Rattle.aggregate.proofs.KeyOrder.{then-then}

-- ---- two numbers compare as their digits to a base, the greater digit first

digits-ranked : (m a b r s : ℕ) (o t : Ordering) → r < m → s < m → MatchOrdering o (a < b) (a ≡ b) (b < a) → MatchOrdering t (r < s) (r ≡ s) (s < r)
    → MatchOrdering (ordering_then o t) (a * m + r < b * m + s) (a * m + r ≡ b * m + s) (b * m + s < a * m + r)
digits-ranked m a b r s Less t small_r small_s less low =
    let step : (a + 1) * m ≤ b * m = mul-le-mul_right m (omega arith) in
    let more : (a + 1) * m ≡ a * m + 1 * m = add-mul a 1 m in
    omega arith
digits-ranked m a b r s Equal Less small_r small_s same low = let e = ap (λ (n : ℕ). n * m) same in omega arith
digits-ranked m a b r s Equal Equal small_r small_s same low = let e = ap (λ (n : ℕ). n * m) same in omega arith
digits-ranked m a b r s Equal Greater small_r small_s same low = let e = ap (λ (n : ℕ). n * m) same in omega arith
digits-ranked m a b r s Greater t small_r small_s more low =
    let step : (b + 1) * m ≤ a * m = mul-le-mul_right m (omega arith) in
    let next : (b + 1) * m ≡ b * m + 1 * m = add-mul b 1 m in
    omega arith

pub digits-order : (m a b r s : ℕ) → r < m → s < m → ordering_then (nat_cmp a b) (nat_cmp r s) ≡ nat_cmp (a * m + r) (b * m + s)
digits-order m a b r s small_r small_s =
    nat_cmp_is (a * m + r) (b * m + s) (ordering_then (nat_cmp a b) (nat_cmp r s))
    (digits-ranked m a b r s (nat_cmp a b) (nat_cmp r s) small_r small_s (ranked a b (nat_cmp a b) refl) (ranked r s (nat_cmp r s) refl))

-- ---- the bytes of a number are its digits to the base 256

byte_at-pow : (k x : ℕ) → byte_at k x ≡ x / 256 ^ k % 256
byte_at-pow zero x = ap (λ (y : ℕ). y % 256) (sym (div-one x))
byte_at-pow (suc k) x = refl

pub byte-small : (k x : ℕ) → byte_at k x < 256
byte-small k x = rw (byte_at-pow k x) (mod-lt (x / 256 ^ k) (omega arith))

some-pow : (n : ℕ) → 0 < 256 ^ n
some-pow n = let least = one-le-pow n 256 (omega arith) in omega arith

-- the two low digits of x, to the bases c and then m
low-digits : (x m c : ℕ) → 0 < m → 0 < c → x % (m * c) ≡ (x / c % m) * c + x % c
low-digits x m c some_m some_c =
    let high = mod-lt (x / c) some_m in
    let low = mod-lt x some_c in
    let top : (x / c % m + 1) * c ≤ m * c = mul-le-mul_right c (omega arith) in
    let more : (x / c % m + 1) * c ≡ x / c % m * c + 1 * c = add-mul (x / c % m) 1 c in
    let split : x ≡ x / c / m * (m * c) + (x / c % m * c + x % c) =
    sym (div-add-mod' x c)
    ∙ ap (λ (y : ℕ). y * c + x % c) (sym (div-add-mod' (x / c) m))
    ∙ ap (λ (y : ℕ). y + x % c) (add-mul (x / c / m * m) (x / c % m) c ∙ ap (λ (y : ℕ). y + x / c % m * c) (mul_assoc (x / c / m) m c))
    ∙ add_assoc (x / c / m * (m * c)) (x / c % m * c) (x % c) in
    ap (λ (y : ℕ). y % (m * c)) split ∙ mul-add-mod_self_right (x / c / m) (m * c) (x / c % m * c + x % c) ∙ mod-eq_of_lt (omega arith)

low-more : (n x : ℕ) → x % 256 ^ suc n ≡ byte_at n x * 256 ^ n + x % 256 ^ n
low-more n x = rw (byte_at-pow n x, pow-succ' 256 n) (low-digits x 256 (256 ^ n) (omega arith) (some-pow n))

bytes-compare : (n p q : ℕ) → ordering_then (nat_cmp (byte_at n p) (byte_at n q)) (nat_cmp (p % 256 ^ n) (q % 256 ^ n)) ≡ nat_cmp (p % 256 ^ suc n) (q % 256 ^ suc n)
bytes-compare n p q =
    rw (low-more n p, low-more n q)
    (digits-order (256 ^ n) (byte_at n p) (byte_at n q) (p % 256 ^ n) (q % 256 ^ n) (mod-lt p (some-pow n)) (mod-lt q (some-pow n)))

same-ordering : (a b : ℕ) → a ≡ b → nat_cmp a b ≡ Equal
same-ordering a b same = sym (nat_cmp_is a b Equal same)

pub upward : (n p q : ℕ) (x y : List ℕ) → slice_cmp nat_cmp (bytes_high_first n p ++ x) (bytes_high_first n q ++ y) ≡ ordering_then (nat_cmp (p % 256 ^ n) (q % 256 ^ n)) (slice_cmp nat_cmp x y)
upward zero p q x y = rw (same-ordering (p % 256 ^ 0) (q % 256 ^ 0) (omega arith)) refl
upward (suc n) p q x y =
    ap (ordering_then (nat_cmp (byte_at n p) (byte_at n q))) (upward n p q x y)
    ∙ then-then (nat_cmp (byte_at n p) (byte_at n q)) (nat_cmp (p % 256 ^ n) (q % 256 ^ n)) (slice_cmp nat_cmp x y)
    ∙ ap (λ (o : Ordering). ordering_then o (slice_cmp nat_cmp x y)) (bytes-compare n p q)

-- ---- turned round

turned-ranked : (a b : ℕ) (o : Ordering) → a < 256 → b < 256 → MatchOrdering o (b < a) (b ≡ a) (a < b) → MatchOrdering o (255 - a < 255 - b) (255 - a ≡ 255 - b) (255 - b < 255 - a)
turned-ranked a b Less small_a small_b h = omega arith
turned-ranked a b Equal small_a small_b h = omega arith
turned-ranked a b Greater small_a small_b h = omega arith

turned-order : (a b : ℕ) → a < 256 → b < 256 → nat_cmp (255 - a) (255 - b) ≡ nat_cmp b a
turned-order a b small_a small_b =
    sym (nat_cmp_is (255 - a) (255 - b) (nat_cmp b a) (turned-ranked a b (nat_cmp b a) small_a small_b (ranked b a (nat_cmp b a) refl)))

pub downward : (n p q : ℕ) (x y : List ℕ)
    → slice_cmp nat_cmp (map (λ b. 255 - b) (bytes_high_first n p) ++ x) (map (λ b. 255 - b) (bytes_high_first n q) ++ y) ≡ ordering_then (nat_cmp (q % 256 ^ n) (p % 256 ^ n)) (slice_cmp nat_cmp x y)
downward zero p q x y = rw (same-ordering (q % 256 ^ 0) (p % 256 ^ 0) (omega arith)) refl
downward (suc n) p q x y =
    ap (λ (o : Ordering). ordering_then o (slice_cmp nat_cmp (map (λ b. 255 - b) (bytes_high_first n p) ++ x) (map (λ b. 255 - b) (bytes_high_first n q) ++ y)))
    (turned-order (byte_at n p) (byte_at n q) (byte-small n p) (byte-small n q))
    ∙ ap (ordering_then (nat_cmp (byte_at n q) (byte_at n p))) (downward n p q x y)
    ∙ then-then (nat_cmp (byte_at n q) (byte_at n p)) (nat_cmp (q % 256 ^ n) (p % 256 ^ n)) (slice_cmp nat_cmp x y)
    ∙ ap (λ (o : Ordering). ordering_then o (slice_cmp nat_cmp x y)) (bytes-compare n q p)

-- ---- a number of 64 bits, raised by 2^63

abbrev raised : ℤ → ℕ
raised n = unsigned_abs (n +ℤ pos (2 ^ 63))

raised-small : (n : ℤ) → FitsSigned w64 n → raised n < 256 ^ 8
raised-small n fits = omega (arith, ints)

raised-ranked : (a b : ℤ) (o : Ordering) → FitsSigned w64 a → FitsSigned w64 b → MatchOrdering o (a <ℤ b) (a ≡ b) (b <ℤ a)
    → MatchOrdering o (raised a < raised b) (raised a ≡ raised b) (raised b < raised a)
raised-ranked a b Less fits_a fits_b h = omega (arith, ints)
raised-ranked a b Equal fits_a fits_b h = ap raised h
raised-ranked a b Greater fits_a fits_b h = omega (arith, ints)

raised-order : (a b : ℤ) → FitsSigned w64 a → FitsSigned w64 b → nat_cmp (raised a % 256 ^ 8) (raised b % 256 ^ 8) ≡ int_cmp a b
raised-order a b fits_a fits_b =
    let small_a = mod-eq_of_lt (raised-small a fits_a) in
    let small_b = mod-eq_of_lt (raised-small b fits_b) in
    rw (small_a, small_b)
    (sym (nat_cmp_is (raised a) (raised b) (int_cmp a b) (raised-ranked a b (int_cmp a b) fits_a fits_b (int_ranked a b (int_cmp a b) refl))))

pub numbers_order : NumbersInOrder
unfolding number_spelling
numbers_order = record {
  upward = λ a b x y fits_a fits_b.
      upward 8 (raised a) (raised b) x y ∙ ap (λ (o : Ordering). ordering_then o (slice_cmp nat_cmp x y)) (raised-order a b fits_a fits_b);
  downward = λ a b x y fits_a fits_b.
      downward 8 (raised a) (raised b) x y ∙ ap (λ (o : Ordering). ordering_then o (slice_cmp nat_cmp x y)) (raised-order b a fits_b fits_a);
}
