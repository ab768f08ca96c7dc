-- Pinned blocks fit the region.
use Rattle.std.proofs.Common.{◌≡◌, ◌≢◌, ℕ, zero, suc, ◌+◌, ◌*◌, ◌≤◌, ◌<◌, Bool, true, false, cond, not, ◌&&◌, Option, Some, None, List, [], ◌∷◌, ◌++◌, sum_by, refl, ap, ◌∙◌, arith, inl, inr}
use Rattle.std.specs.List.{filter}
use Rattle.std.specs.Prelude.{nat_eq}
use Rattle.std.proofs.Math.Nat.{mul-div-le, mul-le-mul_left}
use Rattle.std.proofs.lemmas.List.Sums.{sum_by-cons}
use Rattle.std.proofs.lemmas.List.Filters.{sum_by-filter_both}
use Rattle.std.proofs.lemmas.Bool.{cases_Bool, cases_eq, ltb-true, lt-ltb, eq-eqb, cond-true, cond-false}
use Rattle.std.proofs.lemmas.Bool.Decides.{nat_tests}
use Rattle.pool_ledger.specs.declared.entry.Event.{Event}
use Rattle.pool_ledger.specs.declared.entry.Event.TheVariants.{Evict, Admit, Pin, Unpin, Remove}
use Rattle.pool_ledger.specs.Sizes.{Sizes, block_limit_of}
use Rattle.pool_ledger.specs.History.{History, total}
use Rattle.pool_ledger.specs.Blocks.{Name, Resident, is_block, without, only, residents, residents_after, sizes, stored, pin_of, unpin_of, is_pinned, is_excepted, pin_after, worker_pin, evictable}
use Rattle.pool_ledger.specs.Legal.{MayCome, IsPermitted}
use Rattle.pool_ledger.proofs.Sums.{sum_by-change}
use Rattle.pool_ledger.proofs.Tasks.{entry_of}
use Rattle.pool_laws.specs.Laws.{PinsKeep, pinned_bytes}
use Rattle.pool_laws.proofs.Active.{below, below_distinct, below_present}
use Rattle.pool_ledger.proofs.Residents.{AreDifferent, different}
use Rattle.pool_laws.proofs.Passing.{Holds, holds, after_admission}

-- 1 where the pin is of this block
abbrev name_mark : ℕ → ℕ → Option Name → ℕ
name_mark d p None = 0
name_mark d p (Some n) = cond (nat_eq d n.dataset && nat_eq p n.part) 1 0

abbrev pin_mark : History → ℕ → ℕ → ℕ → ℕ
pin_mark h d p w = name_mark d p (worker_pin h w)

own_pin : (h : History) (v : ℕ) (e : Event) → worker_pin (entry_of v e ∷ h) v ≡ pin_after e (worker_pin h v)
own_pin h v e = rw (eq-eqb v v refl) refl

pin_mark-other : (h : History) (v : ℕ) (e : Event) (d p w : ℕ) → w ≢ v → pin_mark (entry_of v e ∷ h) d p w ≡ pin_mark h d p w
pin_mark-other h v e d p w n = let skip : worker_pin (entry_of v e ∷ h) w ≡ worker_pin h w = grind (arith, nat_tests, n) in ap (name_mark d p) skip

-- what an event of a worker changes
marks-more : (s : Sizes) (h : History) (v : ℕ) (e : Event) (d p : ℕ) → v < s.workers → sum_by (pin_mark (entry_of v e ∷ h) d p) (below s.workers) + pin_mark h d p v ≡ sum_by (pin_mark h d p) (below s.workers) + pin_mark (entry_of v e ∷ h) d p v
marks-more s h v e d p known = sum_by-change (pin_mark h d p) (pin_mark (entry_of v e ∷ h) d p) v (below s.workers) (below_distinct s.workers) (below_present s.workers v known) (pin_mark-other h v e d p)

-- the pins that aren't taken back are those of workers
abbrev PinsAreKept : Sizes → History → Type 0
PinsAreKept s h = (d p : ℕ) → total (pin_of d p) h ≡ total (unpin_of d p) h + sum_by (pin_mark h d p) (below s.workers)

pins-stay : (s : Sizes) (h : History) (v : ℕ) (e : Event) → v < s.workers → ((d p : ℕ) → pin_of d p e ≡ 0) → ((d p : ℕ) → unpin_of d p e ≡ 0) → pin_after e (worker_pin h v) ≡ worker_pin h v → PinsAreKept s h → PinsAreKept s (entry_of v e ∷ h)
pins-stay s h v e known pins unpins same before d p =
    omega (arith, before d p, pins d p, unpins d p, marks-more s h v e d p known, ap (name_mark d p) (own_pin h v e ∙ same))

pins-more : (s : Sizes) (h : History) (v : ℕ) (e : Event) → v < s.workers → MayCome s h v e → PinsAreKept s h → PinsAreKept s (entry_of v e ∷ h)
pins-more s h v (Pin d p true) known can before = pins-stay s h v (Pin d p true) known (λ _ _. refl) (λ _ _. refl) refl before
pins-more s h v (Pin d p false) known can before = λ d' p'.
    let new = ap (name_mark d' p') (own_pin h v (Pin d p false)) in
    let old = ap (name_mark d' p') can.2 in
    omega (arith, before d' p', marks-more s h v (Pin d p false) d' p' known, new, old)
pins-more s h v (Unpin d p) known can before = λ d' p'.
    let new = ap (name_mark d' p') (own_pin h v (Unpin d p)) in
    let old = ap (name_mark d' p') can.1 in
    omega (arith, before d' p', marks-more s h v (Unpin d p) d' p' known, new, old)
pins-more s h v e known can before = pins-stay s h v e known (λ _ _. refl) (λ _ _. refl) refl before

no_marks : (d p n : ℕ) → sum_by (pin_mark [] d p) (below n) ≡ 0
no_marks d p zero = refl
no_marks d p (suc n) = omega (arith, sum_by-cons (pin_mark [] d p) n (below n), no_marks d p n)

pins_are_kept : (s : Sizes) (h : History) → IsPermitted s h → PinsAreKept s h
pins_are_kept s [] perm = λ d p. omega (arith, no_marks d p s.workers)
pins_are_kept s (entry ∷ h) perm = pins-more s h entry.worker entry.event perm.1.worker_known perm.1.event (pins_are_kept s h perm.0)

-- a pinned block is some worker's pin
pinned_marks : (s : Sizes) (h : History) (d p : ℕ) → IsPermitted s h → is_pinned h d p ≡ true → 1 ≤ sum_by (pin_mark h d p) (below s.workers)
pinned_marks s h d p perm pinned = omega (arith, pins_are_kept s h perm d p, ltb-true (total (unpin_of d p) h) (total (pin_of d p) h) pinned)

-- one worker's mark is part of the sum
mark_below : (h : History) (d p w n : ℕ) → w < n → pin_mark h d p w ≤ sum_by (pin_mark h d p) (below n)
mark_below h d p w zero known = absurd (omega arith)
mark_below h d p w (suc n) known = elim (cases_eq w n) [
  | inl last ↦ omega (arith, sum_by-cons (pin_mark h d p) n (below n), ap (λ (v : ℕ). pin_mark h d p v) last)
  | inr apart ↦ omega (arith, sum_by-cons (pin_mark h d p) n (below n), mark_below h d p w n (omega arith))
]

-- a worker's pin keeps its block
pub pins_keep : (s : Sizes) (h : History) → IsPermitted s h → PinsKeep s h
pins_keep s h perm w d p known its =
    let one : pin_mark h d p w ≡ 1 = ap (name_mark d p) its ∙ rw (eq-eqb d d refl, eq-eqb p p refl) refl in
    lt-ltb (total (unpin_of d p) h) (total (pin_of d p) h) (omega (arith, pins_are_kept s h perm d p, mark_below h d p w s.workers known, one))

-- a block has at most a pin of each worker
few_marks : (h : History) (d p n : ℕ) → sum_by (pin_mark h d p) (below n) ≤ n
few_marks h d p zero = omega arith
few_marks h d p (suc n) = omega (arith, sum_by-cons (pin_mark h d p) n (below n), one_mark (worker_pin h n), few_marks h d p n)
  where
    at_most : (b : Bool) → cond {A = ℕ} b 1 0 ≤ 1
    at_most true = omega arith
    at_most false = omega arith

    one_mark : (pin : Option Name) → name_mark d p pin ≤ 1
    one_mark None = omega arith
    one_mark (Some n) = at_most (nat_eq d n.dataset && nat_eq p n.part)

pub pins_few : (s : Sizes) (h : History) (d p : ℕ) → IsPermitted s h → total (pin_of d p) h ≤ total (unpin_of d p) h + s.workers
pins_few s h d p perm = omega (arith, pins_are_kept s h perm d p, few_marks h d p s.workers)

-- Sizes

-- no block is larger than this
abbrev pub AreSmall : ℕ → List Resident → Type 0
AreSmall limit [] = Unit {0}
AreSmall limit (b ∷ blocks) = (b.size ≤ limit) × AreSmall limit blocks

small-filter : (limit : ℕ) (q : Resident → Bool) (xs : List Resident) → AreSmall limit xs → AreSmall limit (filter q xs)
small-filter limit q [] small = tt
small-filter limit q (x ∷ xs) small = elim (cases_Bool (q x)) [
  | inl holds ↦ rw (cond-true (q x) (x ∷ filter q xs) (filter q xs) holds) (small.0, small-filter limit q xs small.1)
  | inr fails ↦ rw (cond-false (q x) (x ∷ filter q xs) (filter q xs) fails) (small-filter limit q xs small.1)
]

small-append : (limit : ℕ) (xs ys : List Resident) → AreSmall limit xs → AreSmall limit ys → AreSmall limit (xs ++ ys)
small-append limit [] ys one two = two
small-append limit (x ∷ xs) ys one two = (one.0, small-append limit xs ys one.1 two)

small-more : (s : Sizes) (h : History) (v : ℕ) (e : Event) → Holds s h → MayCome s h v e → AreSmall (block_limit_of s) (residents h) → AreSmall (block_limit_of s) (residents_after e (residents h))
small-more s h v (Evict d p size fate) held can small = small-filter (block_limit_of s) (λ b. not (is_block d p b)) (residents h) small
small-more s h v (Remove d p size) held can small = small-filter (block_limit_of s) (λ b. not (is_block d p b)) (residents h) small
small-more s h v (Admit d p size level borrowed evictions) held can small =
    let after = after_admission s h d p size borrowed evictions true held.recorded held.never held.before can in
    small-append (block_limit_of s) (residents h) (record { dataset = d; part = p; size = size; level = level } ∷ []) small (after.small refl, tt)
small-more s h v (Pin d p true) held can small = small
small-more s h v (Pin d p false) held can small = small-append (block_limit_of s) (without d p (residents h)) (only d p (residents h)) (small-filter (block_limit_of s) (λ b. not (is_block d p b)) (residents h) small) (small-filter (block_limit_of s) (is_block d p) (residents h) small)
small-more s h v _ held can small = small

are_small : (s : Sizes) (h : History) → s.region ≤ s.maximum → IsPermitted s h → AreSmall (block_limit_of s) (residents h)
are_small s [] region perm = tt
are_small s (entry ∷ h) region perm = small-more s h entry.worker entry.event (holds s h region perm.0) perm.1.event (are_small s h region perm.0)

-- The sizes of pinned blocks

abbrev size_of : Resident → ℕ
size_of block = block.size

abbrev pinned_by : History → Resident → Bool
pinned_by h b = is_pinned h b.dataset b.part

-- the marks of these workers on these blocks
abbrev marks_of : History → List ℕ → Resident → ℕ
marks_of h workers b = sum_by (pin_mark h b.dataset b.part) workers

sizes-pinned : (s : Sizes) (h : History) (xs : List Resident) → IsPermitted s h → AreSmall (block_limit_of s) xs → sizes (filter (pinned_by h) xs) ≤ block_limit_of s * sum_by (marks_of h (below s.workers)) xs
sizes-pinned s h [] perm small = omega arith
sizes-pinned s h (x ∷ xs) perm small =
    let limit = block_limit_of s in
    let marks = marks_of h (below s.workers) in
    let later = sizes-pinned s h xs perm small.1 in
    let all : limit * sum_by marks (x ∷ xs) ≡ limit * marks x + limit * sum_by marks xs = omega (arith, ap (λ v. limit * v) (sum_by-cons marks x xs)) in
    elim (cases_Bool (pinned_by h x)) [
      | inl holds ↦
          let one : limit * 1 ≤ limit * marks x = mul-le-mul_left limit (pinned_marks s h x.dataset x.part perm holds) in
          rw (cond-true (pinned_by h x) (x ∷ filter (pinned_by h) xs) (filter (pinned_by h) xs) holds) (omega (arith, sum_by-cons size_of x (filter (pinned_by h) xs), later, all, one, small.0))
      | inr fails ↦ rw (cond-false (pinned_by h x) (x ∷ filter (pinned_by h) xs) (filter (pinned_by h) xs) fails) (omega (arith, later, all))
    ]

-- a worker's pin is of one block at most
no_sum : (xs : List Resident) → sum_by (λ (b : Resident). 0) xs ≡ 0
no_sum [] = refl
no_sum (x ∷ xs) = omega (arith, sum_by-cons (λ (b : Resident). 0) x xs, no_sum xs)

free_or_pinned : (b : Bool) → b ≡ not (not b && true)
free_or_pinned true = refl
free_or_pinned false = refl

one_block : (o : Option Name) (xs : List Resident) → AreDifferent xs → sum_by (λ (b : Resident). name_mark b.dataset b.part o) xs ≤ 1
one_block None xs differ = omega (arith, no_sum xs)
one_block (Some n) xs differ = differ n.dataset n.part

sum_by-both : (f g both : Resident → ℕ) (xs : List Resident) → ((x : Resident) → both x ≡ f x + g x) → sum_by both xs ≡ sum_by f xs + sum_by g xs
sum_by-both f g both [] each = refl
sum_by-both f g both (x ∷ xs) each = omega (arith, sum_by-cons f x xs, sum_by-cons g x xs, sum_by-cons both x xs, sum_by-both f g both xs each, each x)

-- so are the marks of n workers at most n
marks_few : (h : History) (xs : List Resident) (n : ℕ) → AreDifferent xs → sum_by (marks_of h (below n)) xs ≤ n
marks_few h xs zero differ = omega (arith, no_sum xs)
marks_few h xs (suc n) differ =
    omega (arith, sum_by-both (λ (b : Resident). pin_mark h b.dataset b.part n) (marks_of h (below n)) (marks_of h (n ∷ below n)) xs (λ b. sum_by-cons (pin_mark h b.dataset b.part) n (below n)), one_block (worker_pin h n) xs differ, marks_few h xs n differ)

-- pinned blocks fit the region
pub pinned_fit : (s : Sizes) (h : History) → s.region ≤ s.maximum → IsPermitted s h → pinned_bytes h ≤ s.region
pinned_fit s h region perm =
    let held = holds s h region perm in
    let limit = block_limit_of s in
    let pinned = sizes-pinned s h (residents h) perm (are_small s h region perm) in
    let few : limit * sum_by (marks_of h (below s.workers)) (residents h) ≤ limit * s.workers = mul-le-mul_left limit (marks_few h (residents h) s.workers (different s h held.recorded)) in
    let all : s.workers * limit ≤ s.region = mul-div-le s.region s.workers in
    omega (arith, pinned, few, all)

-- so do the blocks that can't be evicted
pub pins_fit : (s : Sizes) (h : History) → s.region ≤ s.maximum → IsPermitted s h → stored h ≤ s.region + sizes (evictable h None)
pins_fit s h region perm =
    let both = sum_by-filter_both (λ (b : Resident). not (is_pinned h b.dataset b.part) && not (is_excepted None b.dataset)) (pinned_by h) (λ b. free_or_pinned (pinned_by h b)) size_of (residents h) in
    omega (arith, pinned_fit s h region perm, both)
