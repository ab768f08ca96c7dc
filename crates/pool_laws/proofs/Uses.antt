-- The residents stand in use order.
use Rattle.std.proofs.Common.{◌≡◌, ℕ, ◌+◌, ◌≤◌, Bool, true, false, cond, not, ◌&&◌, ◌||◌, List, [], ◌∷◌, ◌++◌, length, get_or, refl, sym, ap, subst, ◌∙◌, arith, inl, inr, ◌⊎◌}
use Rattle.std.specs.List.{list_any, filter, All, AllPairs}
use Rattle.std.specs.Prelude.{nat_eq}
use Rattle.std.proofs.lemmas.List.{append-nil}
use Rattle.std.proofs.lemmas.List.Elements.{All-nil, All-cons, All-head, All-weaker, filter_passes}
use Rattle.std.proofs.lemmas.List.Folds.{list_any-append}
use Rattle.std.proofs.lemmas.List.Kept.{AllPairs-filter}
use Rattle.std.proofs.lemmas.List.Quantifiers.{all_pairs_push}
use Rattle.std.proofs.lemmas.List.Sums.{length-filter}
use Rattle.std.proofs.lemmas.Bool.{cases_Bool, or_parts, and_parts, not-true, eqb-true, eq-eqb, cond-true, cond-false, false≢true}
use Rattle.pool_ledger.specs.declared.entry.Event.{Event}
use Rattle.pool_ledger.specs.declared.entry.Event.TheVariants.{Begin, Attempt, Release, End, Evict, Admit, Refused, Pin, Unpin, Remove, Grow}
use Rattle.pool_ledger.specs.Sizes.{Sizes}
use Rattle.pool_ledger.specs.History.{History}
use Rattle.pool_ledger.specs.Blocks.{Resident, is_block, without, only, residents, is_resident}
use Rattle.pool_ledger.specs.Recorded.{CanCome, IsRecorded}
use Rattle.pool_ledger.proofs.Tasks.{entry_of}
use Rattle.pool_ledger.proofs.Residents.{AreDifferent, different}
use Rattle.pool_laws.specs.UseOrder.{is_use, last_use, is_kept, kept_after, IsUsedBefore, AreInUseOrder}

-- Lists

not_both : (a b : Bool) → (a ≡ true → b ≡ false) → b ≡ true → a ≡ false
not_both true b other holds = absurd (false≢true (sym (other refl) ∙ holds))
not_both false b other holds = refl

none_passes : {X : Type 0} (q : X → Bool) (xs : List X) → list_any q xs ≡ false → All (λ x. q x ≡ false) xs
none_passes q [] none = All-nil (λ x. q x ≡ false)
none_passes q (x ∷ xs) none =
    let parts = or_parts (q x) (list_any q xs) none in
    All-cons (λ y. q y ≡ false) x xs parts.0 (none_passes q xs parts.1)

-- one element at most
few_are : {X : Type 0} (xs : List X) → length xs ≤ 1 → (xs ≡ []) ⊎ ((x : X) × (xs ≡ x ∷ []))
few_are [] few = inl refl
few_are (x ∷ []) few = inr (x, refl)
few_are (x ∷ y ∷ xs) few = absurd (omega arith)

-- Uses

abbrev use_of : History → Resident → ℕ
use_of h b = last_use h b.dataset b.part

use_small : (h : History) (d p : ℕ) → last_use h d p ≤ length h
use_small [] d p = omega arith
use_small (entry ∷ h) d p = elim (cases_Bool (is_use d p entry.event)) [
  | inl used ↦ rw (cond-true {A = ℕ} (is_use d p entry.event) (length h + 1) (last_use h d p) used) (omega arith)
  | inr other ↦ rw (cond-false {A = ℕ} (is_use d p entry.event) (length h + 1) (last_use h d p) other) (omega (arith, use_small h d p))
]

abbrev StandInOrder : History → List Resident → Type 0
StandInOrder h xs = AllPairs (IsUsedBefore h) xs

-- blocks whose uses stay the same stay in order
order-same : (h g : History) (xs : List Resident) → All (λ x. use_of g x ≡ use_of h x) xs → StandInOrder h xs → StandInOrder g xs
order-same h g xs same before i j d ahead below = omega (arith, same i d (omega arith), same j d below, before i j d ahead below)

-- a block that is used now goes last
order-push : (h g : History) (xs : List Resident) (b : Resident) → All (λ x. use_of g x ≡ use_of h x) xs → use_of g b ≡ length h + 1 → StandInOrder h xs → StandInOrder g (xs ++ b ∷ [])
order-push h g xs b same now before =
    all_pairs_push (IsUsedBefore g) xs b (order-same h g xs same before)
    (λ k d below. let x = get_or xs k d in omega (arith, same k d below, now, use_small h x.dataset x.part))

-- the uses of other blocks stay the same
others_same : (h : History) (v : ℕ) (e : Event) (xs : List Resident) → All (λ (x : Resident). is_use x.dataset x.part e ≡ false) xs → All (λ x. use_of (entry_of v e ∷ h) x ≡ use_of h x) xs
others_same h v e xs others = All-weaker (λ (x : Resident). is_use x.dataset x.part e ≡ false) (λ x. use_of (entry_of v e ∷ h) x ≡ use_of h x) (λ x other. cond-false {A = ℕ} (is_use x.dataset x.part e) (length h + 1) (use_of h x) other) xs others

used_now : (h : History) (v : ℕ) (e : Event) (d p : ℕ) → is_use d p e ≡ true → last_use (entry_of v e ∷ h) d p ≡ length h + 1
used_now h v e d p used = cond-true {A = ℕ} (is_use d p e) (length h + 1) (last_use h d p) used

itself : (d p : ℕ) → (nat_eq d d && nat_eq p p) ≡ true
itself d p = rw (eq-eqb d d refl, eq-eqb p p refl) refl

-- the block of this name, where it is in memory, is moved to the end
order-last : (h : History) (v d p : ℕ) → AreDifferent (residents h) → StandInOrder h (residents h) → StandInOrder (entry_of v (Pin d p false) ∷ h) (without d p (residents h) ++ only d p (residents h))
order-last h v d p differ before =
    let e = Pin d p false in
    let xs = residents h in
    let others : All (λ x. is_block d p x ≡ false) (without d p xs) = All-weaker (λ x. not (is_block d p x) ≡ true) (λ x. is_block d p x ≡ false) (λ x passes. not-true (is_block d p x) passes) (without d p xs) (filter_passes (λ x. not (is_block d p x)) xs) in
    let same = others_same h v e (without d p xs) others in
    let rest : StandInOrder h (without d p xs) = AllPairs-filter (IsUsedBefore h) (λ x. not (is_block d p x)) xs before in
    elim (few_are (only d p xs) (omega (arith, differ d p, length-filter (is_block d p) xs))) [
      | inl none ↦ rw (none, append-nil (without d p xs)) (order-same h (entry_of v e ∷ h) (without d p xs) same rest)
      | inr one ↦
          let passes : is_block d p one.0 ≡ true = All-head (λ x. is_block d p x ≡ true) one.0 [] (subst (All (λ x. is_block d p x ≡ true)) one.1 (filter_passes (is_block d p) xs)) in
          rw one.1 (order-push h (entry_of v e ∷ h) (without d p xs) one.0 same (used_now h v e one.0.dataset one.0.part passes) rest)
    ]

order-more : (s : Sizes) (h : History) (v : ℕ) (e : Event) → IsRecorded s h → CanCome s h v e → StandInOrder h (residents h) → StandInOrder (entry_of v e ∷ h) (residents (entry_of v e ∷ h))
order-more s h v (Begin task) r can before = before
order-more s h v (Attempt task asked moved evictions got) r can before = before
order-more s h v (Release task freed) r can before = before
order-more s h v (End task freed) r can before = before
order-more s h v (Evict d p size fate) r can before = AllPairs-filter (IsUsedBefore h) (λ x. not (is_block d p x)) (residents h) before
order-more s h v (Remove d p size) r can before = AllPairs-filter (IsUsedBefore h) (λ x. not (is_block d p x)) (residents h) before
order-more s h v (Admit d p size level borrowed evictions) r can before =
    let e = Admit d p size level borrowed evictions in
    let b : Resident = record { dataset = d; part = p; size = size; level = level } in
    order-push h (entry_of v e ∷ h) (residents h) b (others_same h v e (residents h) (none_passes (is_block d p) (residents h) can.absent)) (used_now h v e d p (itself d p)) before
order-more s h v (Refused d p size borrowed evictions) r can before = before
order-more s h v (Pin d p true) r can before = before
order-more s h v (Pin d p false) r can before = order-last h v d p (different s h r) before
order-more s h v (Unpin d p) r can before = before
order-more s h v (Grow bytes) r can before = before

in_order : (s : Sizes) (h : History) → IsRecorded s h → StandInOrder h (residents h)
in_order s [] r = λ i j d ahead below. absurd (omega arith)
in_order s (entry ∷ h) r = order-more s h entry.worker entry.event r.0 r.1.event_fits (in_order s h r.0)

-- Which blocks are in memory

-- a test of a block that is put out, or stays
any-without : (q r : Resident → Bool) (xs : List Resident) → ((x : Resident) → q x ≡ true → r x ≡ false) → list_any q (filter (λ x. not (r x)) xs) ≡ list_any q xs
any-without q r [] other = refl
any-without q r (x ∷ xs) other = elim (cases_Bool (r x)) [
  | inl gone ↦
      let rest : filter (λ y. not (r y)) (x ∷ xs) ≡ filter (λ y. not (r y)) xs = cond-false (not (r x)) (x ∷ filter (λ y. not (r y)) xs) (filter (λ y. not (r y)) xs) (ap not gone) in
      let skips : q x ≡ false = not_both (q x) (r x) (other x) gone in
      ap (list_any q) rest ∙ any-without q r xs other ∙ sym (ap (λ b. b || list_any q xs) skips)
  | inr stays ↦
      let rest : filter (λ y. not (r y)) (x ∷ xs) ≡ x ∷ filter (λ y. not (r y)) xs = cond-true (not (r x)) (x ∷ filter (λ y. not (r y)) xs) (filter (λ y. not (r y)) xs) (ap not stays) in
      ap (list_any q) rest ∙ ap (λ b. q x || b) (any-without q r xs other)
]

none-without : (q : Resident → Bool) (xs : List Resident) → list_any q (filter (λ x. not (q x)) xs) ≡ false
none-without q [] = refl
none-without q (x ∷ xs) = elim (cases_Bool (q x)) [
  | inl gone ↦ ap (list_any q) (cond-false (not (q x)) (x ∷ filter (λ y. not (q y)) xs) (filter (λ y. not (q y)) xs) (ap not gone)) ∙ none-without q xs
  | inr stays ↦ ap (list_any q) (cond-true (not (q x)) (x ∷ filter (λ y. not (q y)) xs) (filter (λ y. not (q y)) xs) (ap not stays)) ∙ ap (λ b. b || list_any q (filter (λ y. not (q y)) xs)) stays ∙ none-without q xs
]

or_assoc : (a b c : Bool) → ((a || b) || c) ≡ (a || (b || c))
or_assoc true b c = refl
or_assoc false b c = refl

swap_or : (a b c : Bool) → (a || (b || c)) ≡ (b || (a || c))
swap_or true true c = refl
swap_or true false c = refl
swap_or false true c = refl
swap_or false false c = refl

-- a list split by a test has the same blocks
any-both : (q r : Resident → Bool) (xs : List Resident) → (list_any q (filter (λ x. not (r x)) xs) || list_any q (filter r xs)) ≡ list_any q xs
any-both q r [] = refl
any-both q r (x ∷ xs) =
    let out = filter (λ y. not (r y)) xs in
    let keep = filter r xs in
    elim (cases_Bool (r x)) [
      | inl holds ↦
          rw (cond-true (r x) (x ∷ keep) keep holds, cond-false (not (r x)) (x ∷ out) out (ap not holds))
          (swap_or (list_any q out) (q x) (list_any q keep) ∙ ap (λ b. q x || b) (any-both q r xs))
      | inr fails ↦
          rw (cond-false (r x) (x ∷ keep) keep fails, cond-true (not (r x)) (x ∷ out) out (ap not fails))
          (or_assoc (q x) (list_any q out) (list_any q keep) ∙ ap (λ b. q x || b) (any-both q r xs))
    ]

-- another name is another block
other_block : (d p d' p' : ℕ) → (nat_eq d' d && nat_eq p' p) ≡ false → (x : Resident) → is_block d p x ≡ true → is_block d' p' x ≡ false
other_block d p d' p' other x is = elim (cases_Bool (is_block d' p' x)) [
  | inl both ↦
      let one = and_parts (nat_eq x.dataset d) (nat_eq x.part p) is in
      let two = and_parts (nat_eq x.dataset d') (nat_eq x.part p') both in
      let same_d : d' ≡ d = sym (eqb-true x.dataset d' two.0) ∙ eqb-true x.dataset d one.0 in
      let same_p : p' ≡ p = sym (eqb-true x.part p' two.1) ∙ eqb-true x.part p one.1 in
      let same : (nat_eq d' d && nat_eq p' p) ≡ true = rw (eq-eqb d' d same_d, eq-eqb p' p same_p) refl in
      absurd (false≢true (sym other ∙ same))
  | inr apart ↦ apart
]

-- after a block was put out
kept-without : (d p d' p' : ℕ) (xs : List Resident) (was : Bool) → list_any (is_block d p) xs ≡ was → list_any (is_block d p) (without d' p' xs) ≡ cond (nat_eq d' d && nat_eq p' p) false was
kept-without d p d' p' xs was before = elim (cases_Bool (nat_eq d' d && nat_eq p' p)) [
  | inl same ↦
      let names = and_parts (nat_eq d' d) (nat_eq p' p) same in
      let gone : list_any (is_block d' p') (without d' p' xs) ≡ false = none-without (is_block d' p') xs in
      let here : list_any (is_block d p) (without d' p' xs) ≡ false = subst (λ v. list_any (is_block d v) (without d' p' xs) ≡ false) (eqb-true p' p names.1) (subst (λ v. list_any (is_block v p') (without d' p' xs) ≡ false) (eqb-true d' d names.0) gone) in
      here ∙ sym (cond-true (nat_eq d' d && nat_eq p' p) false was same)
  | inr other ↦ any-without (is_block d p) (is_block d' p') xs (other_block d p d' p' other) ∙ before ∙ sym (cond-false (nat_eq d' d && nat_eq p' p) false was other)
]

or_last : (a b : Bool) → (a || (b || false)) ≡ cond b true a
or_last true true = refl
or_last true false = refl
or_last false true = refl
or_last false false = refl

kept-more : (h : History) (v : ℕ) (e : Event) (d p : ℕ) → is_resident h d p ≡ is_kept h d p → is_resident (entry_of v e ∷ h) d p ≡ kept_after d p e (is_kept h d p)
kept-more h v (Begin task) d p before = before
kept-more h v (Attempt task asked moved evictions got) d p before = before
kept-more h v (Release task freed) d p before = before
kept-more h v (End task freed) d p before = before
kept-more h v (Evict d' p' size fate) d p before = kept-without d p d' p' (residents h) (is_kept h d p) before
kept-more h v (Remove d' p' size) d p before = kept-without d p d' p' (residents h) (is_kept h d p) before
kept-more h v (Admit d' p' size level borrowed evictions) d p before =
    let b : Resident = record { dataset = d'; part = p'; size = size; level = level } in
    list_any-append (is_block d p) (residents h) (b ∷ []) ∙ or_last (is_resident h d p) (nat_eq d' d && nat_eq p' p) ∙ ap (cond (nat_eq d' d && nat_eq p' p) true) before
kept-more h v (Refused d' p' size borrowed evictions) d p before = before
kept-more h v (Pin d' p' true) d p before = before
kept-more h v (Pin d' p' false) d p before =
    list_any-append (is_block d p) (without d' p' (residents h)) (only d' p' (residents h)) ∙ any-both (is_block d p) (is_block d' p') (residents h) ∙ before
kept-more h v (Unpin d' p') d p before = before
kept-more h v (Grow bytes) d p before = before

resident_is_kept : (h : History) (d p : ℕ) → is_resident h d p ≡ is_kept h d p
resident_is_kept [] d p = refl
resident_is_kept (entry ∷ h) d p = kept-more h entry.worker entry.event d p (resident_is_kept h d p)

pub uses_in_order : (s : Sizes) (h : History) → IsRecorded s h → AreInUseOrder h
uses_in_order s h r = record { kept = resident_is_kept h; ordered = in_order s h r }
