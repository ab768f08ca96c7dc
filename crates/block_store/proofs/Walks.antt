-- Numbered slots: what the first that passes tells, the blocks in the order of the slots, and their numbers.
use Rattle.std.proofs.Common.{◌≡◌, ℕ, zero, suc, ◌≤◌, ◌<◌, ◌-◌, ◌^◌, take, Bool, true, false, cond, nat_eq, List, [], ◌∷◌, ◌++◌, map, length, Option, Some, None, refl, sym, ap, ◌∙◌, inl, inr, arith}
use Rattle.std.specs.Prelude.{slice_get}
use Rattle.std.specs.List.{find, IsDistinct}
use Rattle.std.specs.Option.{option_or, option_map_or}
use Rattle.std.specs.Map.{lookup, lookup_entry, remove_entry, set_value, keys_of}
use Rattle.std.specs.Cmp.{nat_eq_equiv}
use Rattle.std.proofs.lemmas.Bool.{cases_Bool, cond-true, cond-false, ne_eqb}
use Rattle.std.proofs.lemmas.Option.{none-some, same_Some}
use Rattle.std.proofs.lemmas.List.{length-append, length-map}
use Rattle.std.proofs.lemmas.List.Folds.{find-append}
use Rattle.std.proofs.lemmas.Map.Entries.{lookup_from_place}
use Rattle.lru.specs.LruCache.{LruCache, put_entries}
use Rattle.block_store.specs.declared.resident.Resident.{Resident}
use Rattle.eviction.specs.declared.candidate.Candidate.{Candidate}
use Rattle.block_store.specs.Stores.{HeldBlock, candidate_of, is_held, held_at}
use Rattle.block_store.specs.Slots.{NumberedSlot, held_in, followed_by, blocks_in, AreBelow, HasBlock}

-- whether a slot has the block of this name
abbrev pub has_block : ℕ → ℕ → Option Resident → Bool
has_block d p None = false
has_block d p (Some resident) = is_held d p (held_in resident)

-- whether it is empty
abbrev pub is_empty : Option Resident → Bool
is_empty None = true
is_empty (Some resident) = false

-- the first slot that passes
abbrev pub first_slot : (Option Resident → Bool) → List NumberedSlot → Option NumberedSlot
first_slot test slots = find (λ slot. test slot.1) slots

-- it passes, and stands at a place
place_of_first : (test : Option Resident → Bool) (slots : List NumberedSlot) (slot : NumberedSlot) → first_slot test slots ≡ Some slot → (i : ℕ) × (slice_get slots i ≡ Some slot) × (test slot.1 ≡ true)
place_of_first test [] slot e = absurd (none-some slot e)
place_of_first test (s ∷ ss) slot e =
    elim (cases_Bool (test s.1)) [
      | inl holds ↦
          let same : s ≡ slot = same_Some s slot (sym (ap (λ b. cond b (Some s) (first_slot test ss)) holds) ∙ e) in
          (0, ap Some same, ap (λ (x : NumberedSlot). test x.1) (sym same) ∙ holds)
      | inr fails ↦
          let later = place_of_first test ss slot (sym (ap (λ b. cond b (Some s) (first_slot test ss)) fails) ∙ e) in
          (suc later.0, later.1, later.2)
    ]

-- by its number a look-up finds it
first_found : (test : Option Resident → Bool) (slots : List NumberedSlot) (number : ℕ) (slot : Option Resident) → IsDistinct nat_eq (keys_of slots) → first_slot test slots ≡ Some (number, slot) → (lookup (nat_eq number) slots ≡ Some slot) × (test slot ≡ true)
first_found test slots number slot apart e =
    let place = place_of_first test slots (number, slot) e in
    (lookup_from_place nat_eq_equiv slots place.0 number slot apart place.1, place.2)

block_found : (d p : ℕ) (slots : List NumberedSlot) (number : ℕ) (resident : Resident) → IsDistinct nat_eq (keys_of slots) → first_slot (has_block d p) slots ≡ Some (number, Some resident) → HasBlock d p number resident slots
block_found d p slots number resident apart e =
    let found = first_found (has_block d p) slots number (Some resident) apart e in
    record { here = found.0; named = found.1 }

-- a walk comes to a slot that passes
pub walk_found : (d p : ℕ) (slots rest left : List NumberedSlot) (number : ℕ) (slot : Option Resident) (resident : Resident) → IsDistinct nat_eq (keys_of slots) → first_slot (has_block d p) rest ≡ first_slot (has_block d p) slots → rest ≡ (number, slot) ∷ left → slot ≡ Some resident → is_held d p (held_in resident) ≡ true → HasBlock d p number resident slots
walk_found d p slots rest left number slot resident apart same at has holds =
    block_found d p slots number resident apart
    (sym same
    ∙ ap (first_slot (has_block d p)) (at ∙ ap (λ (o : Option Resident). (number, o) ∷ left) has)
    ∙ ap (λ b. cond b (Some (number, Some resident)) (first_slot (has_block d p) left)) holds)

pub walk_found_empty : (slots rest left : List NumberedSlot) (number : ℕ) (slot : Option Resident) → IsDistinct nat_eq (keys_of slots) → first_slot is_empty rest ≡ first_slot is_empty slots → rest ≡ (number, slot) ∷ left → slot ≡ None → lookup (nat_eq number) slots ≡ Some None
walk_found_empty slots rest left number slot apart same at empty =
    (first_found is_empty slots number None apart (sym same ∙ ap (first_slot is_empty) (at ∙ ap (λ (o : Option Resident). (number, o) ∷ left) empty))).0

-- one block is found, or not, behind others
none_then : (d p : ℕ) (blocks : List HeldBlock) (slot : Option Resident) → held_at blocks d p ≡ None → has_block d p slot ≡ false → held_at (followed_by blocks slot) d p ≡ None
none_then d p blocks None none fails = none
none_then d p blocks (Some r) none fails =
    find-append (is_held d p) blocks (held_in r ∷ [])
    ∙ ap (λ (o : Option HeldBlock). option_or o (find (is_held d p) (held_in r ∷ []))) none
    ∙ ap (λ t. cond t (Some (held_in r)) None) fails

pub block_missing : (d p : ℕ) (slots : List NumberedSlot) → first_slot (has_block d p) slots ≡ None → held_at (blocks_in slots) d p ≡ None
block_missing d p [] e = refl
block_missing d p (s ∷ ss) e =
    elim (cases_Bool (has_block d p s.1)) [
      | inl holds ↦ absurd (none-some s (sym e ∙ ap (λ b. cond b (Some s) (first_slot (has_block d p) ss)) holds))
      | inr fails ↦ none_then d p (blocks_in ss) s.1 (block_missing d p ss (sym (ap (λ b. cond b (Some s) (first_slot (has_block d p) ss)) fails) ∙ e)) fails
    ]

-- where no slot is empty there are as many blocks
length-then : (blocks : List HeldBlock) (held : HeldBlock) → length (blocks ++ held ∷ []) ≡ suc (length blocks)
length-then [] held = refl
length-then (b ∷ bs) held = ap suc (length-then bs held)

pub all_taken : (slots : List NumberedSlot) → first_slot is_empty slots ≡ None → length slots ≤ length (blocks_in slots)
all_taken [] e = omega arith
all_taken ((n, None) ∷ ss) e = absurd (none-some (n, None) (sym e))
all_taken ((n, Some r) ∷ ss) e =
    let rest : length ss ≤ length (blocks_in ss) = all_taken ss e in
    omega (arith, length-then (blocks_in ss) (held_in r))

-- the blocks of slots behind others stand before theirs
append-assoc : (xs ys zs : List HeldBlock) → (xs ++ ys) ++ zs ≡ xs ++ (ys ++ zs)
append-assoc [] ys zs = refl
append-assoc (x ∷ xs) ys zs = ap (λ (l : List HeldBlock). x ∷ l) (append-assoc xs ys zs)

pub followed-append : (xs ys : List HeldBlock) (slot : Option Resident) → followed_by (xs ++ ys) slot ≡ xs ++ followed_by ys slot
followed-append xs ys None = refl
followed-append xs ys (Some r) = append-assoc xs ys (held_in r ∷ [])

pub append-nothing : (xs : List HeldBlock) → xs ++ [] ≡ xs
append-nothing [] = refl
append-nothing (x ∷ xs) = ap (λ (l : List HeldBlock). x ∷ l) (append-nothing xs)

blocks-append : (front back : List NumberedSlot) → blocks_in (front ++ back) ≡ blocks_in back ++ blocks_in front
blocks-append [] back = sym (append-nothing (blocks_in back))
blocks-append (s ∷ ss) back =
    ap (λ (l : List HeldBlock). followed_by l s.1) (blocks-append ss back) ∙ followed-append (blocks_in back) (blocks_in ss) s.1

-- a slot of a new number is put before the others
below_more : (count more : ℕ) (slots : List NumberedSlot) → count ≤ more → AreBelow count slots → AreBelow more slots
below_more count more [] le below = tt
below_more count more (s ∷ ss) le below = let first : s.0 < more = omega (arith, below.0) in (first, below_more count more ss le below.1)

new_number : (count : ℕ) (slots : List NumberedSlot) → AreBelow count slots → lookup_entry (nat_eq count) slots ≡ None
new_number count [] below = refl
new_number count (s ∷ ss) below =
    ap (λ b. cond b (Some s) (lookup_entry (nat_eq count) ss)) (ne_eqb count s.0 (λ e. absurd (omega (arith, below.0, e)))) ∙ new_number count ss below.1

take_most : (n : ℕ) (slots : List NumberedSlot) → length slots ≤ n → take n slots ≡ slots
take_most zero [] le = refl
take_most (suc n) [] le = refl
take_most zero (s ∷ ss) le = absurd (omega arith)
take_most (suc n) (s ∷ ss) le = let rest : length ss ≤ n = omega arith in ap (λ (l : List NumberedSlot). s ∷ l) (take_most n ss rest)

pub put_new : (cache : LruCache ℕ (Option Resident)) (number : ℕ) → number ≡ length cache.entries → AreBelow (length cache.entries) cache.entries → cache.cap ≡ 2 ^ 64 - 1 → number < 2 ^ 63 → put_entries nat_eq cache number None ≡ (length cache.entries, None) ∷ cache.entries
put_new cache number is below unbounded few =
    let most : length cache.entries ≤ cache.cap - 1 = omega (arith, unbounded, is, few) in
    ap (λ (n : ℕ). put_entries nat_eq cache n None) is
    ∙ ap (λ (o : Option NumberedSlot). option_map_or (λ e. (e.0, None) ∷ remove_entry (nat_eq (length cache.entries)) cache.entries) o ((length cache.entries, None) ∷ take (cache.cap - 1) cache.entries)) (new_number (length cache.entries) cache.entries below)
    ∙ ap (λ (l : List NumberedSlot). (length cache.entries, None) ∷ l) (take_most (cache.cap - 1) cache.entries most)

pub below_put : (slots : List NumberedSlot) → AreBelow (length slots) slots → AreBelow (suc (length slots)) ((length slots, None) ∷ slots)
below_put slots below =
    let last : length slots < suc (length slots) = omega arith in
    let more : length slots ≤ suc (length slots) = omega arith in
    (last, below_more (length slots) (suc (length slots)) slots more below)

-- the numbers stay those below their count
pub below_set : (count number : ℕ) (slot : Option Resident) (slots : List NumberedSlot) → AreBelow count slots → AreBelow count (set_value (nat_eq number) slots slot)
below_set count number slot [] below = tt
below_set count number slot (s ∷ ss) below = by (nat_eq number s.0) (below_set count number slot ss below.1)
  where
    by : (t : Bool) → AreBelow count (set_value (nat_eq number) ss slot) → AreBelow count (cond t ((s.0, slot) ∷ ss) (s ∷ set_value (nat_eq number) ss slot))
    by true rest = below
    by false rest = (below.0, rest)

pub below_removed : (count number : ℕ) (slots : List NumberedSlot) → AreBelow count slots → AreBelow count (remove_entry (nat_eq number) slots)
below_removed count number [] below = tt
below_removed count number (s ∷ ss) below = by (nat_eq number s.0) (below_removed count number ss below.1)
  where
    by : (t : Bool) → AreBelow count (remove_entry (nat_eq number) ss) → AreBelow count (cond t ss (s ∷ remove_entry (nat_eq number) ss))
    by true rest = below.1
    by false rest = (below.0, rest)

-- the blocks are written down from the last slot to the first

written_then : (items : List Candidate) (first : HeldBlock) (blocks : List HeldBlock) → items ++ map candidate_of (first ∷ blocks) ≡ (items ++ candidate_of first ∷ []) ++ map candidate_of blocks
written_then [] first blocks = refl
written_then (x ∷ xs) first blocks = ap (λ (l : List Candidate). x ∷ l) (written_then xs first blocks)

pub written_more : (slots rest left : List NumberedSlot) (number : ℕ) (slot : Option Resident) (resident : Resident) (items more : List Candidate) → items ++ map candidate_of (blocks_in rest) ≡ map candidate_of (blocks_in slots) → rest ≡ left ++ (number, slot) ∷ [] → slot ≡ Some resident → more ≡ items ++ candidate_of (held_in resident) ∷ [] → more ++ map candidate_of (blocks_in left) ≡ map candidate_of (blocks_in slots)
written_more slots rest left number slot resident items more same at has e =
    ap (λ (l : List Candidate). l ++ map candidate_of (blocks_in left)) e
    ∙ sym (written_then items (held_in resident) (blocks_in left))
    ∙ ap (λ (l : List HeldBlock). items ++ map candidate_of l) (sym (blocks-append left ((number, Some resident) ∷ [])))
    ∙ ap (λ (l : List NumberedSlot). items ++ map candidate_of (blocks_in l)) (sym (at ∙ ap (λ (o : Option Resident). left ++ (number, o) ∷ []) has))
    ∙ same

pub written_same : (slots rest left : List NumberedSlot) (number : ℕ) (slot : Option Resident) (items : List Candidate) → items ++ map candidate_of (blocks_in rest) ≡ map candidate_of (blocks_in slots) → rest ≡ left ++ (number, slot) ∷ [] → slot ≡ None → items ++ map candidate_of (blocks_in left) ≡ map candidate_of (blocks_in slots)
written_same slots rest left number slot items same at has =
    ap (λ (l : List HeldBlock). items ++ map candidate_of l) (sym (blocks-append left ((number, None) ∷ [])))
    ∙ ap (λ (l : List NumberedSlot). items ++ map candidate_of (blocks_in l)) (sym (at ∙ ap (λ (o : Option Resident). left ++ (number, o) ∷ []) has))
    ∙ same

-- there is room for each
pub written_fits : (slots rest left : List NumberedSlot) (number : ℕ) (slot : Option Resident) (resident : Resident) (items : List Candidate) → items ++ map candidate_of (blocks_in rest) ≡ map candidate_of (blocks_in slots) → rest ≡ left ++ (number, slot) ∷ [] → slot ≡ Some resident → length items < length (blocks_in slots)
written_fits slots rest left number slot resident items same at has =
    let all = written_more slots rest left number slot resident items (items ++ candidate_of (held_in resident) ∷ []) same at has refl in
    omega (arith, ap length all, length-append (items ++ candidate_of (held_in resident) ∷ []) (map candidate_of (blocks_in left)), length-append items (candidate_of (held_in resident) ∷ []), length-map (blocks_in slots) candidate_of)

-- the first block that may go is looked for from the last slot to the first

module _ (test : Candidate → Bool) (slots rest left : List NumberedSlot) (number : ℕ) (slot : Option Resident)
    (same : find test (map candidate_of (blocks_in rest)) ≡ find test (map candidate_of (blocks_in slots))) (at : rest ≡ left ++ (number, slot) ∷ []) where
  -- what is left to look at, once the slot's content is known
  pub left_to_look : (known : Option Resident) → slot ≡ known → find test (map candidate_of (followed_by [] known ++ blocks_in left)) ≡ find test (map candidate_of (blocks_in slots))
  left_to_look known is =
      ap (λ (l : List HeldBlock). find test (map candidate_of l)) (sym (ap blocks_in (at ∙ ap (λ (o : Option Resident). left ++ (number, o) ∷ []) is) ∙ blocks-append left ((number, known) ∷ []))) ∙ same

  pub goes_first : (resident : Resident) → slot ≡ Some resident → test (candidate_of (held_in resident)) ≡ true → Some (candidate_of (held_in resident)) ≡ find test (map candidate_of (blocks_in slots))
  goes_first resident is goes = sym (cond-true (test (candidate_of (held_in resident))) (Some (candidate_of (held_in resident))) (find test (map candidate_of (blocks_in left))) goes) ∙ left_to_look (Some resident) is

  pub goes_later : (resident : Resident) → slot ≡ Some resident → test (candidate_of (held_in resident)) ≡ false → find test (map candidate_of (blocks_in left)) ≡ find test (map candidate_of (blocks_in slots))
  goes_later resident is stays = sym (cond-false (test (candidate_of (held_in resident))) (Some (candidate_of (held_in resident))) (find test (map candidate_of (blocks_in left))) stays) ∙ left_to_look (Some resident) is
