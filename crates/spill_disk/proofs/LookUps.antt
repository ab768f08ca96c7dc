-- The files in the slots, looked up by number: a write to a slot is a change of the map at its number.
use Rattle.std.proofs.Common.{◌≡◌, ◌≢◌, ℕ, zero, suc, ◌+◌, ◌<◌, ◌≤◌, Bool, true, false, cond, eqb, List, [], ◌∷◌, ◌++◌, length, set, get_or, Option, Some, None, Result, Ok, Err, refl, sym, ap, subst, ◌∙◌, inl, inr, arith}
use Rattle.std.specs.Prelude.{IsSome, unwrap_or, is_ok, OnOk, OnErr}
use Rattle.std.specs.Cmp.{unsigned_tied}
use Rattle.std.specs.Ordering.{nat_cmp}
use Rattle.std.specs.FinMap as map
use Rattle.std.specs.FinMap.{nat_cmp-IsAntisymmetric, get-empty, get-insert, get-remove, same_map}
use Rattle.std.proofs.lemmas.Cmp.{nat_cmp_total}
use Rattle.std.proofs.lemmas.Bool.{cases_lt, eq-eqb, false≢true}
use Rattle.std.proofs.lemmas.Bool.Decides.{eqb_tells}
use Rattle.spill_disk.specs.Files.{Files, bytes_of}
use Rattle.spill_disk.specs.Kept.{files_from}
use Rattle.spill_disk.specs.declared.memory_disk.Stored.{Stored}

-- the file in a slot
abbrev pub content : Stored → Option (List ℕ)
content stored = cond stored.is_there (Some stored.bytes.items) None

-- the file at a number
abbrev pub slot_at : List Stored → ℕ → Option (List ℕ)
slot_at [] k = None
slot_at (x ∷ xs) zero = content x
slot_at (x ∷ xs) (suc k) = slot_at xs k

get_put : (m : Files) (k : ℕ) (v : List ℕ) (q : ℕ) → map.get (map.insert m k v) q ≡ cond (eqb q k) (Some v) (map.get m q)
get_put m k v q = get-insert nat_cmp_total m k v q ∙ ap (λ b. cond b (Some v) (map.get m q)) (unsigned_tied q k)

get_taken : (m : Files) (k q : ℕ) → map.get (map.remove m k) q ≡ cond (eqb q k) None (map.get m q)
get_taken m k q = get-remove nat_cmp_total m k q ∙ ap (λ b. cond b None (map.get m q)) (unsigned_tied q k)

-- a slot's file changes no other number
at_other : (b : Bool) (m : Files) (n : ℕ) (v : List ℕ) (q : ℕ) → q ≢ n → map.get (cond b (map.insert m n v) m) q ≡ map.get m q
at_other true m n v q other =
    get_put m n v q ∙ elim (eqb_tells q n) [ inl same ↦ absurd (other same.1) | inr differs ↦ ap (λ b. cond b (Some v) (map.get m q)) differs.0 ]
at_other false m n v q other = refl

at_self : (b : Bool) (m : Files) (n : ℕ) (v : List ℕ) → map.get m n ≡ None → map.get (cond b (map.insert m n v) m) n ≡ cond b (Some v) None
at_self true m n v none = get_put m n v n ∙ ap (λ b. cond b (Some v) (map.get m n)) (eq-eqb n n refl)
at_self false m n v none = none

-- no file has a number below the first
below_first : (n : ℕ) (xs : List Stored) (q : ℕ) → q < n → map.get (files_from n xs) q ≡ None
below_first n [] q lt = get-empty nat_cmp q
below_first n (x ∷ xs) q lt =
    let other : q ≢ n = omega arith in
    at_other x.is_there (files_from (n + 1) xs) n x.bytes.items q other ∙ below_first (n + 1) xs q (omega arith)

from_first : (n : ℕ) (xs : List Stored) (k : ℕ) → map.get (files_from n xs) (n + k) ≡ slot_at xs k
from_first n [] k = get-empty nat_cmp (n + k)
from_first n (x ∷ xs) zero =
    let first : n + 0 ≡ n = omega arith in
    ap (map.get (files_from n (x ∷ xs))) first ∙ at_self x.is_there (files_from (n + 1) xs) n x.bytes.items (below_first (n + 1) xs n (omega arith))
from_first n (x ∷ xs) (suc k) =
    let other : n + suc k ≢ n = omega arith in
    let next : n + suc k ≡ n + 1 + k = omega arith in
    at_other x.is_there (files_from (n + 1) xs) n x.bytes.items (n + suc k) other ∙ ap (map.get (files_from (n + 1) xs)) next ∙ from_first (n + 1) xs k

-- the file of a number is that of its slot
pub at_number : (xs : List Stored) (q : ℕ) → map.get (files_from 0 xs) q ≡ slot_at xs q
at_number xs q =
    let plain : q ≡ 0 + q = omega arith in
    ap (map.get (files_from 0 xs)) plain ∙ from_first 0 xs q

pub slot_at_past : (xs : List Stored) (k : ℕ) → length xs ≤ k → slot_at xs k ≡ None
slot_at_past [] k le = refl
slot_at_past (x ∷ xs) zero le = absurd (omega arith)
slot_at_past (x ∷ xs) (suc k) le = slot_at_past xs k (omega arith)

pub slot_at_read : (xs : List Stored) (k : ℕ) (s : Stored) → k < length xs → s ≡ get_or xs k s → slot_at xs k ≡ content s
slot_at_read [] k s lt is = absurd (omega arith)
slot_at_read (x ∷ xs) zero s lt is = ap content (sym is)
slot_at_read (x ∷ xs) (suc k) s lt is = slot_at_read xs k s (omega arith) is

set_same : (xs : List Stored) (k : ℕ) (s : Stored) → k < length xs → slot_at (set xs k s) k ≡ content s
set_same [] k s lt = absurd (omega arith)
set_same (x ∷ xs) zero s lt = refl
set_same (x ∷ xs) (suc k) s lt = set_same xs k s (omega arith)

set_other : (xs : List Stored) (k : ℕ) (s : Stored) (q : ℕ) → q ≢ k → slot_at (set xs k s) q ≡ slot_at xs q
set_other [] k s q other = refl
set_other (x ∷ xs) zero s zero other = absurd (other refl)
set_other (x ∷ xs) zero s (suc q) other = refl
set_other (x ∷ xs) (suc k) s zero other = refl
set_other (x ∷ xs) (suc k) s (suc q) other = set_other xs k s q (λ e. other (ap suc e))

push_same : (xs : List Stored) (s : Stored) → slot_at (xs ++ s ∷ []) (length xs) ≡ content s
push_same [] s = refl
push_same (x ∷ xs) s = push_same xs s

push_other : (xs : List Stored) (s : Stored) (q : ℕ) → q ≢ length xs → slot_at (xs ++ s ∷ []) q ≡ slot_at xs q
push_other [] s zero other = absurd (other refl)
push_other [] s (suc q) other = refl
push_other (x ∷ xs) s zero other = refl
push_other (x ∷ xs) s (suc q) other = push_other xs s q (λ e. other (ap suc e))

-- maps that differ at one number alone
changed_at : (m n : Files) (k : ℕ) (v : List ℕ) → map.get n k ≡ Some v → ((q : ℕ) → q ≢ k → map.get n q ≡ map.get m q) → n ≡ map.insert m k v
changed_at m n k v here others =
    same_map nat_cmp_total nat_cmp-IsAntisymmetric n (map.insert m k v) (λ q. elim (eqb_tells q k) [
      | inl same ↦ ap (map.get n) same.1 ∙ here ∙ sym (get_put m k v q ∙ ap (λ b. cond b (Some v) (map.get m q)) same.0)
      | inr differs ↦ others q differs.1 ∙ sym (get_put m k v q ∙ ap (λ b. cond b (Some v) (map.get m q)) differs.0)
    ])

taken_at : (m n : Files) (k : ℕ) → map.get n k ≡ None → ((q : ℕ) → q ≢ k → map.get n q ≡ map.get m q) → n ≡ map.remove m k
taken_at m n k here others =
    same_map nat_cmp_total nat_cmp-IsAntisymmetric n (map.remove m k) (λ q. elim (eqb_tells q k) [
      | inl same ↦ ap (map.get n) same.1 ∙ here ∙ sym (get_taken m k q ∙ ap (λ b. cond b None (map.get m q)) same.0)
      | inr differs ↦ others q differs.1 ∙ sym (get_taken m k q ∙ ap (λ b. cond b None (map.get m q)) differs.0)
    ])

-- a file that is there has other bytes
pub put_slot : (xs : List Stored) (k : ℕ) (s : Stored) → k < length xs → s.is_there ≡ true → files_from 0 (set xs k s) ≡ map.insert (files_from 0 xs) k s.bytes.items
put_slot xs k s lt there =
    changed_at (files_from 0 xs) (files_from 0 (set xs k s)) k s.bytes.items
    (at_number (set xs k s) k ∙ set_same xs k s lt ∙ ap (λ b. cond b (Some s.bytes.items) None) there)
    (λ q other. at_number (set xs k s) q ∙ set_other xs k s q other ∙ sym (at_number xs q))

-- a file is taken out of its slot
pub take_slot : (xs : List Stored) (k : ℕ) (s : Stored) → k < length xs → s.is_there ≡ false → files_from 0 (set xs k s) ≡ map.remove (files_from 0 xs) k
take_slot xs k s lt gone =
    taken_at (files_from 0 xs) (files_from 0 (set xs k s)) k
    (at_number (set xs k s) k ∙ set_same xs k s lt ∙ ap (λ b. cond b (Some s.bytes.items) None) gone)
    (λ q other. at_number (set xs k s) q ∙ set_other xs k s q other ∙ sym (at_number xs q))

-- a number without a slot has no file to take
pub take_none : (xs : List Stored) (k : ℕ) → length xs ≤ k → files_from 0 xs ≡ map.remove (files_from 0 xs) k
take_none xs k le = taken_at (files_from 0 xs) (files_from 0 xs) k (at_number xs k ∙ slot_at_past xs k le) (λ q other. refl)

-- a new file in the next slot
pub push_slot : (xs : List Stored) (s : Stored) → s.is_there ≡ true → files_from 0 (xs ++ s ∷ []) ≡ map.insert (files_from 0 xs) (length xs) s.bytes.items
push_slot xs s there =
    changed_at (files_from 0 xs) (files_from 0 (xs ++ s ∷ [])) (length xs) s.bytes.items
    (at_number (xs ++ s ∷ []) (length xs) ∙ push_same xs s ∙ ap (λ b. cond b (Some s.bytes.items) None) there)
    (λ q other. at_number (xs ++ s ∷ []) q ∙ push_other xs s q other ∙ sym (at_number xs q))

-- a file that is there has a slot
pub there_within : (xs : List Stored) (k : ℕ) → IsSome (map.get (files_from 0 xs) k) → k < length xs
there_within xs k there =
    elim (cases_lt k (length xs)) [
      | inl lt ↦ lt
      | inr le ↦ absurd (false≢true (subst IsSome (at_number xs k ∙ slot_at_past xs k le) there))
    ]

some_content : (b : Bool) (v : List ℕ) → IsSome (cond b (Some v) None) → b ≡ true
some_content true v there = refl
some_content false v there = absurd (false≢true there)

-- the slot of a file that is there
pub there_is : (xs : List Stored) (k : ℕ) (s : Stored) → k < length xs → s ≡ get_or xs k s → IsSome (map.get (files_from 0 xs) k) → (s.is_there ≡ true) × (bytes_of (files_from 0 xs) k ≡ s.bytes.items)
there_is xs k s lt is there =
    let here : map.get (files_from 0 xs) k ≡ content s = at_number xs k ∙ slot_at_read xs k s lt is in
    let yes : s.is_there ≡ true = some_content s.is_there s.bytes.items (subst IsSome here there) in
    (yes, ap (λ o. unwrap_or o []) (here ∙ ap (λ b. cond b (Some s.bytes.items) None) yes))

-- a slot tells whether its file is there
pub there_tells : (xs : List Stored) (k : ℕ) (s : Stored) → k < length xs → s ≡ get_or xs k s → (s.is_there ≡ true → IsSome (map.get (files_from 0 xs) k)) × (IsSome (map.get (files_from 0 xs) k) → s.is_there ≡ true)
there_tells xs k s lt is =
    let here : map.get (files_from 0 xs) k ≡ content s = at_number xs k ∙ slot_at_read xs k s lt is in
    (λ yes. rw (here, yes) refl, λ there. some_content s.is_there s.bytes.items (subst IsSome here there))

-- the bytes of a slot's file, whether it is there or not
pub bytes_at : (xs : List Stored) (k : ℕ) (s : Stored) → k < length xs → s ≡ get_or xs k s → bytes_of (files_from 0 xs) k ≡ cond s.is_there s.bytes.items []
bytes_at xs k s lt is =
    ap (λ o. unwrap_or o []) (at_number xs k ∙ slot_at_read xs k s lt is) ∙ picked s.is_there s.bytes.items
  where
    picked : (b : Bool) (v : List ℕ) → unwrap_or (cond b (Some v) None) [] ≡ cond b v []
    picked true v = refl
    picked false v = refl

pub bytes_past : (xs : List Stored) (k : ℕ) → length xs ≤ k → bytes_of (files_from 0 xs) k ≡ []
bytes_past xs k le = ap (λ o. unwrap_or o []) (at_number xs k ∙ slot_at_past xs k le)

own_bytes : (o : Option (List ℕ)) → IsSome o → o ≡ Some (unwrap_or o [])
own_bytes (Some v) there = refl
own_bytes None there = absurd (false≢true there)

-- to put a file's own bytes is to change nothing
pub put_again : (m : Files) (k : ℕ) → IsSome (map.get m k) → map.insert m k (bytes_of m k) ≡ m
put_again m k there =
    sym (changed_at m m k (bytes_of m k) (own_bytes (map.get m k) there) (λ q other. refl))

-- new bytes in the slot of a file that is there
pub bytes_added : {T E : Type 0} (r : Result T E) (xs : List Stored) (k : ℕ) (s t : Stored) (bytes : List ℕ) → IsSome (map.get (files_from 0 xs) k) → s ≡ get_or xs k s → t.is_there ≡ s.is_there → t.bytes.items ≡ cond (is_ok r) (s.bytes.items ++ bytes) s.bytes.items
    → OnOk r (files_from 0 (set xs k t) ≡ map.insert (files_from 0 xs) k (bytes_of (files_from 0 xs) k ++ bytes)) × OnErr r (files_from 0 (set xs k t) ≡ files_from 0 xs)
bytes_added (Ok x) xs k s t bytes there is kept more =
    let lt = there_within xs k there in
    let old = there_is xs k s lt is there in
    (put_slot xs k t lt (kept ∙ old.0) ∙ ap (map.insert (files_from 0 xs) k) (more ∙ ap (λ (b : List ℕ). b ++ bytes) (sym old.1)), tt)
bytes_added (Err e) xs k s t bytes there is kept more =
    let lt = there_within xs k there in
    let old = there_is xs k s lt is there in
    (tt, put_slot xs k t lt (kept ∙ old.0) ∙ ap (map.insert (files_from 0 xs) k) (more ∙ sym old.1) ∙ put_again (files_from 0 xs) k there)

-- a file that was put is there
pub there_put : (m n : Files) (k : ℕ) (v : List ℕ) → n ≡ map.insert m k v → IsSome (map.get n k)
there_put m n k v e =
    let here : map.get n k ≡ Some v = ap (λ (f : Files). map.get f k) e ∙ get_put m k v k ∙ ap (λ b. cond b (Some v) (map.get m k)) (eq-eqb k k refl) in
    rw here refl

-- a file stays there as it grows, or as nothing changes
pub there_stays : {T E : Type 0} (r : Result T E) (m n : Files) (k : ℕ) (v : List ℕ) → IsSome (map.get m k) → OnOk r (n ≡ map.insert m k v) → OnErr r (n ≡ m) → IsSome (map.get n k)
there_stays (Ok x) m n k v there ok err = there_put m n k v ok
there_stays (Err e) m n k v there ok err = rw err there
