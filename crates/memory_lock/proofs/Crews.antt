-- A manager's workers, as they are made one by one, and as they are joined into the last.
use Rattle.std.proofs.Common.{◌≡◌, ℕ, zero, suc, ◌+◌, ◌<◌, ◌≤◌, List, [], ◌∷◌, ◌++◌, length, get_or, Contains, None, refl, ap, sym, ◌∙◌, subst, inl, inr, arith, length-append, append_assoc, append-nil}
use mathlib.Core.Logic.{dite}
use native.Mathlib.Decide.{ℕ_discrete, dec_le}
use Rattle.std.proofs.Math.ListN.{get_or-append}
use Rattle.std.proofs.Math.Seq.{get_or-append_seam}
use Rattle.std.proofs.lemmas.List.Elements.{Contains-append_left, Contains-append_right}
use Rattle.pool_ledger.specs.declared.entry.Entry.{Entry}
use Rattle.turn_lock.specs.Passes.{LockId, WorkerView, CoversAll, joined_with, split_from, without_spare}
use Rattle.turn_lock.specs.Parts.{IsPart}
use Rattle.memory_lock.specs.Crew.{new_worker, IsWorker, AreNew, AreWorkers, HasAll}

-- each of a list, and one more
pub each_push : {A : Type 0} (P : ℕ → A → Type 0) (xs : List A) (x : A) → ((k : ℕ) (d : A) → k < length xs → P k (get_or xs k d)) → P (length xs) x → (k : ℕ) (d : A) → k < length xs + 1 → P k (get_or (xs ++ x ∷ []) k d)
each_push P xs x each mine k d h = dite (ℕ_discrete k (length xs))
    (λ e. subst (λ (i : ℕ). P i (get_or (xs ++ x ∷ []) i d)) (sym e) (subst (P (length xs)) (sym (get_or-append_seam xs x [] d)) mine))
    (λ n. subst (P k) (sym (get_or-append xs (x ∷ []) d k (omega arith))) (each k d (omega arith)))

pub length_push : {A : Type 0} (xs : List A) (x : A) → length (xs ++ x ∷ []) ≡ length xs + 1
length_push xs x = length-append xs (x ∷ [])

pub crew_of : (lock : LockId) (n : ℕ) (xs : List WorkerView) (last : WorkerView) → length xs + 1 ≡ n → ((k : ℕ) (d : WorkerView) → k < length xs → get_or xs k d ≡ new_worker lock k 4294967296) → last ≡ new_worker lock (length xs) n → AreWorkers lock n (xs ++ last ∷ [])
crew_of lock n xs last count made is = (
  length_push xs last ∙ count,
  λ k d h. each_push (IsWorker lock n) xs last
      (λ i e less. subst (IsWorker lock n i) (sym (made i e less)) record { lock_is = refl; number_is = refl; speaks_is = refl; last = λ same. absurd (omega arith); others = λ _. refl; free = refl })
      (subst (IsWorker lock n (length xs)) (sym is) record { lock_is = refl; number_is = refl; speaks_is = refl; last = λ _. refl; others = λ less. absurd (omega arith); free = refl })
      k d (omega arith),
)

pub new_crew : (lock : LockId) (n : ℕ) (xs : List WorkerView) (last : WorkerView) → ((k : ℕ) (d : WorkerView) → k < length xs → get_or xs k d ≡ new_worker lock k 4294967296) → last ≡ new_worker lock (length xs) n → AreNew (xs ++ last ∷ [])
new_crew lock n xs last made is k d h =
    each_push (λ (i : ℕ) (w : WorkerView). w.seen ≡ []) xs last
    (λ i e less. ap (λ (w : WorkerView). w.seen) (made i e less)) (ap (λ (w : WorkerView). w.seen) is) k d (omega (arith, length_push xs last))

-- the crew, where the list has the newest at its end and all numbers are given away
pub all_made : (lock : LockId) (n number : ℕ) (xs items : List WorkerView) (newest : WorkerView) → items ≡ xs ++ newest ∷ [] → length xs + 1 ≡ number → number ≡ n → ((k : ℕ) (d : WorkerView) → k < length xs → get_or xs k d ≡ new_worker lock k 4294967296)
    → newest ≡ new_worker lock (length xs) number → AreWorkers lock n items
all_made lock n number xs items newest is count end made new = subst (AreWorkers lock n) (sym is) (crew_of lock n xs newest (count ∙ end) made (new ∙ ap (new_worker lock (length xs)) end))

pub all_fresh : (lock : LockId) (number : ℕ) (xs items : List WorkerView) (newest : WorkerView) → items ≡ xs ++ newest ∷ [] → ((k : ℕ) (d : WorkerView) → k < length xs → get_or xs k d ≡ new_worker lock k 4294967296)
    → newest ≡ new_worker lock (length xs) number → AreNew items
all_fresh lock number xs items newest is made new = subst AreNew (sym is) (new_crew lock number xs newest made new)

-- one more, where the newest gave away all further numbers
pub next_count : (number : ℕ) (xs items : List WorkerView) (old : WorkerView) → length xs + 1 ≡ number → items ≡ xs ++ old ∷ [] → length items + 1 ≡ number + 1
next_count number xs items old count is = ap (λ (n : ℕ). n + 1) (ap length is ∙ length_push xs old ∙ count)

pub next_number : (lock : LockId) (number : ℕ) (xs items : List WorkerView) (newest old next : WorkerView) → length xs + 1 ≡ number → newest ≡ new_worker lock (length xs) number → next ≡ split_from newest → items ≡ xs ++ old ∷ []
    → next ≡ new_worker lock (length items) (number + 1)
next_number lock number xs items newest old next count new split is =
    split ∙ ap split_from new ∙ ap (λ (n : ℕ). new_worker lock n (number + 1)) (sym count ∙ sym (ap length is ∙ length_push xs old))

pub next_made : (lock : LockId) (number : ℕ) (xs items : List WorkerView) (newest old : WorkerView) → ((k : ℕ) (d : WorkerView) → k < length xs → get_or xs k d ≡ new_worker lock k 4294967296) → newest ≡ new_worker lock (length xs) number
    → old ≡ without_spare newest → items ≡ xs ++ old ∷ [] → (k : ℕ) (d : WorkerView) → k < length items → get_or items k d ≡ new_worker lock k 4294967296
next_made lock number xs items newest old made new gave is k d h =
    let long = ap length is ∙ length_push xs old in
    ap (λ (l : List WorkerView). get_or l k d) is
    ∙ each_push (λ (k : ℕ) (w : WorkerView). w ≡ new_worker lock k 4294967296) xs old made (gave ∙ ap without_spare new) k d (omega arith)

-- the workers of a close are as many as their list has
pub as_many : (lock : LockId) (n : ℕ) (ws : List WorkerView) → AreWorkers lock n ws → AreWorkers lock (length ws) ws
as_many lock n ws all = subst (λ (m : ℕ). AreWorkers lock m ws) (sym all.0) all

-- what begins what
pub part_trans : (ms ns : List ℕ) (a b c : List Entry) → IsPart ms a b → IsPart ns b c → ((n : ℕ) → Contains ms n → Contains ns n) → IsPart ms a c
part_trans ms ns a b c p q within = record {
  begins = (p.begins.0 ++ q.begins.0, sym (append_assoc a p.begins.0 q.begins.0) ∙ (ap (λ w. w ++ q.begins.0) p.begins.1 ∙ q.begins.1));
  own = λ n h. q.own n (within n h) ∙ p.own n h;
}

-- what has been joined into one worker, of n
pub record IsJoined (lock : LockId) (ws xs : List WorkerView) (all : WorkerView) : Type 0 where
  pub lock_is : all.lock ≡ lock
  pub free : all.base ≡ None
  pub spare : all.spare ≡ length ws
  pub fewer : length xs < length ws
  pub here : (k : ℕ) (d : WorkerView) → k < length xs → get_or xs k d ≡ get_or ws k d
  pub speaks : (k : ℕ) → length xs ≤ k → k < length ws → Contains all.speaks k
  pub parts : (k : ℕ) (d : WorkerView) → length xs ≤ k → k < length ws → IsPart (k ∷ []) (get_or ws k d).seen all.seen

part_self : (ms : List ℕ) (a : List Entry) → IsPart ms a a
part_self ms a = record { begins = ([], append-nil a); own = λ n h. refl }

-- worker k, whose place in the list is known
worker_at : (lock : LockId) (ws xs : List WorkerView) (x : WorkerView) → AreWorkers lock (length ws) ws → length xs < length ws → get_or ws (length xs) x ≡ x → IsWorker lock (length ws) (length xs) x
worker_at lock ws xs x all less is = subst (IsWorker lock (length ws) (length xs)) is (all.1 (length xs) x less)

only_one : (k n : ℕ) → Contains (k ∷ []) n → n ≡ k
only_one k n h = only_at h.0 h.1 h.2
  where
    only_at : (i : ℕ) → i < 1 → get_or (k ∷ []) i n ≡ n → n ≡ k
    only_at zero l e = sym e
    only_at (suc i) l e = absurd (omega arith)

has_one : (k n : ℕ) (l : List ℕ) → l ≡ n ∷ [] → k ≡ n → Contains l k
has_one k n l is same = subst (λ (z : List ℕ × ℕ). Contains z.0 z.1) (λ i. (sym is i, sym same i)) (0, omega arith, refl)

pub joined_first : (lock : LockId) (ws xs : List WorkerView) (x : WorkerView) → ws ≡ xs ++ x ∷ [] → AreWorkers lock (length ws) ws → IsJoined lock ws xs x
joined_first lock ws xs x is all =
    let long : length ws ≡ length xs + 1 = ap length is ∙ length_push xs x in
    let less : length xs < length ws = omega arith in
    let w = worker_at lock ws xs x all less (ap (λ (l : List WorkerView). get_or l (length xs) x) is ∙ get_or-append_seam xs x [] x) in
    record {
      lock_is = w.lock_is;
      free = w.free;
      spare = w.last (sym long);
      fewer = less;
      here = λ k d h. sym (ap (λ (l : List WorkerView). get_or l k d) is ∙ get_or-append xs (x ∷ []) d k h);
      speaks = λ k more h. has_one k (length xs) x.speaks w.speaks_is (omega arith);
      parts = λ k d more h.
          let place : k ≡ length xs = omega arith in
          let at : get_or ws k d ≡ x = ap (λ (l : List WorkerView). get_or l k d) is ∙ ap (λ (i : ℕ). get_or (xs ++ x ∷ []) i d) place ∙ get_or-append_seam xs x [] d in
          subst (λ (w' : WorkerView). IsPart (k ∷ []) w'.seen x.seen) (sym at) (part_self (k ∷ []) x.seen);
    }

pub joined_more : (lock : LockId) (ws before xs : List WorkerView) (x all all' : WorkerView) → before ≡ xs ++ x ∷ [] → length ws ≤ 4294967296 → AreWorkers lock (length ws) ws → IsJoined lock ws before all → all' ≡ joined_with all x → IsPart all.speaks all.seen all'.seen → IsPart x.speaks x.seen all'.seen
    → IsJoined lock ws xs all'
joined_more lock ws before xs x all all' is most workers j now mine theirs =
    let long : length before ≡ length xs + 1 = ap length is ∙ length_push xs x in
    let fewer = j.fewer in
    let less : length xs < length ws = omega arith in
    let place : get_or ws (length xs) x ≡ x = sym (j.here (length xs) x (omega arith)) ∙ (ap (λ (l : List WorkerView). get_or l (length xs) x) is ∙ get_or-append_seam xs x [] x) in
    let w = worker_at lock ws xs x workers less place in
    let speaks_is : all'.speaks ≡ all.speaks ++ x.speaks = ap (λ (p : WorkerView). p.speaks) now in
    record {
      lock_is = ap (λ (p : WorkerView). p.lock) now ∙ j.lock_is;
      free = ap (λ (p : WorkerView). p.base) now ∙ j.free;
      spare = ap (λ (p : WorkerView). p.spare) now ∙ (let a = j.spare in let b = w.others (omega arith) in omega arith);
      fewer = less;
      here = λ k d h. sym (get_or-append xs (x ∷ []) d k h) ∙ (ap (λ (l : List WorkerView). get_or l k d) (sym is) ∙ j.here k d (omega arith));
      speaks = λ k more h. subst (λ (l : List ℕ). Contains l k) (sym speaks_is) (dite (ℕ_discrete k (length xs))
          (λ e. Contains-append_right all.speaks x.speaks k (has_one k (length xs) x.speaks w.speaks_is e))
          (λ n. Contains-append_left all.speaks x.speaks k (j.speaks k (omega arith) h)));
      parts = λ k d more h. dite (ℕ_discrete k (length xs))
          (λ e.
          let at : get_or ws (length xs) d ≡ x = sym (j.here (length xs) d (omega arith)) ∙ (ap (λ (l : List WorkerView). get_or l (length xs) d) is ∙ get_or-append_seam xs x [] d) in
          subst (λ (i : ℕ). IsPart (i ∷ []) (get_or ws i d).seen all'.seen) (sym e) (subst (λ (z : List ℕ × WorkerView). IsPart z.0 z.1.seen all'.seen) (λ i. (w.speaks_is i, sym at i)) theirs))
          (λ n. part_trans (k ∷ []) all.speaks (get_or ws k d).seen all.seen all'.seen (j.parts k d (omega arith) h) mine (λ i has. subst (Contains all.speaks) (sym (only_one k i has)) (j.speaks k (omega arith) h)));
    }

pub joined_all : (lock : LockId) (ws : List WorkerView) (all : WorkerView) → IsJoined lock ws [] all → CoversAll all.speaks all.spare
joined_all lock ws all j n less = dite (dec_le (length ws) n) (λ le. inr (let s = j.spare in omega arith)) (λ nle. inl (j.speaks n (omega arith) (omega arith)))

pub parts_all : (lock : LockId) (ws : List WorkerView) (all : WorkerView) (history : List Entry) → IsJoined lock ws [] all → all.seen ≡ history → HasAll ws history
parts_all lock ws all history j is k d h = subst (IsPart (k ∷ []) (get_or ws k d).seen) is (j.parts k d (omega arith) h)
