-- What a journal tells, where each worker's own entries are those of its tasks.
use Rattle.std.proofs.Common.{◌≡◌, ◌∙◌, ℕ, zero, suc, ◌+◌, ◌<◌, ◌≤◌, ◌++◌, Bool, true, false, cond, List, [], ◌∷◌, Option, refl, sym, ap, subst, inl, inr, arith}
use Rattle.std.specs.Prelude.{◌==◌, filter, nat_lt, reverse}
use Rattle.std.specs.List.{AllByRecursion}
use Rattle.std.proofs.lemmas.Bool.{cases_eq, cases_lt, eq-eqb, ne_eqb}
use Rattle.std.proofs.lemmas.Bool.Decides.{nat_tests}
use Rattle.std.proofs.lemmas.List.{reverse-append, reverse-reverse}
use Rattle.pool_ledger.specs.History.{History, begin_of, begins, end_of, ends, total}
use Rattle.pool_ledger.specs.Journal.{history_of}
use Rattle.pool_ledger.specs.Legal.{IsLegal, IsPermitted}
use Rattle.pool_ledger.specs.Sizes.{Sizes}
use Rattle.pool_ledger.specs.Workers.{entries_of}
use Rattle.pool_ledger.specs.declared.entry.Entry.{Entry}
use Rattle.pool_ledger.specs.declared.entry.Event.{Event}
use Rattle.pool_laws.specs.Owners.{AreOwned, IsByOwner}
use Rattle.task_pool.proofs.GoingOn.{all_append}

-- ---- sums over entries

pub total_append : (amount : Event → ℕ) (xs ys : List Entry) → total amount (xs ++ ys) ≡ total amount xs + total amount ys
total_append amount [] ys = omega arith
total_append amount (x ∷ xs) ys = let more = total_append amount xs ys in omega (arith, more)

pub total_reverse : (amount : Event → ℕ) (xs : List Entry) → total amount (reverse xs) ≡ total amount xs
total_reverse amount [] = refl
total_reverse amount (x ∷ xs) =
    let turned : total amount (reverse (x ∷ xs)) ≡ total amount (reverse xs ++ x ∷ []) = ap (total amount) (reverse-append (x ∷ []) xs) in
    let last = total_append amount (reverse xs) (x ∷ []) in
    let more = total_reverse amount xs in
    omega (arith, turned, last, more)

total_kept : (amount : Event → ℕ) (b : Bool) (x : Entry) (rest : List Entry) → total amount (cond b (x ∷ rest) rest) ≡ total amount rest + cond b (amount x.event) 0
total_kept amount true x rest = refl
total_kept amount false x rest = omega arith

-- the entries of the workers below a number
abbrev below : ℕ → List Entry → List Entry
below n entries = filter (λ entry. nat_lt entry.worker n) entries

one_more : (w n amount : ℕ) → cond (nat_lt w (suc n)) amount 0 ≡ cond (nat_lt w n) amount 0 + cond (w == n) amount 0
one_more w n amount = elim (cases_lt w n) [
  | inl low ↦ grind (arith, nat_tests, low)
  | inr high ↦ elim (cases_eq w n) [
    | inl same ↦ grind (arith, nat_tests, same)
    | inr apart ↦ grind (arith, nat_tests, high, apart)
  ]
]

total_more : (amount : Event → ℕ) (n : ℕ) (entries : List Entry) → total amount (below (suc n) entries) ≡ total amount (below n entries) + total amount (entries_of n entries)
total_more amount n [] = refl
total_more amount n (x ∷ rest) =
    let all = total_kept amount (nat_lt x.worker (suc n)) x (below (suc n) rest) in
    let old = total_kept amount (nat_lt x.worker n) x (below n rest) in
    let own = total_kept amount (x.worker == n) x (entries_of n rest) in
    let split = one_more x.worker n (amount x.event) in
    let more = total_more amount n rest in
    omega (arith, all, old, own, split, more)

total_none : (amount : Event → ℕ) (entries : List Entry) → total amount (below 0 entries) ≡ 0
total_none amount [] = refl
total_none amount (x ∷ rest) =
    let low : nat_lt x.worker 0 ≡ false = grind (arith, nat_tests) in
    ap (λ (b : Bool). total amount (cond b (x ∷ below 0 rest) (below 0 rest))) low ∙ total_none amount rest

-- two amounts that each worker's own entries have alike
alike_below : (one other : Event → ℕ) (n : ℕ) (entries : List Entry) → ((w : ℕ) → w < n → total one (entries_of w entries) ≡ total other (entries_of w entries)) → total one (below n entries) ≡ total other (below n entries)
alike_below one other zero entries each = let first = total_none one entries in let second = total_none other entries in omega (arith, first, second)
alike_below one other (suc n) entries each =
    let first = total_more one n entries in
    let second = total_more other n entries in
    let old = alike_below one other n entries (λ w low. each w (omega (arith, low))) in
    let own = each n (omega arith) in
    omega (arith, first, second, old, own)

all_below : (n : ℕ) (entries : List Entry) → AllByRecursion (λ entry. entry.worker < n) entries → below n entries ≡ entries
all_below n [] all = refl
all_below n (x ∷ rest) all =
    let known : nat_lt x.worker n ≡ true = grind (arith, nat_tests, all.0) in
    ap (λ (b : Bool). cond b (x ∷ below n rest) (below n rest)) known ∙ ap (λ (es : List Entry). x ∷ es) (all_below n rest all.1)

-- a worker's own entries have no more than all
pub own_least : (amount : Event → ℕ) (w : ℕ) (entries : List Entry) → total amount (entries_of w entries) ≤ total amount entries
own_least amount w [] = omega arith
own_least amount w (x ∷ rest) =
    let own = total_kept amount (x.worker == w) x (entries_of w rest) in
    let more = own_least amount w rest in
    let part = most (x.worker == w) (amount x.event) in
    omega (arith, own, more, part)
  where
    most : (b : Bool) (amount : ℕ) → cond b amount 0 ≤ amount
    most true amount = omega arith
    most false amount = omega arith

-- ---- the workers of a legal journal

pub all_reverse : (P : Entry → Type 0) (entries : List Entry) → AllByRecursion P entries → AllByRecursion P (reverse entries)
all_reverse P [] all = tt
all_reverse P (x ∷ rest) all = subst (AllByRecursion P) (sym (reverse-append (x ∷ []) rest)) (all_append P (reverse rest) (x ∷ []) (all_reverse P rest all.1) (all.0, tt))

known_then : (setup : Sizes) (history : History) → IsPermitted setup history → AllByRecursion (λ entry. entry.worker < setup.workers) history
known_then setup [] permitted = tt
known_then setup (entry ∷ before) permitted = (permitted.1.worker_known, known_then setup before permitted.0)

-- each entry is by a worker of the setup
pub all_known : (setup : Sizes) (journal : List Entry) → IsLegal setup (history_of journal) → AllByRecursion (λ entry. entry.worker < setup.workers) journal
all_known setup journal legal =
    subst (AllByRecursion (λ entry. entry.worker < setup.workers)) (reverse-reverse journal) (all_reverse (λ entry. entry.worker < setup.workers) (history_of journal) (known_then setup (history_of journal) legal.permitted))

-- a worker that isn't known has no entry
pub none_of : (n w : ℕ) (entries : List Entry) → AllByRecursion (λ entry. entry.worker < n) entries → n ≤ w → entries_of w entries ≡ []
none_of n w [] all above = refl
none_of n w (x ∷ rest) all above =
    let apart : (x.worker == w) ≡ false = ne_eqb x.worker w (λ same. absurd (omega (arith, same, all.0, above))) in
    ap (λ (b : Bool). cond b (x ∷ entries_of w rest) (entries_of w rest)) apart ∙ none_of n w rest all.1 above

-- ---- what the workers' own entries tell of all

-- each task was ended as often as it was begun
pub ended_all : (n task : ℕ) (journal : List Entry) → AllByRecursion (λ entry. entry.worker < n) journal
    → ((w : ℕ) → w < n → ends (history_of (entries_of w journal)) task ≡ begins (history_of (entries_of w journal)) task) → ends (history_of journal) task ≡ begins (history_of journal) task
ended_all n task journal known each =
    let whole = all_below n journal known in
    let ended = total_reverse (end_of task) journal in
    let began = total_reverse (begin_of task) journal in
    let alike = alike_below (end_of task) (begin_of task) n journal (λ w low. sym (total_reverse (end_of task) (entries_of w journal)) ∙ each w low ∙ total_reverse (begin_of task) (entries_of w journal)) in
    ended ∙ ap (total (end_of task)) (sym whole) ∙ alike ∙ ap (total (begin_of task)) whole ∙ sym began

-- what a worker's own entries begin is begun
pub begun_least : (w task : ℕ) (journal : List Entry) → begins (history_of (entries_of w journal)) task ≤ begins (history_of journal) task
begun_least w task journal =
    let all = total_reverse (begin_of task) journal in
    let own = total_reverse (begin_of task) (entries_of w journal) in
    let least = own_least (begin_of task) w journal in
    omega (arith, all, own, least)

rest_of : (P : Entry → Type 0) (b : Bool) (x : Entry) (rest : List Entry) → AllByRecursion P (cond b (x ∷ rest) rest) → AllByRecursion P rest
rest_of P true x rest all = all.1
rest_of P false x rest all = all

owned_each : (owner : ℕ → Option ℕ) (n : ℕ) (journal : List Entry) → AllByRecursion (λ entry. entry.worker < n) journal
    → ((w : ℕ) → w < n → AllByRecursion (λ entry. IsByOwner owner w entry.event) (entries_of w journal)) → AllByRecursion (λ entry. IsByOwner owner entry.worker entry.event) journal
owned_each owner n [] known each = tt
owned_each owner n (x ∷ rest) known each =
    let own = subst (λ (b : Bool). AllByRecursion (λ entry. IsByOwner owner x.worker entry.event) (cond b (x ∷ entries_of x.worker rest) (entries_of x.worker rest))) (eq-eqb x.worker x.worker refl) (each x.worker known.0) in
    (own.0, owned_each owner n rest known.1 (λ w low. rest_of (λ entry. IsByOwner owner w entry.event) (x.worker == w) x (entries_of w rest) (each w low)))

are_owned : (owner : ℕ → Option ℕ) (history : History) → AllByRecursion (λ entry. IsByOwner owner entry.worker entry.event) history → AreOwned owner history
are_owned owner [] all = tt
are_owned owner (entry ∷ before) all = (are_owned owner before all.1, all.0)

-- each begin is by its task's owner
pub owned_all : (owner : ℕ → Option ℕ) (n : ℕ) (journal : List Entry) → AllByRecursion (λ entry. entry.worker < n) journal
    → ((w : ℕ) → w < n → AllByRecursion (λ entry. IsByOwner owner w entry.event) (entries_of w journal)) → AreOwned owner (history_of journal)
owned_all owner n journal known each = are_owned owner (history_of journal) (all_reverse (λ entry. IsByOwner owner entry.worker entry.event) journal (owned_each owner n journal known each))
