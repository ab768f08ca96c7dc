-- A list that was seen is a part of the history, and of all that the history goes on with. For the layers above, too.
use Rattle.std.proofs.Common.{◌≡◌, ◌≢◌, ℕ, ◌<◌, List, [], ◌++◌, length, get_or, All, Contains, Bool, true, false, cond, nat_lt, ltb-true, ltb-false, refl, ap, sym, ◌∙◌, subst, arith, append-nil}
use mathlib.Core.List.{IsPrefix}
use Rattle.pool_ledger.specs.declared.entry.Entry.{Entry}
use Rattle.pool_ledger.specs.Workers.{entries_of, Continues}
use Rattle.turn_lock.specs.Parts.{IsPart, longer}
use Rattle.turn_lock.proofs.Prefixes.{prefix_self, prefix_trans, prefix_shorter, all_rest}
use Rattle.turn_lock.proofs.Entries.{entries_of-continued, entries_of-between, whole_of}

pub none_in : (n : ℕ) → Contains [] n → ⊥
none_in n h = absurd (let less = h.1 in omega arith)

pub part_self : (numbers : List ℕ) (xs : List Entry) → IsPart numbers xs xs
part_self numbers xs = record { begins = prefix_self xs; own = λ n _. refl }

-- of no worker, the beginning of a list is a part of it
pub part_nobody : (xs ys : List Entry) → IsPrefix xs ys → IsPart [] xs ys
part_nobody xs ys p = record { begins = p; own = λ n h. absurd (none_in n h) }

-- a part for more numbers is one for fewer
pub part_trans : (ms ns : List ℕ) (xs ys zs : List Entry) → IsPart ms xs ys → IsPart ns ys zs → ((n : ℕ) → Contains ms n → Contains ns n) → IsPart ms xs zs
part_trans ms ns xs ys zs p q within = record { begins = prefix_trans xs ys zs p.begins q.begins; own = λ n h. q.own n (within n h) ∙ p.own n h }

-- what lies between a part and the whole
pub part_between : (numbers : List ℕ) (xs ys zs : List Entry) → IsPart numbers xs zs → IsPrefix xs ys → IsPrefix ys zs → IsPart numbers xs ys
part_between numbers xs ys zs part p q = record { begins = p; own = λ n h. entries_of-between n xs ys zs p q (part.own n h) }

-- the history goes on with entries of a worker of another number
pub part_continued : (numbers : List ℕ) (xs ys zs : List Entry) (m : ℕ) → IsPart numbers xs ys → Continues m ys zs → ((n : ℕ) → Contains numbers n → n ≢ m) → IsPart numbers xs zs
part_continued numbers xs ys zs m part more apart = record {
  begins = prefix_trans xs ys zs part.begins (more.0, more.1);
  own = λ n h. entries_of-continued n m ys zs more (apart n h) ∙ part.own n h;
}

-- two parts of one history are parts of the longer of them
pub parts_longer : (past xs ys : List Entry) (ms ns : List ℕ) → IsPart ms xs past → IsPart ns ys past → IsPrefix (longer xs ys) past × IsPart ms xs (longer xs ys) × IsPart ns ys (longer xs ys)
parts_longer past xs ys ms ns p q = longer_if (nat_lt (length xs) (length ys)) refl
  where
    longer_if : (b : Bool) → nat_lt (length xs) (length ys) ≡ b → IsPrefix (cond b ys xs) past × IsPart ms xs (cond b ys xs) × IsPart ns ys (cond b ys xs)
    longer_if true is =
        let below : length xs < length ys = ltb-true (length xs) (length ys) is in
        (q.begins, part_between ms xs ys past p (prefix_shorter xs ys past p.begins q.begins (omega arith)) q.begins, part_self ns ys)
    longer_if false is = (p.begins, part_self ms xs, part_between ns ys xs past q (prefix_shorter ys xs past q.begins p.begins (ltb-false (length xs) (length ys) is)) p.begins)

-- a part for all who wrote is the whole
pub part_whole : (numbers : List ℕ) (xs ys : List Entry) → IsPart numbers xs ys → All (λ e. Contains numbers e.worker) ys → ys ≡ xs
part_whole numbers xs ys part all =
    let more : List Entry = part.begins.0 in
    let is : xs ++ more ≡ ys = part.begins.1 in
    let in_more : All (λ e. Contains numbers e.worker) more = all_rest (λ e. Contains numbers e.worker) xs more (subst (All (λ e. Contains numbers e.worker)) (sym is) all) in
    let none : more ≡ [] = whole_of xs more (λ i d l. ap (entries_of (get_or more i d).worker) is ∙ part.own (get_or more i d).worker (in_more i d l)) in
    sym is ∙ (ap (λ (m : List Entry). xs ++ m) none ∙ append-nil xs)
