-- Whose entries a history has, and what a worker adds to it. For the layers above, too.
use Rattle.std.proofs.Common.{◌≡◌, ◌≢◌, ℕ, ◌<◌, List, [], ◌∷◌, ◌++◌, length, All, ◌==◌, refl, ap, sym, ◌∙◌, arith, length-append, append_assoc, append-nil, eq-eqb, ne_eqb}
use Rattle.std.proofs.lemmas.List.Elements.{All-append, All-cons, All-nil, filter-append}
use Rattle.std.proofs.lemmas.List.{nil_from_length}
use mathlib.Core.List.{IsPrefix}
use Rattle.pool_ledger.specs.declared.entry.Entry.{Entry}
use Rattle.pool_ledger.specs.Workers.{entries_of, Continues}
use Rattle.turn_lock.proofs.Prefixes.{all_head, all_tail}

-- Histories that go on

pub continues_self : (n : ℕ) (xs : List Entry) → Continues n xs xs
continues_self n xs = ([], append-nil xs, All-nil (λ (e : Entry). e.worker ≡ n))

pub continues_more : (n : ℕ) (xs more : List Entry) → All (λ e. e.worker ≡ n) more → Continues n xs (xs ++ more)
continues_more n xs more all = (more, refl, all)

pub continues_one : (n : ℕ) (xs : List Entry) (x : Entry) → x.worker ≡ n → Continues n xs (xs ++ x ∷ [])
continues_one n xs x is = (x ∷ [], refl, All-cons (λ (e : Entry). e.worker ≡ n) x [] is (All-nil (λ (e : Entry). e.worker ≡ n)))

pub continues_trans : (n : ℕ) (xs ys zs : List Entry) → Continues n xs ys → Continues n ys zs → Continues n xs zs
continues_trans n xs ys zs c d = (
  c.0 ++ d.0,
  sym (append_assoc xs c.0 d.0) ∙ (ap (λ w. w ++ d.0) c.1 ∙ d.1),
  All-append (λ (e : Entry). e.worker ≡ n) c.0 d.0 c.2 d.2,
)

pub continues_prefix : (n : ℕ) (xs ys : List Entry) → Continues n xs ys → IsPrefix xs ys
continues_prefix n xs ys c = (c.0, c.1)

-- Entries of one worker

pub entries_of-append : (n : ℕ) (xs ys : List Entry) → entries_of n (xs ++ ys) ≡ entries_of n xs ++ entries_of n ys
entries_of-append n xs ys = filter-append (λ e. e.worker == n) xs ys

pub entries_of-own : (x : Entry) (xs : List Entry) → entries_of x.worker (x ∷ xs) ≡ x ∷ entries_of x.worker xs
entries_of-own x xs = rw (eq-eqb x.worker x.worker refl) refl

-- entries of other workers alone
pub entries_of-others : (n : ℕ) (xs : List Entry) → All (λ e. e.worker ≢ n) xs → entries_of n xs ≡ []
entries_of-others n [] all = refl
entries_of-others n (x ∷ xs) all = rw (ne_eqb x.worker n (all_head (λ e. e.worker ≢ n) x xs all)) (entries_of-others n xs (all_tail (λ e. e.worker ≢ n) x xs all))

-- entries of this worker alone
pub entries_of-alone : (n : ℕ) (xs : List Entry) → All (λ e. e.worker ≡ n) xs → entries_of n xs ≡ xs
entries_of-alone n [] all = refl
entries_of-alone n (x ∷ xs) all = rw (eq-eqb x.worker n (all_head (λ e. e.worker ≡ n) x xs all)) (ap (λ w. x ∷ w) (entries_of-alone n xs (all_tail (λ e. e.worker ≡ n) x xs all)))

-- a number that was not given away has no entry
pub entries_of-unknown : (n : ℕ) (xs : List Entry) → All (λ e. e.worker < n) xs → entries_of n xs ≡ []
entries_of-unknown n xs all = entries_of-others n xs (λ k d h. let less = all k d h in λ e. omega arith)

-- a beginning has a beginning of each worker's entries
pub entries_of-prefix : (n : ℕ) (xs ys : List Entry) → IsPrefix xs ys → IsPrefix (entries_of n xs) (entries_of n ys)
entries_of-prefix n xs ys p = (entries_of n p.0, sym (entries_of-append n xs p.0) ∙ ap (entries_of n) p.1)

-- what one worker adds leaves the entries of another
pub entries_of-continued : (n m : ℕ) (xs ys : List Entry) → Continues m xs ys → n ≢ m → entries_of n ys ≡ entries_of n xs
entries_of-continued n m xs ys more other =
    sym (ap (entries_of n) more.1) ∙ entries_of-append n xs more.0
    ∙ ap (λ w. entries_of n xs ++ w) (entries_of-others n more.0 (λ k d h. let is = more.2 k d h in λ e. other (sym e ∙ is)))
    ∙ append-nil (entries_of n xs)

-- what a worker adds stands behind its entries
pub entries_of-continues : (n : ℕ) (xs ys : List Entry) (more : Continues n xs ys) → entries_of n ys ≡ entries_of n xs ++ more.0
entries_of-continues n xs ys more =
    sym (ap (entries_of n) more.1) ∙ entries_of-append n xs more.0 ∙ ap (λ w. entries_of n xs ++ w) (entries_of-alone n more.0 more.2)

-- one entry more
pub entries_of-push : (n : ℕ) (xs : List Entry) (x : Entry) → x.worker ≡ n → entries_of n (xs ++ x ∷ []) ≡ entries_of n xs ++ x ∷ []
entries_of-push n xs x is = entries_of-continues n xs (xs ++ x ∷ []) (x ∷ [], refl, All-cons (λ (e : Entry). e.worker ≡ n) x [] is (All-nil (λ (e : Entry). e.worker ≡ n)))

-- a list between two that have the same entries of n has them too
pub entries_of-between : (n : ℕ) (xs ys zs : List Entry) → IsPrefix xs ys → IsPrefix ys zs → entries_of n zs ≡ entries_of n xs → entries_of n ys ≡ entries_of n xs
entries_of-between n xs ys zs p q same =
    let a : List Entry = entries_of n xs in
    let b : List Entry = entries_of n p.0 in
    let c : List Entry = entries_of n q.0 in
    let ys_is : entries_of n ys ≡ a ++ b = sym (ap (entries_of n) p.1) ∙ entries_of-append n xs p.0 in
    let zs_is : entries_of n zs ≡ (a ++ b) ++ c = sym (ap (entries_of n) q.1) ∙ entries_of-append n ys q.0 ∙ ap (λ w. w ++ c) ys_is in
    let long : length a ≡ length ((a ++ b) ++ c) = ap length (sym same ∙ zs_is) in
    let none : b ≡ [] = nil_from_length b (omega (arith, length-append (a ++ b) c, length-append a b)) in
    ys_is ∙ ap (λ w. a ++ w) none ∙ append-nil a

-- a beginning that has the entries of each worker is the whole
pub whole_of : (xs more : List Entry) → All (λ e. entries_of e.worker (xs ++ more) ≡ entries_of e.worker xs) more → more ≡ []
whole_of xs [] all = refl
whole_of xs (x ∷ more) all =
    let n : ℕ = x.worker in
    let a : List Entry = entries_of n xs in
    let same : entries_of n (xs ++ (x ∷ more)) ≡ a = all_head (λ e. entries_of e.worker (xs ++ (x ∷ more)) ≡ entries_of e.worker xs) x more all in
    let long : length a ≡ length (a ++ (x ∷ entries_of n more)) = ap length (sym same ∙ entries_of-append n xs (x ∷ more) ∙ ap (λ w. a ++ w) (entries_of-own x more)) in
    absurd (omega (arith, length-append a (x ∷ entries_of n more)))
