-- Workers that are taken off the end of a list two by two, and put back.
use Rattle.std.proofs.Common.{◌≡◌, ℕ, ◌+◌, ◌<◌, List, [], ◌∷◌, ◌++◌, length, get_or, refl, ap, sym, ◌∙◌, subst, arith, length-append, append_assoc}
use Rattle.std.proofs.Math.ListN.{get_or-append}
use Rattle.std.proofs.Math.Seq.{get_or-append_seam}
use Rattle.turn_lock.specs.Passes.{LockId, WorkerView}
use Rattle.memory_lock.specs.Crew.{IsWorker, AreNew, AreWorkers}
use Rattle.memory_lock.proofs.Crews.{each_push, length_push}

-- something of each worker and its place
abbrev Each : (ℕ → WorkerView → Type 0) → List WorkerView → Type 0
Each P workers = (k : ℕ) (any : WorkerView) → k < length workers → P k (get_or workers k any)

length_two : (xs : List WorkerView) (a b : WorkerView) → length (xs ++ a ∷ b ∷ []) ≡ length xs + 2
length_two xs a b = length-append xs (a ∷ b ∷ [])

longer : (ws xs : List WorkerView) (a b : WorkerView) → ws ≡ xs ++ a ∷ b ∷ [] → length ws ≡ length xs + 2
longer ws xs a b is = ap length is ∙ length_two xs a b

before_two : (P : ℕ → WorkerView → Type 0) (ws xs : List WorkerView) (a b : WorkerView) → ws ≡ xs ++ a ∷ b ∷ [] → Each P ws → Each P xs
before_two P ws xs a b is each k d h =
    let long = longer ws xs a b is in
    subst (P k) (ap (λ (l : List WorkerView). get_or l k d) is ∙ get_or-append xs (a ∷ b ∷ []) d k h) (each k d (omega arith))

one_of : (P : ℕ → WorkerView → Type 0) (ws xs : List WorkerView) (a b : WorkerView) → ws ≡ xs ++ a ∷ b ∷ [] → Each P ws → P (length xs) a
one_of P ws xs a b is each =
    let long = longer ws xs a b is in
    subst (P (length xs)) (ap (λ (l : List WorkerView). get_or l (length xs) a) is ∙ get_or-append_seam xs a (b ∷ []) a) (each (length xs) a (omega arith))

other_of : (P : ℕ → WorkerView → Type 0) (ws xs : List WorkerView) (a b : WorkerView) → ws ≡ xs ++ a ∷ b ∷ [] → Each P ws → P (length xs + 1) b
other_of P ws xs a b is each =
    let long = longer ws xs a b is in
    let one = length_push xs a in
    let whole : ws ≡ (xs ++ a ∷ []) ++ b ∷ [] = is ∙ sym (append_assoc xs (a ∷ []) (b ∷ [])) in
    subst (λ (n : ℕ). P n b) one
    (subst (P (length (xs ++ a ∷ []))) (ap (λ (l : List WorkerView). get_or l (length (xs ++ a ∷ [])) b) whole ∙ get_or-append_seam (xs ++ a ∷ []) b [] b) (each (length (xs ++ a ∷ [])) b (omega arith)))

after_two : (P : ℕ → WorkerView → Type 0) (xs : List WorkerView) (a b : WorkerView) → Each P xs → P (length xs) a → P (length xs + 1) b → Each P (xs ++ a ∷ b ∷ [])
after_two P xs a b each pa pb k d h =
    let one = length_push xs a in
    let two = length_two xs a b in
    subst (λ (l : List WorkerView). P k (get_or l k d)) (append_assoc xs (a ∷ []) (b ∷ []))
    (each_push P (xs ++ a ∷ []) b (λ i e less. each_push P xs a each pa i e (omega arith)) (subst (λ (n : ℕ). P n b) (sym one) pb) k d (omega arith))

-- a new worker, at its place
abbrev IsNew : LockId → ℕ → ℕ → WorkerView → Type 0
IsNew lock count number worker = IsWorker lock count number worker × (worker.seen ≡ [])

-- the same, wherever it stands
abbrev StartsAs : LockId → ℕ → WorkerView → Type 0
StartsAs lock count worker = IsWorker lock count worker.number worker × (worker.seen ≡ [])

starts : (lock : LockId) (count number : ℕ) (worker : WorkerView) → IsNew lock count number worker → StartsAs lock count worker
starts lock count number worker is = (subst (λ (n : ℕ). IsWorker lock count n worker) (sym is.0.number_is) is.0, is.1)

all_new : (lock : LockId) (count : ℕ) (ws : List WorkerView) → AreWorkers lock count ws → AreNew ws → Each (IsNew lock count) ws
all_new lock count ws all new k d h = (all.1 k d (subst (λ (n : ℕ). k < n) all.0 h), new k d h)

each_worker : (lock : LockId) (count : ℕ) (ws : List WorkerView) → AreWorkers lock count ws → Each (IsWorker lock count) ws
each_worker lock count ws all k d h = all.1 k d (subst (λ (n : ℕ). k < n) all.0 h)

new_before : (lock : LockId) (count : ℕ) (ws xs : List WorkerView) (a b : WorkerView) → Each (IsNew lock count) ws → ws ≡ xs ++ a ∷ b ∷ [] → Each (IsNew lock count) xs
new_before lock count ws xs a b each is = before_two (IsNew lock count) ws xs a b is each

one_starts : (lock : LockId) (count : ℕ) (ws xs : List WorkerView) (a b : WorkerView) → Each (IsNew lock count) ws → ws ≡ xs ++ a ∷ b ∷ [] → StartsAs lock count a
one_starts lock count ws xs a b each is = starts lock count (length xs) a (one_of (IsNew lock count) ws xs a b is each)

other_starts : (lock : LockId) (count : ℕ) (ws xs : List WorkerView) (a b : WorkerView) → Each (IsNew lock count) ws → ws ≡ xs ++ a ∷ b ∷ [] → StartsAs lock count b
other_starts lock count ws xs a b each is = starts lock count (length xs + 1) b (other_of (IsNew lock count) ws xs a b is each)

-- as many workers, each at its place
abbrev Stand : LockId → ℕ → ℕ → List WorkerView → Type 0
Stand lock count many ws = (length ws ≡ many) × Each (IsWorker lock count) ws

put_back : (lock : LockId) (count : ℕ) (ws xs zs later : List WorkerView) (a b a' b' : WorkerView) → Each (IsWorker lock count) ws → ws ≡ xs ++ a ∷ b ∷ []
    → Stand lock count (length xs) zs → IsWorker lock count a.number a' → IsWorker lock count b.number b' → later ≡ zs ++ a' ∷ b' ∷ [] → Stand lock count (length ws) later
put_back lock count ws xs zs later a b a' b' each is stand one other put =
    let W = IsWorker lock count in
    let at_a : a.number ≡ length zs = (one_of W ws xs a b is each).number_is ∙ sym stand.0 in
    let at_b : b.number ≡ length zs + 1 = (other_of W ws xs a b is each).number_is ∙ ap (λ n. n + 1) (sym stand.0) in (
      longer later zs a' b' put ∙ ap (λ n. n + 2) stand.0 ∙ sym (longer ws xs a b is),
      subst (Each W) (sym put) (after_two W zs a' b' stand.1 (subst (λ (n : ℕ). W n a') at_a one) (subst (λ (n : ℕ). W n b') at_b other)),
    )

front_stands : (lock : LockId) (count : ℕ) (ws xs : List WorkerView) (a b : WorkerView) → Each (IsWorker lock count) ws → ws ≡ xs ++ a ∷ b ∷ [] → Stand lock count (length xs) xs
front_stands lock count ws xs a b each is = (refl, before_two (IsWorker lock count) ws xs a b is each)

all_back : (lock : LockId) (count : ℕ) (ws later : List WorkerView) → AreWorkers lock count ws → Stand lock count (length ws) later → AreWorkers lock count later
all_back lock count ws later all stand =
    let long : length later ≡ count = stand.0 ∙ all.0 in
    (long, λ k d h. stand.1 k d (subst (λ (n : ℕ). k < n) (sym long) h))

pub two_back : (lock : LockId) (count : ℕ) (ws xs later : List WorkerView) (a b a' b' : WorkerView) → AreWorkers lock count ws → ws ≡ xs ++ a ∷ b ∷ []
    → IsWorker lock count a.number a' → IsWorker lock count b.number b' → later ≡ xs ++ a' ∷ b' ∷ [] → AreWorkers lock count later
two_back lock count ws xs later a b a' b' all is one other put =
    let each = each_worker lock count ws all in
    all_back lock count ws later all (put_back lock count ws xs xs later a b a' b' each is (front_stands lock count ws xs a b each is) one other put)

pub four_back : (lock : LockId) (count : ℕ) (ws ys xs mid later : List WorkerView) (a b c d a' b' c' d' : WorkerView) → AreWorkers lock count ws → ws ≡ ys ++ c ∷ d ∷ [] → ys ≡ xs ++ a ∷ b ∷ []
    → IsWorker lock count a.number a' → IsWorker lock count b.number b' → IsWorker lock count c.number c' → IsWorker lock count d.number d'
    → mid ≡ xs ++ a' ∷ b' ∷ [] → later ≡ mid ++ c' ∷ d' ∷ [] → AreWorkers lock count later
four_back lock count ws ys xs mid later a b c d a' b' c' d' all is before first second third fourth put again =
    let each = each_worker lock count ws all in
    let lower = before_two (IsWorker lock count) ws ys c d is each in
    let stand = put_back lock count ys xs xs mid a b a' b' lower before (front_stands lock count ys xs a b lower before) first second put in
    all_back lock count ws later all (put_back lock count ws ys mid later c d c' d' each is stand third fourth again)

-- the two that are taken off a list of new workers are new
pub new_one : (lock : LockId) (count : ℕ) (ws xs : List WorkerView) (a b : WorkerView) → AreWorkers lock count ws → AreNew ws → ws ≡ xs ++ a ∷ b ∷ [] → StartsAs lock count a
new_one lock count ws xs a b all new is = one_starts lock count ws xs a b (all_new lock count ws all new) is

pub new_other : (lock : LockId) (count : ℕ) (ws xs : List WorkerView) (a b : WorkerView) → AreWorkers lock count ws → AreNew ws → ws ≡ xs ++ a ∷ b ∷ [] → StartsAs lock count b
new_other lock count ws xs a b all new is = other_starts lock count ws xs a b (all_new lock count ws all new) is

-- and the two before them
pub new_one_before : (lock : LockId) (count : ℕ) (ws ys xs : List WorkerView) (a b c d : WorkerView) → AreWorkers lock count ws → AreNew ws → ws ≡ ys ++ c ∷ d ∷ [] → ys ≡ xs ++ a ∷ b ∷ [] → StartsAs lock count a
new_one_before lock count ws ys xs a b c d all new is before = one_starts lock count ys xs a b (new_before lock count ws ys c d (all_new lock count ws all new) is) before

pub new_other_before : (lock : LockId) (count : ℕ) (ws ys xs : List WorkerView) (a b c d : WorkerView) → AreWorkers lock count ws → AreNew ws → ws ≡ ys ++ c ∷ d ∷ [] → ys ≡ xs ++ a ∷ b ∷ [] → StartsAs lock count b
new_other_before lock count ws ys xs a b c d all new is before = other_starts lock count ys xs a b (new_before lock count ws ys c d (all_new lock count ws all new) is) before
