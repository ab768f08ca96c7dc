-- Victims go one by one, until the attempt or the admission that they are for.
use Rattle.std.proofs.Common.{◌≡◌, ◌∙◌, ◌∷◌, ◌++◌, [], ℕ, ◌-◌, ◌≤◌, Bool, true, false, not, ◌&&◌, cond, List, Option, Some, None, length, map, count_by, refl, sym, ap, subst, inl, inr, arith}
use Rattle.std.specs.Prelude.{nat_eq, nat_lt}
use Rattle.std.specs.List.{filter, find}
use Rattle.std.specs.Option.{option_map}
use Rattle.std.proofs.lemmas.Bool.{cases_Bool, and_parts, cond-true, cond-false, eq-eqb}
use Rattle.std.proofs.lemmas.List.Sums.{sum_by-cons}
use Rattle.pool_ledger.specs.declared.entry.Event.{Event}
use Rattle.pool_ledger.specs.declared.entry.Event.TheVariants.{Evict}
use Rattle.pool_ledger.specs.declared.entry.Fate.{Fate}
use Rattle.pool_ledger.specs.Sizes.{Sizes}
use Rattle.pool_ledger.specs.History.{History, total, open_task}
use Rattle.pool_ledger.specs.Blocks.{Resident, evictable, front_reaching, is_block, is_excepted, is_pinned, is_resident, pin_of, unpin_of, residents, without}
use Rattle.pool_ledger.specs.Answers.{growth, answer, admission}
use Rattle.pool_ledger.specs.Legal.{evicted_of, settled}
use Rattle.pool_ledger.proofs.Residents.{different}
use Rattle.pool_laws.specs.Growing.{entry_by}
use Rattle.pool_laws.specs.Evicting.{eviction_by, VictimsAreFirst, VictimsMayGo, AttemptsMayFollow, AdmissionsMayFollow, EvictsOneByOne}
use Rattle.pool_laws.proofs.NextEntries.{whole}
use Rattle.pool_laws.proofs.Passing.{holds}

-- ---- lists

module _ {X : Type 0} where
  -- a front is a front
  pub front_first : (size : X → ℕ) (need : ℕ) (xs front : List X) → front_reaching size need xs ≡ Some front → (behind : List X) × (xs ≡ front ++ behind)
  front_first size need [] front is = elim (cases_Bool (nat_eq need 0)) [
    | inl none ↦ let empty : [] ≡ front = cc (sym (cond-true (nat_eq need 0) (Some []) None none) ∙ is) in ([], subst (λ (ys : List X). [] ≡ ys ++ []) empty refl)
    | inr some ↦ absurd (cc (sym (cond-false (nat_eq need 0) (Some []) None some) ∙ is))
  ]
  front_first size need (x ∷ xs) front is = elim (cases_Bool (nat_eq need 0)) [
    | inl none ↦ let empty : [] ≡ front = cc (sym (cond-true (nat_eq need 0) (Some []) (option_map (λ ys. x ∷ ys) (front_reaching size (need - size x) xs)) none) ∙ is) in (x ∷ xs, subst (λ (ys : List X). x ∷ xs ≡ ys ++ x ∷ xs) empty refl)
    | inr some ↦ with_rest (front_reaching size (need - size x) xs) (λ ys found. front_first size (need - size x) xs ys found) (sym (cond-false (nat_eq need 0) (Some []) (option_map (λ ys. x ∷ ys) (front_reaching size (need - size x) xs)) some) ∙ is)
  ]
    where
      with_rest : (found : Option (List X)) → ((ys : List X) → found ≡ Some ys → (behind : List X) × (xs ≡ ys ++ behind)) → option_map (λ ys. x ∷ ys) found ≡ Some front → (behind : List X) × (x ∷ xs ≡ front ++ behind)
      with_rest None later shown = absurd (cc shown)
      with_rest (Some ys) later shown =
          let rest = later ys refl in
          let starts : x ∷ ys ≡ front = cc shown in
          (rest.0, subst (λ (zs : List X). x ∷ xs ≡ zs ++ rest.0) starts (ap (λ zs. x ∷ zs) rest.1))

  pub find_counted : (n : X → Bool) (xs : List X) (b : X) → find n xs ≡ Some b → 1 ≤ count_by n xs
  find_counted n [] b found = absurd (cc found)
  find_counted n (x ∷ xs) b found = elim (cases_Bool (n x)) [
    | inl here ↦ omega (arith, sum_by-cons (λ y. cond {A = ℕ} (n y) 1 0) x xs, cond-true {A = ℕ} (n x) 1 0 here)
    | inr past ↦ omega (arith, sum_by-cons (λ y. cond {A = ℕ} (n y) 1 0) x xs, find_counted n xs b (sym (cond-false (n x) (Some x) (find n xs) past) ∙ found))
  ]

  none_removed : (n : X → Bool) (xs : List X) → count_by n xs ≡ 0 → filter (λ x. not (n x)) xs ≡ xs
  none_removed n [] none = refl
  none_removed n (x ∷ xs) none = elim (cases_Bool (n x)) [
    | inl here ↦ absurd (omega (arith, none, sum_by-cons (λ y. cond {A = ℕ} (n y) 1 0) x xs, cond-true {A = ℕ} (n x) 1 0 here))
    | inr past ↦
        cond-true (not (n x)) (x ∷ filter (λ y. not (n y)) xs) (filter (λ y. not (n y)) xs) (ap not past)
        ∙ ap (λ ys. x ∷ ys) (none_removed n xs (omega (arith, none, sum_by-cons (λ y. cond {A = ℕ} (n y) 1 0) x xs)))
  ]

  -- the first that passes, where one alone has its name
  record IsFirstOf (q n : X → Bool) (xs : List X) (b : X) (rest : List X) : Type 0 where
    found : find n xs ≡ Some b
    passes : q b ≡ true
    others : filter q (filter (λ x. not (n x)) xs) ≡ rest

  first_of : (q n : X → Bool) (b : X) → n b ≡ true → (xs rest : List X) → count_by n xs ≤ 1 → filter q xs ≡ b ∷ rest → IsFirstOf q n xs b rest
  first_of q n b named [] rest few is = absurd (cc is)
  first_of q n b named (x ∷ xs) rest few is = elim (cases_Bool (q x)) [
    | inl passes ↦
        let shown : x ∷ filter q xs ≡ b ∷ rest = sym (cond-true (q x) (x ∷ filter q xs) (filter q xs) passes) ∙ is in
        let same : x ≡ b = cc shown in
        let tail : filter q xs ≡ rest = cc shown in
        let here : n x ≡ true = ap n same ∙ named in
        let none : count_by n xs ≡ 0 = omega (arith, few, sum_by-cons (λ y. cond {A = ℕ} (n y) 1 0) x xs, cond-true {A = ℕ} (n x) 1 0 here) in
        record {
          found = cond-true (n x) (Some x) (find n xs) here ∙ ap Some same;
          passes = sym (ap q same) ∙ passes;
          others = ap (filter q) (cond-false (not (n x)) (x ∷ filter (λ y. not (n y)) xs) (filter (λ y. not (n y)) xs) (ap not here) ∙ none_removed n xs none) ∙ tail;
        }
    | inr fails ↦
        let later : filter q xs ≡ b ∷ rest = sym (cond-false (q x) (x ∷ filter q xs) (filter q xs) fails) ∙ is in
        let fewer : count_by n xs ≤ 1 = omega (arith, few, sum_by-cons (λ y. cond {A = ℕ} (n y) 1 0) x xs) in
        let first = first_of q n b named xs rest fewer later in
        elim (cases_Bool (n x)) [
          | inl here ↦ absurd (omega (arith, few, sum_by-cons (λ y. cond {A = ℕ} (n y) 1 0) x xs, cond-true {A = ℕ} (n x) 1 0 here, find_counted n xs b first.found))
          | inr past ↦ record {
            found = cond-false (n x) (Some x) (find n xs) past ∙ first.found;
            passes = first.passes;
            others =
                ap (filter q) (cond-true (not (n x)) (x ∷ filter (λ y. not (n y)) xs) (filter (λ y. not (n y)) xs) (ap not past))
                ∙ cond-false (q x) (x ∷ filter q (filter (λ y. not (n y)) xs)) (filter q (filter (λ y. not (n y)) xs)) fails ∙ first.others;
          }
        ]
  ]

  filter-same : (p q : X → Bool) (xs : List X) → ((x : X) → p x ≡ q x) → filter p xs ≡ filter q xs
  filter-same p q [] same = refl
  filter-same p q (x ∷ xs) same = rw (same x, filter-same p q xs same) refl

-- ---- one victim goes

abbrev pub may_go : History → Option ℕ → Resident → Bool
may_go history except block = not (is_pinned history block.dataset block.part) && not (is_excepted except block.dataset)

pins_stay : (history : History) (worker : ℕ) (block : Resident) (fate : Fate) (d p : ℕ) → is_pinned (eviction_by worker block fate ∷ history) d p ≡ is_pinned history d p
pins_stay history worker block fate d p =
    let unpins : total (unpin_of d p) (eviction_by worker block fate ∷ history) ≡ total (unpin_of d p) history = omega arith in
    let pins : total (pin_of d p) (eviction_by worker block fate ∷ history) ≡ total (pin_of d p) history = omega arith in
    ap (λ n. nat_lt n (total (pin_of d p) (eviction_by worker block fate ∷ history))) unpins ∙ ap (nat_lt (total (unpin_of d p) history)) pins

pub its_name : (block : Resident) → is_block block.dataset block.part block ≡ true
its_name block = rw (eq-eqb block.dataset block.dataset refl, eq-eqb block.part block.part refl) refl

isn't : (b : Bool) → not b ≡ true → b ≡ false
isn't true h = cc h
isn't false h = refl

next_goes : (setup : Sizes) → setup.region ≤ setup.maximum → VictimsMayGo setup
next_goes setup region history base worker except gone left block fate permitted known evicting suits =
    let recorded = (holds setup history region permitted).recorded in
    let first = first_of (may_go history except) (is_block block.dataset block.part) block (its_name block) (residents history) (left ++ evicting.behind) (different setup history recorded block.dataset block.part) (starts evicting.left_first) in
    let unpinned = isn't (is_pinned history block.dataset block.part) (and_parts (not (is_pinned history block.dataset block.part)) (not (is_excepted except block.dataset)) (passes first.passes)).0 in (
      record {
        worker_known = known;
        own_turn = evicting.own_turn;
        event = (block, record { resident = first.found; size_is = refl; unpinned = unpinned }, suits);
      },
      record {
        base_is = evicting.base_is;
        gone_is = ap (λ bs. bs ++ evicted_of block ∷ []) evicting.gone_is ∙ sym (mapped gone);
        own_turn = eq-eqb worker worker refl;
        behind = evicting.behind;
        left_first = rest first.others;
      },
    )
  where
    starts : evictable history except ≡ (block ∷ left) ++ evicting.behind → filter (may_go history except) (residents history) ≡ block ∷ (left ++ evicting.behind)
    starts is = is

    passes : may_go history except block ≡ true → (not (is_pinned history block.dataset block.part) && not (is_excepted except block.dataset)) ≡ true
    passes is = is

    mapped : (blocks : List Resident) → map evicted_of (blocks ++ block ∷ []) ≡ map evicted_of blocks ++ evicted_of block ∷ []
    mapped [] = refl
    mapped (b ∷ blocks) = ap (λ bs. evicted_of b ∷ bs) (mapped blocks)

    rest : filter (may_go history except) (filter (λ b. not (is_block block.dataset block.part b)) (residents history)) ≡ left ++ evicting.behind → evictable (eviction_by worker block fate ∷ history) except ≡ left ++ evicting.behind
    rest is =
        filter-same (λ b. not (is_pinned (eviction_by worker block fate ∷ history) b.dataset b.part) && not (is_excepted except b.dataset)) (λ b. not (is_pinned history b.dataset b.part) && not (is_excepted except b.dataset)) (without block.dataset block.part (residents history))
        (λ b. ap (λ pinned. not pinned && not (is_excepted except b.dataset)) (pins_stay history worker block fate b.dataset b.part))
        ∙ is

-- ---- the first victim, and what follows the last

victims_first : (setup : Sizes) → VictimsAreFirst setup
victims_first setup history worker need except front legal found =
    let now = whole history legal.whole in
    let first = front_first (λ (block : Resident). block.size) need (evictable history except) front found in
    record { base_is = now.all_settled; gone_is = legal.whole; own_turn = now.any_turn worker; behind = first.0; left_first = first.1 }

same_either : (b : Bool) (x : Option ℕ) → cond b x x ≡ x
same_either true x = refl
same_either false x = refl

open_settled-more : (before : History) (worker by : ℕ) (event : Event) → open_task before worker ≡ open_task (settled before) worker
    → open_task (entry_by by event ∷ before) worker ≡ open_task (settled (entry_by by event ∷ before)) worker
open_settled-more before worker by (Evict d p size fate) same = same_either (nat_eq by worker) (open_task before worker) ∙ same
open_settled-more before worker by _ same = refl

pub open_settled : (history : History) (worker : ℕ) → open_task history worker ≡ open_task (settled history) worker
open_settled [] worker = refl
open_settled (entry ∷ before) worker = open_settled-more before worker entry.worker entry.event (open_settled before worker)

attempts_follow : (setup : Sizes) → AttemptsMayFollow setup
attempts_follow setup history base worker task asked evicting known its some small = record {
  worker_known = known;
  own_turn = evicting.own_turn;
  event = (
    open_settled history worker ∙ ap (λ h. open_task h worker) evicting.base_is ∙ its,
    record {
      asked_some = some;
      asked_small = small;
      evicts = record {
        blocks_are = evicting.gone_is ∙ ap (λ h. map evicted_of (growth setup h asked).evicted) (sym evicting.base_is);
        number = ap (λ h. length (growth setup h asked).evicted) (sym evicting.base_is);
      };
      moves = ap (λ h. (growth setup h asked).moved) (sym evicting.base_is);
      answers = ap (λ h. answer setup h task asked) (sym evicting.base_is);
    },
  );
}

admissions_follow : (setup : Sizes) → AdmissionsMayFollow setup
admissions_follow setup = record {
  admits = λ history base worker dataset part size level evicting known absent admitted. record {
    worker_known = known;
    own_turn = evicting.own_turn;
    event = record {
      absent = ap (λ h. is_resident h dataset part) evicting.base_is ∙ absent;
      answers = sym admitted ∙ ap (λ h. (admission setup h dataset size).admitted) (sym evicting.base_is);
      borrows = ap (λ h. (admission setup h dataset size).borrowed) (sym evicting.base_is);
      evicts = record {
        blocks_are = evicting.gone_is ∙ ap (λ h. map evicted_of (admission setup h dataset size).evicted) (sym evicting.base_is);
        number = ap (λ h. length (admission setup h dataset size).evicted) (sym evicting.base_is);
      };
    };
  };
  refuses = λ history base worker dataset part size evicting known absent refused. record {
    worker_known = known;
    own_turn = evicting.own_turn;
    event = record {
      absent = ap (λ h. is_resident h dataset part) evicting.base_is ∙ absent;
      answers = sym refused ∙ ap (λ h. (admission setup h dataset size).admitted) (sym evicting.base_is);
      borrows = ap (λ h. (admission setup h dataset size).borrowed) (sym evicting.base_is);
      evicts = record {
        blocks_are = evicting.gone_is ∙ ap (λ h. map evicted_of (admission setup h dataset size).evicted) (sym evicting.base_is);
        number = ap (λ h. length (admission setup h dataset size).evicted) (sym evicting.base_is);
      };
    };
  };
}

pub one_by_one : (setup : Sizes) → setup.region ≤ setup.maximum → EvictsOneByOne setup
one_by_one setup region = record { first = victims_first setup; next = next_goes setup region; attempts = attempts_follow setup; admissions = admissions_follow setup }
