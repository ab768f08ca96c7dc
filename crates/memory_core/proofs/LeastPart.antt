-- The walk for the one of the least part among the blocks of a dataset that may be removed.
use Rattle.std.proofs.Common.{◌≡◌, ℕ, suc, ◌+◌, ◌<◌, ◌≤◌, Bool, true, false, not, cond, eqb, leb, ltb, ◌&&◌, ◌⊎◌, List, [], ◌∷◌, map, length, drop, get_or, count_by, Option, Some, None, refl, sym, ap, subst, ◌∙◌, inl, inr, arith}
use Rattle.std.specs.List.{list_any, slice_get}
use Rattle.std.proofs.lemmas.Bool.{cases_Bool, and_left, and_right, cond-true, cond-false, eq-eqb, le-ltb, leb-true, leb-false, le-leb, lt-leb, or_from, not-true}
use Rattle.std.proofs.lemmas.List.{at_drop_more}
use Rattle.std.proofs.lemmas.List.Sums.{sum_by-cons}
use Rattle.std.proofs.lemmas.Option.{none-some, same_Some}
use Rattle.eviction.specs.declared.candidate.Candidate.{Candidate}
use Rattle.eviction.specs.Victims.{is_evictable}
use Rattle.block_store.specs.Stores.{HeldBlock, candidate_of}
use Rattle.memory_core.specs.Choices.{least_from, least_in, lesser, may_go_of}
use Rattle.memory_core.specs.Changes.{may_be_removed, may_be_removed_below}

-- ---- a walk for the least part

-- one block further
pub next_least : (dataset : ℕ) (least now : Option Candidate) (list : List Candidate) (i : ℕ) (d : Candidate) → i < length list
    → least_from dataset least (drop i list) ≡ least_in dataset list
    → now ≡ cond (may_go_of dataset (get_or list i d)) (lesser least (get_or list i d)) least
    → least_from dataset now (drop (i + 1) list) ≡ least_in dataset list
next_least dataset least now list i d within so_far is =
    ap (λ (l : Option Candidate). least_from dataset l (drop (i + 1) list)) is
    ∙ sym (at_drop_more (least_from dataset least) list i d within)
    ∙ so_far

-- what says of a block that it may go, whatever its dataset, says whether no pin keeps it
no_pin : (block : Candidate) (may : Bool) → may ≡ is_evictable None block → may ≡ not block.pinned
no_pin block may is = is ∙ with_none (not block.pinned)
  where
    with_none : (b : Bool) → (b && true) ≡ b
    with_none true = refl
    with_none false = refl

pub no_pin_keeps : (block : Candidate) (may : Bool) → may ≡ is_evictable None block → may ≡ true → block.pinned ≡ false
no_pin_keeps block may is goes_it = not-true block.pinned (sym (no_pin block may is) ∙ goes_it)

pub a_pin_keeps : (block : Candidate) (may : Bool) → may ≡ is_evictable None block → may ≡ false → not block.pinned ≡ false
a_pin_keeps block may is stays = sym (no_pin block may is) ∙ stays

-- a block that no pin keeps, of the dataset, may go
goes : (dataset : ℕ) (block : Candidate) → block.pinned ≡ false → block.dataset ≡ dataset → may_go_of dataset block ≡ true
goes dataset block free same = rw (free, eq-eqb block.dataset dataset same) refl

-- one of no lesser part stays behind the least so far
pub least_stays : (dataset : ℕ) (least now : Option Candidate) (other block : Candidate) → block.pinned ≡ false → block.dataset ≡ dataset
    → least ≡ Some other → other.part ≤ block.part → now ≡ Some other → now ≡ cond (may_go_of dataset block) (lesser least block) least
least_stays dataset least now other block free same was below is =
    is ∙ sym (cond-true (leb other.part block.part) (Some other) (Some block) (le-leb other.part block.part below))
    ∙ sym (ap (λ (l : Option Candidate). lesser l block) was)
    ∙ sym (cond-true (may_go_of dataset block) (lesser least block) least (goes dataset block free same))

-- one of a lesser part is the least then
pub least_falls : (dataset : ℕ) (least now : Option Candidate) (other block : Candidate) → block.pinned ≡ false → block.dataset ≡ dataset
    → least ≡ Some other → block.part < other.part → now ≡ Some block → now ≡ cond (may_go_of dataset block) (lesser least block) least
least_falls dataset least now other block free same was below is =
    is ∙ sym (cond-false (leb other.part block.part) (Some other) (Some block) (lt-leb other.part block.part below))
    ∙ sym (ap (λ (l : Option Candidate). lesser l block) was)
    ∙ sym (cond-true (may_go_of dataset block) (lesser least block) least (goes dataset block free same))

-- the first that may go is the least
pub least_begins : (dataset : ℕ) (least now : Option Candidate) (block : Candidate) → block.pinned ≡ false → block.dataset ≡ dataset
    → least ≡ None → now ≡ Some block → now ≡ cond (may_go_of dataset block) (lesser least block) least
least_begins dataset least now block free same was is =
    is
    ∙ sym (ap (λ (l : Option Candidate). lesser l block) was)
    ∙ sym (cond-true (may_go_of dataset block) (lesser least block) least (goes dataset block free same))

-- a block that may not go is passed
pub least_passes : (dataset : ℕ) (least now : Option Candidate) (block : Candidate) → may_go_of dataset block ≡ false → now ≡ least
    → now ≡ cond (may_go_of dataset block) (lesser least block) least
least_passes dataset least now block kept is = is ∙ sym (cond-false (may_go_of dataset block) (lesser least block) least kept)

-- ---- the one of the least part

-- what a choice sees of a block says whether it may be removed
same_test : (dataset : ℕ) (held : HeldBlock) → may_go_of dataset (candidate_of held) ≡ may_be_removed dataset held
same_test dataset held = turned (not (ltb 0 held.pins)) (eqb held.dataset dataset)
  where
    turned : (a b : Bool) → (a && b) ≡ (b && a)
    turned true true = refl
    turned true false = refl
    turned false true = refl
    turned false false = refl

-- a block that may be removed stands at a place of the list
pub record Stands (dataset : ℕ) (blocks : List HeldBlock) (next : Candidate) : Type 0 where
  pub place : ℕ
  pub held : HeldBlock
  pub here : slice_get blocks place ≡ Some held
  pub may_go : may_be_removed dataset held ≡ true
  pub seen : candidate_of held ≡ next

-- the one of the least part is the one that there was before, or stands in the list; no other has a lesser part
record IsLeast (dataset : ℕ) (least : Option Candidate) (blocks : List HeldBlock) (next : Candidate) : Type 0 where
  among : (least ≡ Some next) ⊎ Stands dataset blocks next
  before : (other : Candidate) → least ≡ Some other → next.part ≤ other.part
  others : list_any (may_be_removed_below dataset next.part) blocks ≡ false

-- a block that isn't below a part
pub not_below : (dataset end : ℕ) (held : HeldBlock) → end ≤ held.part → may_be_removed_below dataset end held ≡ false
not_below dataset end held above = and_right (may_be_removed dataset held) (ltb held.part end) (le-ltb held.part end above)

-- it stands one place further behind one more block
later : (dataset : ℕ) (block : HeldBlock) (blocks : List HeldBlock) (next : Candidate) → Stands dataset blocks next → Stands dataset (block ∷ blocks) next
later dataset block blocks next found = record { place = suc found.place; held = found.held; here = found.here; may_go = found.may_go; seen = found.seen }

-- what a walk finds from here on
least_is : (dataset : ℕ) (least : Option Candidate) (blocks : List HeldBlock) (next : Candidate)
    → least_from dataset least (map candidate_of blocks) ≡ Some next → IsLeast dataset least blocks next
least_is dataset least [] next is = record {
  among = inl is;
  before = λ other was. omega (arith, ap (λ (c : Candidate). c.part) (same_Some next other (sym is ∙ was)));
  others = refl;
}
least_is dataset least (b ∷ bs) next is = elim (cases_Bool (may_be_removed dataset b)) [
  | inr kept ↦
      let rest = least_is dataset least bs next (subst (λ (l : Option Candidate). least_from dataset l (map candidate_of bs) ≡ Some next) (cond-false (may_go_of dataset (candidate_of b)) (lesser least (candidate_of b)) least (same_test dataset b ∙ kept)) is) in
      record {
        among = elim rest.among [ inl was ↦ inl was | inr found ↦ inr (later dataset b bs next found) ];
        before = rest.before;
        others = or_from (may_be_removed_below dataset next.part b) (list_any (may_be_removed_below dataset next.part) bs) (and_left (may_be_removed dataset b) (ltb b.part next.part) kept) rest.others;
      }
  | inl may ↦
      with_this may least (least_is dataset (lesser least (candidate_of b)) bs next (subst (λ (l : Option Candidate). least_from dataset l (map candidate_of bs) ≡ Some next) (cond-true (may_go_of dataset (candidate_of b)) (lesser least (candidate_of b)) least (same_test dataset b ∙ may)) is))
]
  where
    -- where the walk went on with this block
    taken : (old : Option Candidate) → may_be_removed dataset b ≡ true → ((other : Candidate) → old ≡ Some other → b.part ≤ other.part)
        → IsLeast dataset (Some (candidate_of b)) bs next → IsLeast dataset old (b ∷ bs) next
    taken old may less rest =
        let below : next.part ≤ b.part = rest.before (candidate_of b) refl in
        record {
          among = elim rest.among [
            | inl this ↦ inr (record { place = 0; held = b; here = refl; may_go = may; seen = same_Some (candidate_of b) next this })
            | inr found ↦ inr (later dataset b bs next found)
          ];
          before = λ other was. omega (arith, below, less other was);
          others = or_from (may_be_removed_below dataset next.part b) (list_any (may_be_removed_below dataset next.part) bs) (not_below dataset next.part b below) rest.others;
        }

    -- the walk went on with this block, or with the one before
    with_this : may_be_removed dataset b ≡ true → (old : Option Candidate) → IsLeast dataset (lesser old (candidate_of b)) bs next → IsLeast dataset old (b ∷ bs) next
    with_this may None rest = taken None may (λ other was. absurd (none-some other was)) rest
    with_this may (Some other) rest = elim (cases_Bool (leb other.part b.part)) [
      | inl stays ↦
          let kept : IsLeast dataset (Some other) bs next = subst (λ (l : Option Candidate). IsLeast dataset l bs next) (cond-true (leb other.part b.part) (Some other) (Some (candidate_of b)) stays) rest in
          let below : next.part ≤ other.part = kept.before other refl in
          record {
            among = elim kept.among [ inl was ↦ inl was | inr found ↦ inr (later dataset b bs next found) ];
            before = kept.before;
            others = or_from (may_be_removed_below dataset next.part b) (list_any (may_be_removed_below dataset next.part) bs) (not_below dataset next.part b (omega (arith, below, leb-true other.part b.part stays))) kept.others;
          }
      | inr falls ↦
          taken (Some other) may (λ o was. omega (arith, leb-false other.part b.part falls, ap (λ (c : Candidate). c.part) (same_Some other o was)))
          (subst (λ (l : Option Candidate). IsLeast dataset l bs next) (cond-false (leb other.part b.part) (Some other) (Some (candidate_of b)) falls) rest)
    ]

-- what was found stands in the list, and no other has a lesser part
pub least_stands : (dataset : ℕ) (blocks : List HeldBlock) (next : Candidate) → least_in dataset (map candidate_of blocks) ≡ Some next
    → Stands dataset blocks next × (list_any (may_be_removed_below dataset next.part) blocks ≡ false)
least_stands dataset blocks next is =
    let least = least_is dataset None blocks next is in
    (elim least.among [ inl was ↦ absurd (none-some next was) | inr found ↦ found ], least.others)

-- where nothing was found none may be removed
none_counted : (dataset : ℕ) (least : Option Candidate) (blocks : List HeldBlock) → least_from dataset least (map candidate_of blocks) ≡ None
    → (least ≡ None) × (count_by (may_be_removed dataset) blocks ≡ 0)
none_counted dataset least [] is = (is, refl)
none_counted dataset least (b ∷ bs) is = elim (cases_Bool (may_be_removed dataset b)) [
  | inr kept ↦
      let rest = none_counted dataset least bs (subst (λ (l : Option Candidate). least_from dataset l (map candidate_of bs) ≡ None) (cond-false (may_go_of dataset (candidate_of b)) (lesser least (candidate_of b)) least (same_test dataset b ∙ kept)) is) in
      (rest.0, omega (arith, rest.1, sum_by-cons (λ (x : HeldBlock). cond {A = ℕ} (may_be_removed dataset x) 1 0) b bs, cond-false {A = ℕ} (may_be_removed dataset b) 1 0 kept))
  | inl may ↦
      let rest = none_counted dataset (lesser least (candidate_of b)) bs (subst (λ (l : Option Candidate). least_from dataset l (map candidate_of bs) ≡ None) (cond-true (may_go_of dataset (candidate_of b)) (lesser least (candidate_of b)) least (same_test dataset b ∙ may)) is) in
      absurd (some_lesser least rest.0)
]
  where
    -- the lesser of two is one of them
    some_lesser : (old : Option Candidate) → lesser old (candidate_of b) ≡ None → ⊥
    some_lesser None none = none-some (candidate_of b) (sym none)
    some_lesser (Some other) none = some_either (leb other.part b.part) (Some other) (Some (candidate_of b)) other (candidate_of b) refl refl none
      where
        some_either : (t : Bool) (x y : Option Candidate) (a c : Candidate) → x ≡ Some a → y ≡ Some c → cond t x y ≡ None → ⊥
        some_either true x y a c p q none = none-some a (sym none ∙ p)
        some_either false x y a c p q none = none-some c (sym none ∙ q)

-- the same of a whole list
pub nothing_least : (dataset : ℕ) (blocks : List HeldBlock) → least_in dataset (map candidate_of blocks) ≡ None → count_by (may_be_removed dataset) blocks ≡ 0
nothing_least dataset blocks is = (none_counted dataset None blocks is).1
