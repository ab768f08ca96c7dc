-- The removal of a dataset's blocks, one by one: what is left without a block, and how removals in turn go on.
use Rattle.std.proofs.Common.{◌≡◌, ℕ, zero, suc, ◌+◌, ◌<◌, ◌≤◌, true, false, not, cond, eqb, ltb, ◌&&◌, List, [], ◌∷◌, ◌++◌, map, get_or, count_by, Option, Some, refl, sym, ap, subst, ◌∙◌, inl, inr, arith}
use Rattle.std.specs.List.{list_any, find, filter, remove, slice_get}
use Rattle.std.specs.List.Sorted.{IsPermutation}
use Rattle.std.specs.Option.{option_map_or}
use Rattle.std.proofs.lemmas.Bool.{cases_Bool, and_parts, and_from, and_left, both_ways, cond-true, cond-false, eq-eqb, eqb-true, le-ltb, ltb-false, or_from, not-true}
use Rattle.std.proofs.lemmas.List.{append-nil, append_assoc}
use Rattle.std.proofs.lemmas.List.Sorted.{IsPermutation-append_right, IsPermutation-cons, IsPermutation-middle, IsPermutation-refl, IsPermutation-trans}
use Rattle.std.proofs.lemmas.List.Sums.{sum_by-cons, sum_by-remove}
use Rattle.std.proofs.lemmas.Option.{none-some, same_Some, slice_get_within, get_or_from_slice_get}
use Rattle.eviction.specs.declared.candidate.Candidate.{Candidate}
use Rattle.pool_ledger.specs.declared.entry.Entry.{Entry}
use Rattle.pool_ledger.specs.declared.entry.Event.TheVariants.{Remove}
use Rattle.pool_ledger.specs.Sizes.{Sizes}
use Rattle.pool_ledger.specs.History.{History, total}
use Rattle.pool_ledger.specs.Blocks.{Resident, is_block, pin_of, unpin_of}
use Rattle.pool_ledger.specs.Legal.{MayFollow, pending}
use Rattle.pool_laws.specs.Growing.{entry_by}
use Rattle.pool_laws.proofs.NextEntries.{whole}
use Rattle.block_store.specs.declared.block_copy.BlockCopy.{BlockCopy}
use Rattle.block_store.specs.Copies.{has_copy}
use Rattle.block_store.specs.Stores.{HeldBlock, AreApart, held_at, is_held, pins_at, without}
use Rattle.block_store.proofs.Places.{any_parts}
use Rattle.block_store.proofs.UseOrder.{stands}
use Rattle.memory_core.specs.Caches.{Cache, resident_of}
use Rattle.memory_core.specs.Changes.{RemovesInTurn, may_be_removed, may_be_removed_below, removable_of}
use Rattle.memory_core.specs.Steady.{IsAmid}
use Rattle.memory_core.proofs.Gone.{in_step_gone}
use Rattle.memory_core.proofs.LeastPart.{Stands, not_below}

-- ---- the block that goes

-- a block that may be removed is of the dataset
pub its_dataset : (dataset : ℕ) (held : HeldBlock) → may_be_removed dataset held ≡ true → held.dataset ≡ dataset
its_dataset dataset held may = eqb-true held.dataset dataset (and_parts (eqb held.dataset dataset) (not (ltb 0 held.pins)) may).0

-- and no pin keeps it
its_pins : (dataset : ℕ) (held : HeldBlock) → may_be_removed dataset held ≡ true → held.pins ≡ 0
its_pins dataset held may =
    omega (arith, ltb-false 0 held.pins (not-true (ltb 0 held.pins) (and_parts (eqb held.dataset dataset) (not (ltb 0 held.pins)) may).1))

-- a block has its own name
its_name : (held : HeldBlock) → is_held held.dataset held.part held ≡ true
its_name held = and_from (eqb held.dataset held.dataset) (eqb held.part held.part) (eq-eqb held.dataset held.dataset refl) (eq-eqb held.part held.part refl)

-- it is found by its name
pub found_at : (dataset : ℕ) (blocks : List HeldBlock) (next : Candidate) (found : Stands dataset blocks next) → AreApart blocks
    → held_at blocks next.dataset next.part ≡ Some found.held
found_at dataset blocks next found apart =
    subst (λ (c : Candidate). held_at blocks c.dataset c.part ≡ Some found.held) found.seen
    ((stands found.held.dataset found.held.part blocks found.place apart (record { item = found.held; here = found.here; passes = its_name found.held })).found ∙ found.here)

-- and has no pins there
pub unpinned_at : (dataset : ℕ) (blocks : List HeldBlock) (next : Candidate) (found : Stands dataset blocks next) → AreApart blocks
    → pins_at blocks next.dataset next.part ≡ 0
unpinned_at dataset blocks next found apart =
    ap (λ (o : Option HeldBlock). option_map_or (λ (h : HeldBlock). h.pins) o 0) (found_at dataset blocks next found apart) ∙ its_pins dataset found.held found.may_go

-- the history says the same of it
pub resident_found : (d p : ℕ) (blocks : List HeldBlock) (held : HeldBlock) → held_at blocks d p ≡ Some held → find (is_block d p) (map resident_of blocks) ≡ Some (resident_of held)
resident_found d p [] held is = absurd (none-some held is)
resident_found d p (b ∷ bs) held is = elim (cases_Bool (is_held d p b)) [
  | inl holds ↦
      cond-true (is_held d p b) (Some (resident_of b)) (find (is_block d p) (map resident_of bs)) holds
      ∙ ap (λ (h : HeldBlock). Some (resident_of h)) (same_Some b held (sym (cond-true (is_held d p b) (Some b) (held_at bs d p) holds) ∙ is))
  | inr fails ↦
      cond-false (is_held d p b) (Some (resident_of b)) (find (is_block d p) (map resident_of bs)) fails
      ∙ resident_found d p bs held (sym (cond-false (is_held d p b) (Some b) (held_at bs d p) fails) ∙ is)
]

-- where none that may be removed is below a part, the block at a place isn't
pub from_part : (dataset from place : ℕ) (blocks : List HeldBlock) (held : HeldBlock) → list_any (may_be_removed_below dataset from) blocks ≡ false
    → slice_get blocks place ≡ Some held → may_be_removed dataset held ≡ true → from ≤ held.part
from_part dataset from place [] held none here may = absurd (none-some held here)
from_part dataset from zero (b ∷ bs) held none here may =
    let first : may_be_removed_below dataset from b ≡ false = (any_parts (may_be_removed_below dataset from) b bs none).0 in
    let this : (may_be_removed dataset held && ltb held.part from) ≡ false = subst (λ (h : HeldBlock). may_be_removed_below dataset from h ≡ false) (same_Some b held here) first in
    ltb-false held.part from (sym (ap (λ t. t && ltb held.part from) may) ∙ this)
from_part dataset from (suc place) (b ∷ bs) held none here may =
    from_part dataset from place bs held (any_parts (may_be_removed_below dataset from) b bs none).1 here may

-- without it no part is below the next one
pub none_below : (dataset part : ℕ) (blocks : List HeldBlock) → list_any (may_be_removed_below dataset part) blocks ≡ false
    → list_any (may_be_removed_below dataset (part + 1)) (without dataset part blocks) ≡ false
none_below dataset part [] none = refl
none_below dataset part (b ∷ bs) none =
    let parts = any_parts (may_be_removed_below dataset part) b bs none in
    let rest : list_any (may_be_removed_below dataset (part + 1)) (without dataset part bs) ≡ false = none_below dataset part bs parts.1 in
    elim (cases_Bool (is_held dataset part b)) [
      | inl holds ↦ ap (λ t. list_any (may_be_removed_below dataset (part + 1)) (cond (not t) (b ∷ without dataset part bs) (without dataset part bs))) holds ∙ rest
      | inr other ↦
          ap (λ t. list_any (may_be_removed_below dataset (part + 1)) (cond (not t) (b ∷ without dataset part bs) (without dataset part bs))) other
          ∙ or_from (may_be_removed_below dataset (part + 1) b) (list_any (may_be_removed_below dataset (part + 1)) (without dataset part bs)) (above other parts.0) rest
    ]
  where
    above : is_held dataset part b ≡ false → may_be_removed_below dataset part b ≡ false → may_be_removed_below dataset (part + 1) b ≡ false
    above other below = elim (cases_Bool (may_be_removed dataset b)) [
      | inr kept ↦ and_left (may_be_removed dataset b) (ltb b.part (part + 1)) kept
      | inl may ↦
          let at_least : part ≤ b.part = ltb-false b.part part (sym (ap (λ t. t && ltb b.part part) may) ∙ below) in
          let apart : b.part ≡ part → ⊥ = λ same. both_ways (is_held dataset part b) other (and_from (eqb b.dataset dataset) (eqb b.part part) (eq-eqb b.dataset dataset (its_dataset dataset b may)) (eq-eqb b.part part same)) in
          not_below dataset (part + 1) b (omega arith)
    ]

-- where one that may be removed is taken from its place, one less may be
one_less : (dataset place : ℕ) (blocks : List HeldBlock) (held : HeldBlock) → slice_get blocks place ≡ Some held → may_be_removed dataset held ≡ true
    → count_by (may_be_removed dataset) (remove blocks place) + 1 ≡ count_by (may_be_removed dataset) blocks
one_less dataset place blocks held here may =
    omega (
      arith,
      sum_by-remove (λ (x : HeldBlock). cond {A = ℕ} (may_be_removed dataset x) 1 0) blocks place held (slice_get_within blocks place held here),
      cond-true {A = ℕ} (may_be_removed dataset (get_or blocks place held)) 1 0 (ap (may_be_removed dataset) (get_or_from_slice_get blocks place held held here) ∙ may),
    )

-- without the block that goes one less may be removed
pub fewer : (dataset : ℕ) (blocks : List HeldBlock) (next : Candidate) (found : Stands dataset blocks next) → AreApart blocks
    → count_by (may_be_removed dataset) (without next.dataset next.part blocks) + 1 ≡ count_by (may_be_removed dataset) blocks
fewer dataset blocks next found apart =
    let held = found.held in
    let place = stands held.dataset held.part blocks found.place apart (record { item = held; here = found.here; passes = its_name held }) in
    subst (λ (c : Candidate). count_by (may_be_removed dataset) (without c.dataset c.part blocks) + 1 ≡ count_by (may_be_removed dataset) blocks) found.seen
    (ap (λ (bs : List HeldBlock). count_by (may_be_removed dataset) bs + 1) (sym place.others) ∙ one_less dataset found.place blocks held found.here found.may_go)

-- its dataset, as a choice sees it
pub named : (dataset : ℕ) (blocks : List HeldBlock) (next : Candidate) (found : Stands dataset blocks next) → next.dataset ≡ dataset
named dataset blocks next found = sym (ap (λ (c : Candidate). c.dataset) found.seen) ∙ its_dataset dataset found.held found.may_go

-- its entry may follow
pub may_follow : (setup : Sizes) (history : History) (cache : Cache) (worker dataset : ℕ) (next : Candidate) → IsAmid setup history cache → pending history ≡ []
    → worker < setup.workers → Stands dataset cache.blocks next → AreApart cache.blocks
    → MayFollow setup history (entry_by worker (Remove next.dataset next.part next.size))
may_follow setup history cache worker dataset next amid none known found apart = record {
  worker_known = known;
  own_turn = (whole history none).any_turn worker;
  event = (
    none,
    resident_of found.held,
    record {
      resident = ap (λ (rs : List Resident). find (is_block next.dataset next.part) rs) (sym amid.in_step.blocks) ∙ resident_found next.dataset next.part cache.blocks found.held (found_at dataset cache.blocks next found apart);
      size_is = ap (λ (c : Candidate). c.size) found.seen;
      unpinned = le-ltb (total (unpin_of next.dataset next.part) history) (total (pin_of next.dataset next.part) history)
          (omega (arith, amid.in_step.pins next.dataset next.part, unpinned_at dataset cache.blocks next found apart));
    },
  );
}

-- the state goes on without it
pub amid_gone : (setup : Sizes) (history : History) (had has : Cache) (worker dataset : ℕ) (next : Candidate) → IsAmid setup history had → pending history ≡ []
    → worker < setup.workers → Stands dataset had.blocks next → AreApart had.blocks → has.blocks ≡ without next.dataset next.part had.blocks → has.copies ≡ had.copies
    → IsAmid setup (entry_by worker (Remove next.dataset next.part next.size) ∷ history) has
amid_gone setup history had has worker dataset next amid none known found apart blocks copies =
    let entry : Entry = entry_by worker (Remove next.dataset next.part next.size) in
    let may = may_follow setup history had worker dataset next amid none known found apart in
    record {
      range = amid.range;
      permitted = (amid.permitted, may);
      in_step = in_step_gone history entry next.dataset next.part had has amid.in_step may.event.2.unpinned refl (λ e q. omega arith) (λ e q. omega arith) blocks
          (λ e q held. omega (arith, amid.in_step.copies e q (sym (ap (λ (cs : List BlockCopy). has_copy cs e q) copies) ∙ held)));
    }

-- where none is counted none may be removed
pub none_left : (dataset : ℕ) (blocks : List HeldBlock) → count_by (may_be_removed dataset) blocks ≡ 0 → list_any (may_be_removed dataset) blocks ≡ false
none_left dataset [] none = refl
none_left dataset (b ∷ bs) none = elim (cases_Bool (may_be_removed dataset b)) [
  | inl may ↦ absurd (omega (arith, none, sum_by-cons (λ (x : HeldBlock). cond {A = ℕ} (may_be_removed dataset x) 1 0) b bs, cond-true {A = ℕ} (may_be_removed dataset b) 1 0 may))
  | inr kept ↦ or_from (may_be_removed dataset b) (list_any (may_be_removed dataset) bs) kept (none_left dataset bs (omega (arith, none, sum_by-cons (λ (x : HeldBlock). cond {A = ℕ} (may_be_removed dataset x) 1 0) b bs)))
]

-- no part is below the first
pub none_below_0 : (dataset : ℕ) (blocks : List HeldBlock) → list_any (may_be_removed_below dataset 0) blocks ≡ false
none_below_0 dataset [] = refl
none_below_0 dataset (b ∷ bs) = or_from (may_be_removed_below dataset 0 b) (list_any (may_be_removed_below dataset 0) bs) (not_below dataset 0 b (omega arith)) (none_below_0 dataset bs)

-- ---- removals in turn

-- one more after the others
pub removes_more : (worker dataset from amid end : ℕ) (gone : List Resident) (block : Resident) (before between after : History) (had has left : List HeldBlock)
    → RemovesInTurn worker dataset from amid gone before had between has
    → RemovesInTurn worker dataset amid end (block ∷ []) between has after left
    → RemovesInTurn worker dataset from end (gone ++ block ∷ []) before had after left
removes_more worker dataset from amid end [] block before between after had has left first more =
    let start : RemovesInTurn worker dataset amid end (block ∷ []) before had after left =
    subst (λ (h : History). RemovesInTurn worker dataset amid end (block ∷ []) h had after left) first.1
    (subst (λ (bs : List HeldBlock). RemovesInTurn worker dataset amid end (block ∷ []) between bs after left) first.2 more) in
    (start.0, omega (arith, first.0, start.1), start.2)
removes_more worker dataset from amid end (b ∷ gone) block before between after had has left first more =
    (first.0, first.1, removes_more worker dataset (b.part + 1) amid end gone block (entry_by worker (Remove dataset b.part b.size) ∷ before) between after (without dataset b.part had) has left first.2 more)

-- ---- each that may be removed goes, and no other

-- the block at a place and those that may be removed without it
taken_at : (dataset place : ℕ) (blocks : List HeldBlock) (held : HeldBlock) → slice_get blocks place ≡ Some held → may_be_removed dataset held ≡ true
    → IsPermutation (resident_of held ∷ removable_of dataset (remove blocks place)) (removable_of dataset blocks)
taken_at dataset place [] held here may = absurd (none-some held here)
taken_at dataset zero (b ∷ bs) held here may =
    let this : b ≡ held = same_Some b held here in
    let goes : may_be_removed dataset b ≡ true = ap (may_be_removed dataset) this ∙ may in
    subst (λ (rs : List Resident). IsPermutation (resident_of held ∷ removable_of dataset bs) rs)
    (ap (λ (h : HeldBlock). resident_of h ∷ removable_of dataset bs) (sym this) ∙ sym (ap (map resident_of) (cond-true (may_be_removed dataset b) (b ∷ filter (may_be_removed dataset) bs) (filter (may_be_removed dataset) bs) goes)))
    (IsPermutation-refl (resident_of held ∷ removable_of dataset bs))
taken_at dataset (suc place) (b ∷ bs) held here may =
    let rest : IsPermutation (resident_of held ∷ removable_of dataset (remove bs place)) (removable_of dataset bs) = taken_at dataset place bs held here may in
    elim (cases_Bool (may_be_removed dataset b)) [
      | inl goes ↦
          let left : removable_of dataset (remove (b ∷ bs) (suc place)) ≡ resident_of b ∷ removable_of dataset (remove bs place) =
          ap (map resident_of) (cond-true (may_be_removed dataset b) (b ∷ filter (may_be_removed dataset) (remove bs place)) (filter (may_be_removed dataset) (remove bs place)) goes) in
          let all : removable_of dataset (b ∷ bs) ≡ resident_of b ∷ removable_of dataset bs =
          ap (map resident_of) (cond-true (may_be_removed dataset b) (b ∷ filter (may_be_removed dataset) bs) (filter (may_be_removed dataset) bs) goes) in
          subst (λ (rs : List Resident). IsPermutation (resident_of held ∷ rs) (removable_of dataset (b ∷ bs))) (sym left)
          (subst (λ (rs : List Resident). IsPermutation (resident_of held ∷ resident_of b ∷ removable_of dataset (remove bs place)) rs) (sym all)
          (IsPermutation-trans _ (resident_of b ∷ resident_of held ∷ removable_of dataset (remove bs place)) _
          (IsPermutation-middle (resident_of held ∷ []) (resident_of b) (removable_of dataset (remove bs place)))
          (IsPermutation-cons (resident_of b) _ _ rest)))
      | inr stays ↦
          let left : removable_of dataset (remove (b ∷ bs) (suc place)) ≡ removable_of dataset (remove bs place) =
          ap (map resident_of) (cond-false (may_be_removed dataset b) (b ∷ filter (may_be_removed dataset) (remove bs place)) (filter (may_be_removed dataset) (remove bs place)) stays) in
          let all : removable_of dataset (b ∷ bs) ≡ removable_of dataset bs =
          ap (map resident_of) (cond-false (may_be_removed dataset b) (b ∷ filter (may_be_removed dataset) bs) (filter (may_be_removed dataset) bs) stays) in
          subst (λ (rs : List Resident). IsPermutation (resident_of held ∷ rs) (removable_of dataset (b ∷ bs))) (sym left)
          (subst (λ (rs : List Resident). IsPermutation (resident_of held ∷ removable_of dataset (remove bs place)) rs) (sym all) rest)
    ]

-- the same of the block that goes
pub goes_one : (dataset : ℕ) (blocks has : List HeldBlock) (next : Candidate) (found : Stands dataset blocks next) → AreApart blocks → has ≡ without next.dataset next.part blocks
    → IsPermutation (resident_of found.held ∷ removable_of dataset has) (removable_of dataset blocks)
goes_one dataset blocks has next found apart is =
    let held = found.held in
    let place = stands held.dataset held.part blocks found.place apart (record { item = held; here = found.here; passes = its_name held }) in
    let left : has ≡ remove blocks found.place = is ∙ sym (ap (λ (c : Candidate). without c.dataset c.part blocks) found.seen) ∙ sym place.others in
    subst (λ (bs : List HeldBlock). IsPermutation (resident_of held ∷ removable_of dataset bs) (removable_of dataset blocks)) (sym left)
    (taken_at dataset found.place blocks held found.here found.may_go)

-- and of one more, behind those that went
pub goes_more : (gone left next all : List Resident) (block : Resident) → IsPermutation (gone ++ left) all → IsPermutation (block ∷ next) left → IsPermutation ((gone ++ block ∷ []) ++ next) all
goes_more gone left next all block before more =
    subst (λ (rs : List Resident). IsPermutation rs all) (sym (append_assoc gone (block ∷ []) next))
    (IsPermutation-trans _ _ _ (IsPermutation-append_right gone (block ∷ next) left more) before)

-- where none is left that may be removed, those that went are all
pub goes_all : (dataset : ℕ) (gone all : List Resident) (blocks : List HeldBlock) → list_any (may_be_removed dataset) blocks ≡ false
    → IsPermutation (gone ++ removable_of dataset blocks) all → IsPermutation gone all
goes_all dataset gone all blocks none before =
    subst (λ (rs : List Resident). IsPermutation rs all) (ap (λ (rs : List Resident). gone ++ rs) (nothing blocks none) ∙ append-nil gone) before
  where
    nothing : (bs : List HeldBlock) → list_any (may_be_removed dataset) bs ≡ false → removable_of dataset bs ≡ []
    nothing [] is = refl
    nothing (b ∷ bs) is =
        let parts = any_parts (may_be_removed dataset) b bs is in
        ap (map resident_of) (cond-false (may_be_removed dataset b) (b ∷ filter (may_be_removed dataset) bs) (filter (may_be_removed dataset) bs) parts.0) ∙ nothing bs parts.1

-- the removal of one alone
pub removes_one : (worker dataset from : ℕ) (next : Candidate) (before after : History) (had has : List HeldBlock) → Stands dataset had next → AreApart had
    → list_any (may_be_removed_below dataset from) had ≡ false → after ≡ entry_by worker (Remove next.dataset next.part next.size) ∷ before → has ≡ without next.dataset next.part had
    → (block : Resident) × (block.part ≡ next.part) × RemovesInTurn worker dataset from (next.part + 1) (block ∷ []) before had after has
    × IsPermutation (block ∷ removable_of dataset has) (removable_of dataset had)
removes_one worker dataset from next before after had has found apart none history blocks =
    let held = found.held in
    let of_it : held.dataset ≡ dataset = its_dataset dataset held found.may_go in
    let part : held.part ≡ next.part = ap (λ (c : Candidate). c.part) found.seen in (
      resident_of held,
      part,
      (
        of_it,
        from_part dataset from found.place had held none found.here found.may_go,
        (
          omega (arith, part),
          history ∙ sym (ap (λ (c : Candidate). entry_by worker (Remove c.dataset c.part c.size) ∷ before) found.seen) ∙ ap (λ n. entry_by worker (Remove n held.part held.size) ∷ before) of_it,
          blocks ∙ sym (ap (λ (c : Candidate). without c.dataset c.part had) found.seen) ∙ ap (λ n. without n held.part had) of_it,
        ),
      ),
      goes_one dataset had has next found apart blocks,
    )
