-- What is legal entry by entry is legal by groups.
use Rattle.std.proofs.Common.{◌≡◌, ℕ, ◌≤◌, Bool, true, false, cond, not, Option, Some, None, List, [], ◌∷◌, ◌++◌, length, map, count_by, refl, sym, ap, subst, ◌∙◌, arith, inl, inr}
use Rattle.std.specs.List.{All, filter, find}
use Rattle.std.proofs.lemmas.Bool.{cases_Bool, cond-true, cond-false, eqb-true}
use Rattle.std.proofs.lemmas.Option.{same_Some}
use Rattle.std.proofs.lemmas.List.{append_assoc, map-append}
use Rattle.std.proofs.lemmas.List.Elements.{All-nil, All-cons, All-head, All-tail, All-push, All-filter}
use Rattle.std.proofs.lemmas.List.Sums.{sum_by-cons, sum_by-append}
use Rattle.pool_ledger.specs.declared.entry.Event.{Event}
use Rattle.pool_ledger.specs.declared.entry.Event.TheVariants.{Begin, Attempt, Release, End, Evict, Admit, Refused, Pin, Unpin, Remove, Grow}
use Rattle.pool_ledger.specs.declared.entry.Fate.TheVariants.{NoMemory}
use Rattle.pool_ledger.specs.Sizes.{Sizes}
use Rattle.pool_ledger.specs.History.{History}
use Rattle.pool_ledger.specs.Blocks.{Resident, is_block, residents, resident_at}
use Rattle.pool_ledger.specs.Answers.{growth, admission}
use Rattle.pool_ledger.specs.Legal.{Evicted, evicted_of, is_eviction, is_own_turn, pending, settled, SuitsLevel, Evicts, MayCome, MayFollow, IsPermitted, IsLegal}
use Rattle.pool_ledger.specs.Groups.{Gone, Group, eviction_in, WentAs, EventIsLegal, IsLegalByGroups}
use Rattle.pool_ledger.proofs.Residents.{AreDifferent, different}
use Rattle.pool_ledger.proofs.Tasks.{entry_of}
use Rattle.pool_laws.specs.Evicting.{IsEvicting}
use Rattle.pool_laws.specs.ByGroups.{GroupsAreLegal}
use Rattle.pool_laws.proofs.Evictions.{find_counted, may_go, its_name, open_settled}
use Rattle.pool_laws.proofs.NextEntries.{whole}
use Rattle.pool_laws.proofs.Passing.{holds}
use Rattle.pool_laws.proofs.EntriesOfGroups.{evictions_on, history_in-group, length_went, growth_goes, admission_goes, legal_of_groups}

-- ---- the blocks at the group's begin

-- the block with a name, where no other has it
module _ {X : Type 0} where
  find-filter : (n q : X → Bool) (xs : List X) (b : X) → count_by n xs ≤ 1 → find n (filter q xs) ≡ Some b → find n xs ≡ Some b
  find-filter n q [] b few found = found
  find-filter n q (x ∷ xs) b few found =
      let counted = sum_by-cons (λ y. cond {A = ℕ} (n y) 1 0) x xs in
      let later : find n (filter q xs) ≡ Some b → find n xs ≡ Some b = find-filter n q xs b (omega (arith, few, counted)) in
      elim (cases_Bool (q x)) [
        | inl kept ↦
            let there : find n (x ∷ filter q xs) ≡ Some b = sym (ap (find n) (cond-true (q x) (x ∷ filter q xs) (filter q xs) kept)) ∙ found in
            elim (cases_Bool (n x)) [
              | inl here ↦ cond-true (n x) (Some x) (find n xs) here ∙ sym (cond-true (n x) (Some x) (find n (filter q xs)) here) ∙ there
              | inr past ↦ cond-false (n x) (Some x) (find n xs) past ∙ later (sym (cond-false (n x) (Some x) (find n (filter q xs)) past) ∙ there)
            ]
        | inr out ↦
            let there : find n xs ≡ Some b = later (sym (ap (find n) (cond-false (q x) (x ∷ filter q xs) (filter q xs) out)) ∙ found) in
            elim (cases_Bool (n x)) [
              | inl here ↦ absurd (omega (arith, few, counted, cond-true {A = ℕ} (n x) 1 0 here, find_counted n xs b there))
              | inr past ↦ cond-false (n x) (Some x) (find n xs) past ∙ there
            ]
      ]

  find-alone : (n : X → Bool) (b : X) → n b ≡ true → (before behind : List X) → count_by n (before ++ b ∷ behind) ≤ 1 → find n (before ++ b ∷ behind) ≡ Some b
  find-alone n b named [] behind few = cond-true (n b) (Some b) (find n behind) named
  find-alone n b named (x ∷ before) behind few = elim (cases_Bool (n x)) [
    | inl here ↦ absurd (omega (arith, few, sum_by-cons (λ y. cond {A = ℕ} (n y) 1 0) x (before ++ b ∷ behind), cond-true {A = ℕ} (n x) 1 0 here, sum_by-append (λ y. cond {A = ℕ} (n y) 1 0) before (b ∷ behind), sum_by-cons (λ y. cond {A = ℕ} (n y) 1 0) b behind, cond-true {A = ℕ} (n b) 1 0 named))
    | inr past ↦
        cond-false (n x) (Some x) (find n (before ++ b ∷ behind)) past
        ∙ find-alone n b named before behind (omega (arith, few, sum_by-cons (λ y. cond {A = ℕ} (n y) 1 0) x (before ++ b ∷ behind)))
  ]

  all-left : (P : X → Type 0) (xs ys : List X) → All P (xs ++ ys) → All P xs
  all-left P [] ys all = All-nil P
  all-left P (x ∷ xs) ys all = All-cons P x xs (All-head P x (xs ++ ys) all) (all-left P xs ys (All-tail P x (xs ++ ys) all))

-- a block in memory is the one that its name finds
abbrev IsNamed : List Resident → Resident → Type 0
IsNamed blocks block = find (is_block block.dataset block.part) blocks ≡ Some block

all_named : (before blocks : List Resident) → AreDifferent (before ++ blocks) → All (IsNamed (before ++ blocks)) blocks
all_named before [] differ = All-nil (IsNamed (before ++ []))
all_named before (b ∷ blocks) differ =
    let same = append_assoc before (b ∷ []) blocks in
    All-cons (IsNamed (before ++ b ∷ blocks)) b blocks
    (find-alone (is_block b.dataset b.part) b (its_name b) before blocks (differ b.dataset b.part))
    (subst (λ (xs : List Resident). All (IsNamed xs) blocks) same (all_named (before ++ b ∷ []) blocks (subst AreDifferent (sym same) differ)))

evicted_named : (g : History) (w : ℕ) (except : Option ℕ) (blocks : List Resident) → AreDifferent (residents g) → IsEvicting g g w except [] blocks → All (IsNamed (residents g)) blocks
evicted_named g w except blocks differ evicting =
    all-left (IsNamed (residents g)) blocks evicting.behind
    (subst (All (IsNamed (residents g))) evicting.left_first (All-filter (may_go g except) (IsNamed (residents g)) (residents g) (all_named [] (residents g) differ)))

-- a block that is in memory amid evictions was there before them
resident_settled-more : (s : Sizes) (h : History) (v : ℕ) (e : Event) (d p : ℕ) (b : Resident) → AreDifferent (residents h) → (resident_at h d p ≡ Some b → resident_at (settled h) d p ≡ Some b)
    → resident_at (entry_of v e ∷ h) d p ≡ Some b → resident_at (settled (entry_of v e ∷ h)) d p ≡ Some b
resident_settled-more s h v (Evict d' p' size fate) d p b differ before there = before (find-filter (is_block d p) (λ x. not (is_block d' p' x)) (residents h) b (differ d p) there)
resident_settled-more s h v _ d p b differ before there = there

resident_settled : (s : Sizes) → s.region ≤ s.maximum → (h : History) → IsPermitted s h → (d p : ℕ) (b : Resident) → resident_at h d p ≡ Some b → resident_at (settled h) d p ≡ Some b
resident_settled s region [] perm d p b there = there
resident_settled s region (entry ∷ h) perm d p b there =
    resident_settled-more s h entry.worker entry.event d p b (different s h (holds s h region perm.0).recorded) (resident_settled s region h perm.0 d p b) there

-- ---- the blocks that went

-- what an eviction says of its block
abbrev gone_by : Event → Gone
gone_by (Evict d p size fate) = record { dataset = d; part = p; size = size; fate = fate }
gone_by _ = record { dataset = 0; part = 0; size = 0; fate = NoMemory }

-- the blocks of the pending evictions, in order
abbrev gone_of : History → List Gone
gone_of [] = []
gone_of (entry ∷ before) = cond (is_eviction entry.event) (gone_of before ++ gone_by entry.event ∷ []) []

abbrev evicted_as : Gone → Evicted
evicted_as g = record { dataset = g.dataset; part = g.part; size = g.size }

-- a fate that suits the level of the block that was there
abbrev Suits : History → Gone → Type 0
Suits base g = (block : Resident) × (resident_at base g.dataset g.part ≡ Some block) × SuitsLevel g.fate block.level

went_as : (base : History) (gone : List Gone) (blocks : List Resident) → map evicted_as gone ≡ map evicted_of blocks → All (Suits base) gone → All (IsNamed (residents base)) blocks → WentAs gone blocks
went_as base [] [] same suits named = tt
went_as base [] (b ∷ blocks) same suits named = absurd (cc same)
went_as base (g ∷ gone) [] same suits named = absurd (cc same)
went_as base (g ∷ gone) (b ∷ blocks) same suits named =
    let its = All-head (Suits base) g gone suits in
    let head : evicted_as g ≡ evicted_of b = cc same in
    let tail : map evicted_as gone ≡ map evicted_of blocks = cc same in
    let dataset_is = ap (λ (e : Evicted). e.dataset) head in
    let part_is = ap (λ (e : Evicted). e.part) head in
    let name_is = ap (λ d. resident_at base d g.part) dataset_is ∙ ap (λ p. resident_at base b.dataset p) part_is in
    let found = name_is ∙ All-head (IsNamed (residents base)) b blocks named in (
      dataset_is,
      part_is,
      ap (λ (e : Evicted). e.size) head,
      subst (λ (x : Resident). SuitsLevel g.fate x.level) (same_Some its.0 b (sym its.1 ∙ found)) its.2,
      went_as base gone blocks tail (All-tail (Suits base) g gone suits) (All-tail (IsNamed (residents base)) b blocks named),
    )

none_gone : (gone : List Gone) → map evicted_as gone ≡ [] → gone ≡ []
none_gone [] none = refl
none_gone (g ∷ gone) none = absurd (cc none)

-- ---- the last group

evictions_on-push : (w : ℕ) (gone : List Gone) (g : Gone) (base : History) → evictions_on w (gone ++ g ∷ []) base ≡ eviction_in w g ∷ evictions_on w gone base
evictions_on-push w [] g base = refl
evictions_on-push w (x ∷ gone) g base = evictions_on-push w gone g (eviction_in w x ∷ base)

-- what was settled is legal by groups, and the pending evictions are the begin of a group
record IsBegun (s : Sizes) (h : History) : Type 0 where
  groups : IsLegalByGroups s (settled h)
  pending_are : pending h ≡ map evicted_as (gone_of h)
  suits : All (Suits (settled h)) (gone_of h)
  whole_is : (w : ℕ) → is_own_turn h w ≡ true → evictions_on w (gone_of h) (settled h) ≡ h

module _ (s : Sizes) (region : s.region ≤ s.maximum) (h : History) (begun : IsBegun s h) where
  legal_before : IsLegal s (settled h)
  legal_before = legal_of_groups s (settled h) region begun.groups

  differ_before : AreDifferent (residents (settled h))
  differ_before = different s (settled h) (holds s (settled h) region legal_before.permitted).recorded

  -- a group without evictions
  alone : (v : ℕ) (e : Event) → pending h ≡ [] → EventIsLegal s h v [] e → EventIsLegal s (settled h) v (gone_of h) e
  alone v e none is =
      subst (λ (gs : List Gone). EventIsLegal s (settled h) v gs e) (sym (none_gone (gone_of h) (sym begun.pending_are ∙ none)))
      (subst (λ (g : History). EventIsLegal s g v [] e) (sym (whole h none).all_settled) is)

  -- the blocks of an attempt or an admission went
  went : (blocks : List Resident) (evictions w : ℕ) (except : Option ℕ) → IsEvicting (settled h) (settled h) w except [] blocks → Evicts h blocks evictions → WentAs (gone_of h) blocks × (evictions ≡ length (gone_of h))
  went blocks evictions w except evicting evicts =
      let match = went_as (settled h) (gone_of h) blocks (sym begun.pending_are ∙ evicts.blocks_are) begun.suits (evicted_named (settled h) w except blocks differ_before evicting) in
      (match, evicts.number ∙ sym (length_went (gone_of h) blocks match))

  event_is_legal : (v : ℕ) (e : Event) → is_eviction e ≡ false → MayCome s h v e → EventIsLegal s (settled h) v (gone_of h) e
  event_is_legal v (Begin task) other may = alone v (Begin task) may.0 (refl, may.2, may.1)
  event_is_legal v (Attempt task asked moved evictions got) other may =
      let right = may.1 in
      let gone = went (growth s (settled h) asked).evicted evictions v None (growth_goes s region (settled h) legal_before v asked) right.evicts in (
        sym (open_settled h v) ∙ may.0,
        record { asked_some = right.asked_some; asked_small = right.asked_small; moves = right.moves; answers = right.answers; went = gone.0; number = gone.1 },
      )
  event_is_legal v (Release task freed) other may = alone v (Release task freed) may.0 (refl, may.1, may.2)
  event_is_legal v (End task freed) other may = alone v (End task freed) may.0 (refl, may.1, may.2)
  event_is_legal v (Evict d p size fate) other may = absurd (cc other)
  event_is_legal v (Admit d p size level borrowed evictions) other may =
      let gone = went (admission s (settled h) d size).evicted evictions v (Some d) (admission_goes s region (settled h) legal_before v d size) may.evicts in
      (may.absent, sym may.answers, may.borrows, gone.0, gone.1)
  event_is_legal v (Refused d p size borrowed evictions) other may =
      let gone = went (admission s (settled h) d size).evicted evictions v (Some d) (admission_goes s region (settled h) legal_before v d size) may.evicts in
      (may.absent, sym may.answers, may.borrows, gone.0, gone.1)
  event_is_legal v (Pin d p false) other may = alone v (Pin d p false) may.0 (refl, may.1, may.2)
  event_is_legal v (Pin d p true) other may = alone v (Pin d p true) may.0 (refl, may.1, may.3, may.2)
  event_is_legal v (Unpin d p) other may = alone v (Unpin d p) may.0 (refl, may.1)
  event_is_legal v (Remove d p size) other may = alone v (Remove d p size) may.0 (refl, may.1, may.2)
  event_is_legal v (Grow bytes) other may = alone v (Grow bytes) may.0 (refl, may.1)

  -- an event that is no eviction ends the group
  ends_group : (v : ℕ) (e : Event) → is_eviction e ≡ false → MayFollow s h (entry_of v e) → IsLegalByGroups s (entry_of v e ∷ h)
  ends_group v e other may =
      let before = begun.groups in
      let group : Group = record { worker = v; gone = gone_of h; event = e } in (
        group ∷ before.0,
        history_in-group group before.0 ∙ ap (λ (g : History). entry_of v e ∷ evictions_on v (gone_of h) g) before.1 ∙ ap (λ (g : History). entry_of v e ∷ g) (begun.whole_is v may.own_turn),
        (before.2, may.worker_known, subst (λ (g : History). EventIsLegal s g v (gone_of h) e) (sym before.1) (event_is_legal v e other may.event)),
      )

-- where no eviction is pending
none_begun : (s : Sizes) (h : History) → IsLegalByGroups s h → settled h ≡ h → pending h ≡ [] → gone_of h ≡ [] → IsBegun s h
none_begun s h groups all none gone = record {
  groups = subst (IsLegalByGroups s) (sym all) groups;
  pending_are = none ∙ ap (map evicted_as) (sym gone);
  suits = subst (All (Suits (settled h))) (sym gone) (All-nil (Suits (settled h)));
  whole_is = λ w own. ap (λ (gs : List Gone). evictions_on w gs (settled h)) gone ∙ all;
}

begun-more : (s : Sizes) → s.region ≤ s.maximum → (h : History) (v : ℕ) (e : Event) → IsPermitted s h → MayFollow s h (entry_of v e) → IsBegun s h → IsBegun s (entry_of v e ∷ h)
begun-more s region h v (Evict d p size fate) perm may begun =
    let e = Evict d p size fate in
    let g : Gone = record { dataset = d; part = p; size = size; fate = fate } in
    record {
      groups = begun.groups;
      pending_are = ap (λ (bs : List Evicted). bs ++ evicted_as g ∷ []) begun.pending_are ∙ sym (map-append evicted_as (gone_of h) (g ∷ []));
      suits = All-push (Suits (settled h)) (gone_of h) g begun.suits (may.event.0, resident_settled s region h perm d p may.event.0 may.event.1.resident, may.event.2);
      whole_is = λ w own.
          let same : v ≡ w = eqb-true v w own in
          evictions_on-push w (gone_of h) g (settled h)
          ∙ subst (λ x. eviction_in x g ∷ evictions_on x (gone_of h) (settled h) ≡ entry_of v e ∷ h) same
          (ap (λ (k : History). entry_of v e ∷ k) (begun.whole_is v may.own_turn));
    }
begun-more s region h v (Begin task) perm may begun = none_begun s _ (ends_group s region h begun v (Begin task) refl may) refl refl refl
begun-more s region h v (Attempt task asked moved evictions got) perm may begun = none_begun s _ (ends_group s region h begun v (Attempt task asked moved evictions got) refl may) refl refl refl
begun-more s region h v (Release task freed) perm may begun = none_begun s _ (ends_group s region h begun v (Release task freed) refl may) refl refl refl
begun-more s region h v (End task freed) perm may begun = none_begun s _ (ends_group s region h begun v (End task freed) refl may) refl refl refl
begun-more s region h v (Admit d p size level borrowed evictions) perm may begun = none_begun s _ (ends_group s region h begun v (Admit d p size level borrowed evictions) refl may) refl refl refl
begun-more s region h v (Refused d p size borrowed evictions) perm may begun = none_begun s _ (ends_group s region h begun v (Refused d p size borrowed evictions) refl may) refl refl refl
begun-more s region h v (Pin d p copy) perm may begun = none_begun s _ (ends_group s region h begun v (Pin d p copy) refl may) refl refl refl
begun-more s region h v (Unpin d p) perm may begun = none_begun s _ (ends_group s region h begun v (Unpin d p) refl may) refl refl refl
begun-more s region h v (Remove d p size) perm may begun = none_begun s _ (ends_group s region h begun v (Remove d p size) refl may) refl refl refl
begun-more s region h v (Grow bytes) perm may begun = none_begun s _ (ends_group s region h begun v (Grow bytes) refl may) refl refl refl

begun : (s : Sizes) → s.region ≤ s.maximum → (h : History) → IsPermitted s h → IsBegun s h
begun s region [] perm = none_begun s [] ([], refl, tt) refl refl refl
begun s region (entry ∷ h) perm = begun-more s region h entry.worker entry.event perm.0 perm.1 (begun s region h perm.0)

groups_of_legal : (s : Sizes) (h : History) → s.region ≤ s.maximum → IsLegal s h → IsLegalByGroups s h
groups_of_legal s h region legal = subst (IsLegalByGroups s) (whole h legal.whole).all_settled (begun s region h legal.permitted).groups

pub groups_legal : (s : Sizes) (h : History) → s.region ≤ s.maximum → GroupsAreLegal s h
groups_legal s h region = record { entries = legal_of_groups s h region; groups = groups_of_legal s h region }
