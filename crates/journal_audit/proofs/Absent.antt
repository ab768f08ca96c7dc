-- A block that isn't in memory, and whose dataset none of the pending evictions is of, wasn't there before them.
use Rattle.std.proofs.Common.{ℕ, ◌≡◌, ◌≢◌, ◌++◌, ◌∷◌, [], List, Option, Some, None, Bool, true, false, not, cond, ◌&&◌, map, unwrap_or, inl, inr, sym, ◌∙◌, refl, ap, subst}
use Rattle.std.specs.Prelude.{nat_eq, nat_le, ◌+◌, ◌-◌, if◌then◌else◌}
use Rattle.std.specs.List.{filter, list_any}
use Rattle.std.proofs.lemmas.Bool.{cases_Bool, eqb-true, eq-eqb, cond-false, cond-true}
use Rattle.pool_ledger.specs.declared.entry.Event.{Event}
use Rattle.pool_ledger.specs.declared.entry.Event.TheVariants.{Evict}
use Rattle.pool_ledger.specs.Sizes.{Sizes, block_limit_of}
use Rattle.pool_ledger.specs.History.{History, exec, execution_free, maximum}
use Rattle.pool_ledger.specs.Blocks.{Resident, is_block, is_resident, residents, is_pinned, is_excepted, evictable, sizes, storage_free, victims}
use Rattle.pool_ledger.specs.Answers.{Admission, admission, borrowed_for}
use Rattle.pool_ledger.specs.Legal.{Evicted, evicted_by, evicted_of, pending, settled}
use Rattle.pool_ledger.proofs.Tasks.{entry_of}
use Rattle.pool_plans.proofs.Mapped.{front_first}
use Rattle.journal_audit.proofs.Tests.{and_both, not_off, or_off, off_or}

-- none of these is of the dataset
abbrev pub AreOthers : ℕ → List Evicted → Type 0
AreOthers dataset [] = Unit {0}
AreOthers dataset (gone ∷ more) = (gone.dataset ≢ dataset) × AreOthers dataset more

others_front : (dataset : ℕ) (xs : List Evicted) (x : Evicted) → AreOthers dataset (xs ++ x ∷ []) → AreOthers dataset xs × (x.dataset ≢ dataset)
others_front dataset [] x h = (tt, h.0)
others_front dataset (y ∷ xs) x h = let more = others_front dataset xs x h.1 in ((h.0, more.0), more.1)

-- a block that isn't left wasn't there, where those that went are of another dataset
absent_before : (d p d' p' : ℕ) (blocks : List Resident) → d' ≢ d
    → list_any (is_block d p) (filter (λ b. not (is_block d' p' b)) blocks) ≡ false → list_any (is_block d p) blocks ≡ false
absent_before d p d' p' [] other h = refl
absent_before d p d' p' (b ∷ blocks) other h = elim (cases_Bool (not (is_block d' p' b))) [
  | inl stays ↦
      let now = or_off (is_block d p b) _ (sym (ap (list_any (is_block d p)) (cond-true (not (is_block d' p' b)) (b ∷ filter (λ x. not (is_block d' p' x)) blocks) (filter (λ x. not (is_block d' p' x)) blocks) stays)) ∙ h) in
      off_or (is_block d p b) (list_any (is_block d p) blocks) now.0 (absent_before d p d' p' blocks other now.1)
  | inr goes ↦
      let went = and_both _ _ (not_off (is_block d' p' b) goes) in
      let its : b.dataset ≡ d' = eqb-true b.dataset d' went.0 in
      let now : list_any (is_block d p) (filter (λ x. not (is_block d' p' x)) blocks) ≡ false =
      sym (ap (list_any (is_block d p)) (cond-false (not (is_block d' p' b)) (b ∷ filter (λ x. not (is_block d' p' x)) blocks) (filter (λ x. not (is_block d' p' x)) blocks) goes)) ∙ h in
      off_or (is_block d p b) (list_any (is_block d p) blocks)
      (another d p b (λ (same : b.dataset ≡ d). other (sym its ∙ same)))
      (absent_before d p d' p' blocks other now)
]
  where
    another : (d p : ℕ) (b : Resident) → (b.dataset ≡ d → ⊥) → is_block d p b ≡ false
    another d p b apart = elim (cases_Bool (is_block d p b)) [
      | inl holds ↦ absurd (apart (eqb-true b.dataset d (and_both _ _ holds).0))
      | inr fails ↦ fails
    ]

settled_absent-more : (h : History) (v : ℕ) (e : Event) (d p : ℕ)
    → (is_resident h d p ≡ false → AreOthers d (pending h) → is_resident (settled h) d p ≡ false)
    → is_resident (entry_of v e ∷ h) d p ≡ false → AreOthers d (pending (entry_of v e ∷ h)) → is_resident (settled (entry_of v e ∷ h)) d p ≡ false
settled_absent-more h v (Evict d' p' size fate) d p before absent others =
    let front = others_front d (pending h) (evicted_by (Evict d' p' size fate)) others in
    before (absent_before d p d' p' (residents h) front.1 absent) front.0
settled_absent-more h v _ d p before absent others = absent

pub settled_absent : (h : History) (d p : ℕ) → is_resident h d p ≡ false → AreOthers d (pending h) → is_resident (settled h) d p ≡ false
settled_absent [] d p absent others = absent
settled_absent (entry ∷ h) d p absent others = settled_absent-more h entry.worker entry.event d p (settled_absent h d p) absent others

-- Victims

-- none of these is of the dataset
abbrev pub BlocksAreOthers : ℕ → List Resident → Type 0
BlocksAreOthers dataset [] = Unit {0}
BlocksAreOthers dataset (block ∷ more) = (block.dataset ≢ dataset) × BlocksAreOthers dataset more

others_of : (dataset : ℕ) (blocks : List Resident) → BlocksAreOthers dataset blocks → AreOthers dataset (map evicted_of blocks)
others_of dataset [] h = tt
others_of dataset (b ∷ blocks) h = (h.0, others_of dataset blocks h.1)

first_others : (dataset : ℕ) (front others : List Resident) → BlocksAreOthers dataset (front ++ others) → BlocksAreOthers dataset front
first_others dataset [] others h = tt
first_others dataset (b ∷ front) others h = (h.0, first_others dataset front others h.1)

-- whether a block may be evicted for one of the dataset
abbrev may_go : History → ℕ → Resident → Bool
may_go h dataset b = not (is_pinned h b.dataset b.part) && not (is_excepted (Some dataset) b.dataset)

not_on : (t : Bool) → not t ≡ true → t ≡ true → ⊥
not_on true n y = absurd (cc n)
not_on false n y = absurd (cc y)

evictable_others : (h : History) (dataset : ℕ) (blocks : List Resident) → BlocksAreOthers dataset (filter (may_go h dataset) blocks)
evictable_others h dataset [] = tt
evictable_others h dataset (b ∷ blocks) =
    let kept = filter (may_go h dataset) blocks in
    elim (cases_Bool (may_go h dataset b)) [
      | inl holds ↦
          let two = and_both (not (is_pinned h b.dataset b.part)) (not (nat_eq b.dataset dataset)) holds in
          let apart : b.dataset ≢ dataset = λ same. not_on (nat_eq b.dataset dataset) two.1 (eq-eqb b.dataset dataset same) in
          subst (BlocksAreOthers dataset) (sym (cond-true (may_go h dataset b) (b ∷ kept) kept holds)) (apart, evictable_others h dataset blocks)
      | inr fails ↦
          subst (BlocksAreOthers dataset) (sym (cond-false (may_go h dataset b) (b ∷ kept) kept fails)) (evictable_others h dataset blocks)
    ]

found_others : (h : History) (dataset need : ℕ) (found : Option (List Resident)) → victims h need (Some dataset) ≡ found → BlocksAreOthers dataset (unwrap_or found [])
found_others h dataset need None is = tt
found_others h dataset need (Some front) is =
    let first = front_first (λ (block : Resident). block.size) need (evictable h (Some dataset)) front is in
    first_others dataset front first.0 (subst (BlocksAreOthers dataset) first.1 (evictable_others h dataset (residents h)))

chosen_others : (dataset : ℕ) (b : Bool) (blocks : List Resident) → BlocksAreOthers dataset blocks → BlocksAreOthers dataset (cond b [] blocks)
chosen_others dataset true blocks h = tt
chosen_others dataset false blocks h = h

-- whether a block of this size isn't refused at once
abbrev is_tried : Sizes → History → ℕ → Bool
is_tried s g size = nat_le size (block_limit_of s) && nat_le size (maximum s g - exec g)

-- the blocks that go where it isn't
abbrev tried : Sizes → History → ℕ → ℕ → List Resident
tried s g dataset size =
    let free = storage_free s g in
    let need = size - (free + borrowed_for size free (execution_free s g)) in
    if nat_eq need 0 then [] else unwrap_or (victims g need (Some dataset)) []

-- no block of the dataset goes for one of it
admission_others : (s : Sizes) (g : History) (dataset size : ℕ) → BlocksAreOthers dataset (admission s g dataset size).evicted
admission_others s g dataset size =
    let free = storage_free s g in
    let borrowed = borrowed_for size free (execution_free s g) in
    let need = size - (free + borrowed) in
    let yes : Admission = record { admitted = nat_le size (free + borrowed + sizes (tried s g dataset size)); borrowed = borrowed; evicted = tried s g dataset size } in
    let no : Admission = record { admitted = false; borrowed = 0; evicted = [] } in
    elim (cases_Bool (is_tried s g size)) [
      | inl try ↦
          let is : admission s g dataset size ≡ yes = cond-true (is_tried s g size) yes no try in
          subst (λ (a : Admission). BlocksAreOthers dataset a.evicted) (sym is)
          (chosen_others dataset (nat_eq need 0) (unwrap_or (victims g need (Some dataset)) []) (found_others g dataset need (victims g need (Some dataset)) refl))
      | inr skip ↦
          let is : admission s g dataset size ≡ no = cond-false (is_tried s g size) yes no skip in
          subst (λ (a : Admission). BlocksAreOthers dataset a.evicted) (sym is) tt
    ]

-- a block that isn't in memory behind the evictions for it wasn't there before them
pub absent_of : (s : Sizes) (h : History) (d p size : ℕ) → is_resident h d p ≡ false
    → pending h ≡ map evicted_of (admission s (settled h) d size).evicted → is_resident (settled h) d p ≡ false
absent_of s h d p size absent went =
    settled_absent h d p absent (subst (AreOthers d) (sym went) (others_of d (admission s (settled h) d size).evicted (admission_others s (settled h) d size)))
