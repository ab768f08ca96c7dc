-- The bytes of each dataset's blocks after an event.
use Rattle.std.proofs.Common.{◌≡◌, ℕ, ◌+◌, ◌-◌, ◌^◌, ◌≤◌, Bool, true, false, not, cond, List, [], ◌∷◌, sum_by, refl, sym, ap, ◌∙◌, inl, inr, arith}
use Rattle.std.specs.Prelude.{nat_eq}
use Rattle.std.specs.HashMap.{HashMap}
use Rattle.std.specs.List.{filter}
use Rattle.std.proofs.lemmas.Bool.{and_parts, cases_Bool, cond-true, cond-false, eqb-true}
use Rattle.std.proofs.lemmas.List.Filters.{sum_by-filter_both}
use Rattle.std.proofs.lemmas.List.Sums.{sum_by-append, sum_by-cons, sum_by_push}
use Rattle.pool_ledger.specs.declared.entry.Entry.{Entry}
use Rattle.pool_ledger.specs.declared.entry.Event.{Event}
use Rattle.pool_ledger.specs.declared.entry.Event.TheVariants.{Admit, Evict, Pin, Remove}
use Rattle.pool_ledger.specs.Sizes.{Sizes}
use Rattle.pool_ledger.specs.History.{History, maximum}
use Rattle.pool_ledger.specs.Blocks.{Resident, is_block, only, residents, residents_after, sizes, without}
use Rattle.pool_ledger.specs.Recorded.{CanCome, IsLeaving, IsRecorded}
use Rattle.pool_ledger.proofs.Residents.{stored-without}
use Rattle.journal_replay.specs.Tables.{bytes_after, bytes_at, bytes_of, IsSmall, TellsBytes}

-- the bytes that a block adds to its dataset, and to the others
abbrev own : ℕ → Resident → ℕ
own dataset block = cond (nat_eq block.dataset dataset) block.size 0

abbrev other : ℕ → Resident → ℕ
other dataset block = cond (nat_eq block.dataset dataset) 0 block.size

either : (t : Bool) (n : ℕ) → cond t n 0 + cond t 0 n ≡ n
either true n = omega arith
either false n = omega arith

-- the bytes of a dataset's blocks and those of the others
both : (dataset : ℕ) (blocks : List Resident) → bytes_of dataset blocks + sum_by (other dataset) blocks ≡ sizes blocks
both dataset [] = refl
both dataset (b ∷ blocks) =
    omega (arith, both dataset blocks, either (nat_eq b.dataset dataset) b.size, sum_by-cons (own dataset) b blocks, sum_by-cons (other dataset) b blocks, sum_by-cons (λ (x : Resident). x.size) b blocks)

-- what adds nothing may be taken out
none_added : (f : Resident → ℕ) (q : Resident → Bool) → ((b : Resident) → q b ≡ true → f b ≡ 0) → (blocks : List Resident) → sum_by f (filter q blocks) ≡ 0
none_added f q none [] = refl
none_added f q none (b ∷ blocks) = elim (cases_Bool (q b)) [
  | inl holds ↦ rw (cond-true (q b) (b ∷ filter q blocks) (filter q blocks) holds) (omega (arith, none b holds, sum_by-cons f b (filter q blocks), none_added f q none blocks))
  | inr fails ↦ rw (cond-false (q b) (b ∷ filter q blocks) (filter q blocks) fails) (none_added f q none blocks)
]

stays_without : (f : Resident → ℕ) (d p : ℕ) → ((b : Resident) → is_block d p b ≡ true → f b ≡ 0) → (blocks : List Resident) → sum_by f (without d p blocks) ≡ sum_by f blocks
stays_without f d p none blocks = omega (arith, none_added f (is_block d p) none blocks, sum_by-filter_both (is_block d p) (λ b. not (is_block d p b)) (λ b. refl) f blocks)

-- a block is of its own dataset
dataset_is : (d p : ℕ) (b : Resident) → is_block d p b ≡ true → b.dataset ≡ d
dataset_is d p b holds = eqb-true b.dataset d (and_parts (nat_eq b.dataset d) (nat_eq b.part p) holds).0

-- Events

left_with : (s : Sizes) (h : History) (d p size dataset : ℕ) (b : Resident) → IsRecorded s h → IsLeaving h d p size b
    → bytes_of dataset (without d p (residents h)) ≡ cond (nat_eq d dataset) (bytes_of dataset (residents h) - size) (bytes_of dataset (residents h))
left_with s h d p size dataset b recorded leaving = elim (cases_Bool (nat_eq d dataset)) [
  | inl holds ↦
      let others : sum_by (other dataset) (without d p (residents h)) ≡ sum_by (other dataset) (residents h) =
      stays_without (other dataset) d p (λ x is. ap (λ (n : ℕ). cond {A = ℕ} (nat_eq n dataset) 0 x.size) (dataset_is d p x is) ∙ cond-true (nat_eq d dataset) 0 x.size holds) (residents h) in
      let fewer : bytes_of dataset (without d p (residents h)) ≡ bytes_of dataset (residents h) - size =
      omega (arith, others, both dataset (residents h), both dataset (without d p (residents h)), stored-without s h d p size b recorded leaving) in
      fewer ∙ sym (cond-true (nat_eq d dataset) (bytes_of dataset (residents h) - size) (bytes_of dataset (residents h)) holds)
  | inr fails ↦
      stays_without (own dataset) d p (λ x is. ap (λ (n : ℕ). cond {A = ℕ} (nat_eq n dataset) x.size 0) (dataset_is d p x is) ∙ cond-false (nat_eq d dataset) x.size 0 fails) (residents h)
      ∙ sym (cond-false (nat_eq d dataset) (bytes_of dataset (residents h) - size) (bytes_of dataset (residents h)) fails)
]

more_or_same : (t : Bool) (n size : ℕ) → n + cond t size 0 ≡ cond t (n + size) n
more_or_same true n size = refl
more_or_same false n size = omega arith

bytes_more : (s : Sizes) (h : History) (w : ℕ) (e : Event) (dataset : ℕ) → IsRecorded s h → CanCome s h w e
    → bytes_of dataset (residents_after e (residents h)) ≡ bytes_after e dataset (bytes_of dataset (residents h))
bytes_more s h w (Admit d p size level borrowed evictions) dataset recorded can =
    sum_by_push (own dataset) (residents h) (record { dataset = d; part = p; size = size; level = level }) ∙ more_or_same (nat_eq d dataset) (bytes_of dataset (residents h)) size
bytes_more s h w (Evict d p size fate) dataset recorded can = left_with s h d p size dataset can.0 recorded can.1
bytes_more s h w (Remove d p size) dataset recorded can = left_with s h d p size dataset can.0 recorded can.1
bytes_more s h w (Pin d p true) dataset recorded can = refl
bytes_more s h w (Pin d p false) dataset recorded can =
    omega (arith, sum_by-append (own dataset) (without d p (residents h)) (only d p (residents h)), sum_by-filter_both (is_block d p) (λ b. not (is_block d p b)) (λ b. refl) (own dataset) (residents h))
bytes_more s h w _ dataset recorded can = refl

-- the bytes after an entry that could be recorded
pub bytes_noted : {S : Type 0} (old new : HashMap ℕ ℕ S) (s : Sizes) (h : History) (entry : Entry) → IsRecorded s (entry ∷ h) → TellsBytes old h
    → ((dataset : ℕ) → bytes_at new dataset ≡ bytes_after entry.event dataset (bytes_at old dataset)) → TellsBytes new (entry ∷ h)
bytes_noted old new s h entry recorded tells noted dataset =
    noted dataset ∙ ap (bytes_after entry.event dataset) (tells dataset) ∙ sym (bytes_more s h entry.worker entry.event dataset recorded.0 recorded.1.event_fits)

-- the bytes of one dataset are among the stored ones
pub bytes_within : (dataset : ℕ) (blocks : List Resident) → bytes_of dataset blocks ≤ sizes blocks
bytes_within dataset blocks = omega (arith, both dataset blocks)

-- an admission passes no bound of a number
pub small_noted : {S : Type 0} (bytes : HashMap ℕ ℕ S) (s : Sizes) (h : History) (entry : Entry) → maximum s h ≤ 2 ^ 41 → IsRecorded s (entry ∷ h) → TellsBytes bytes h → IsSmall entry.event bytes
small_noted bytes s h entry low recorded tells = by entry.worker entry.event recorded.1.event_fits
  where
    by : (w : ℕ) (e : Event) → CanCome s h w e → IsSmall e bytes
    by w (Admit d p size level borrowed evictions) can = omega (arith, low, can.sum_fits, tells d, bytes_within d (residents h))
    by w _ can = tt
