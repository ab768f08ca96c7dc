-- A worker's own entries tell its task, its pin, and what its tasks hold.
use Rattle.std.proofs.Common.{◌≡◌, ◌≢◌, ◌∙◌, ◌∷◌, ◌++◌, [], ℕ, Bool, true, false, List, Option, Some, reverse, refl, sym, ap, subst, inl, inr, arith}
use Rattle.std.specs.Prelude.{◌==◌}
use Rattle.std.specs.List.{filter, list_any}
use Rattle.std.proofs.lemmas.Bool.{cases_Bool, cases_eq, cond-true, cond-false, eq-eqb, eqb-true, ne_eqb}
use Rattle.std.proofs.lemmas.Grind.{reverse_onto}
use Rattle.std.proofs.lemmas.List.Elements.{filter-append}
use Rattle.pool_ledger.specs.declared.entry.Entry.{Entry}
use Rattle.pool_ledger.specs.declared.entry.Event.{Event}
use Rattle.pool_ledger.specs.declared.entry.Event.TheVariants.{Begin, Attempt, Release, End, Evict, Admit, Refused, Pin, Unpin, Remove, Grow}
use Rattle.pool_ledger.specs.Sizes.{Sizes}
use Rattle.pool_ledger.specs.History.{History, total, grown_by, granted_by, freed_by, held, begun, begun_after, is_active, active_after, open_task, task_after, was_begun}
use Rattle.pool_ledger.specs.Blocks.{worker_pin, pin_after}
use Rattle.pool_ledger.specs.Journal.{history_of}
use Rattle.pool_ledger.specs.Legal.{IsPermitted, MayCome}
use Rattle.pool_ledger.specs.Workers.{entries_of}
use Rattle.pool_laws.specs.Owners.{AreOwned, IsByOwner, OwnerTells, TellsGrowths, TellsWorker}

-- ---- a list and its reverse

abbrev is_by : ℕ → Entry → Bool
is_by worker entry = entry.worker == worker

-- the worker's entries of a history
abbrev own : ℕ → History → History
own worker history = filter (is_by worker) history

filter-reverse : (p : Entry → Bool) (xs : List Entry) → reverse (filter p xs) ≡ filter p (reverse xs)
filter-reverse p [] = refl
filter-reverse p (x ∷ xs) =
    let behind : filter p (reverse (x ∷ xs)) ≡ filter p (reverse xs) ++ filter p (x ∷ []) = ap (filter p) (reverse_onto xs x []) ∙ filter-append p (reverse xs) (x ∷ []) in
    elim (cases_Bool (p x)) [
      | inl holds ↦
          let here : filter p (x ∷ xs) ≡ x ∷ filter p xs = cond-true (p x) (x ∷ filter p xs) (filter p xs) holds in
          let one : filter p (x ∷ []) ≡ x ∷ [] = cond-true (p x) (x ∷ []) [] holds in
          ap reverse here ∙ reverse_onto (filter p xs) x [] ∙ ap (λ ys. ys ++ x ∷ []) (filter-reverse p xs) ∙ sym (behind ∙ ap (λ ys. filter p (reverse xs) ++ ys) one)
      | inr fails ↦
          let here : filter p (x ∷ xs) ≡ filter p xs = cond-false (p x) (x ∷ filter p xs) (filter p xs) fails in
          let one : filter p (x ∷ []) ≡ [] = cond-false (p x) (x ∷ []) [] fails in
          ap reverse here ∙ filter-reverse p xs ∙ sym (behind ∙ ap (λ ys. filter p (reverse xs) ++ ys) one ∙ append_nil (filter p (reverse xs)))
    ]
  where
    append_nil : (ys : List Entry) → ys ++ [] ≡ ys
    append_nil [] = refl
    append_nil (y ∷ ys) = ap (λ zs. y ∷ zs) (append_nil ys)

-- ---- a worker's task and pin

own_here : (worker : ℕ) (entry : Entry) (before : History) → (entry.worker == worker) ≡ true → own worker (entry ∷ before) ≡ entry ∷ own worker before
own_here worker entry before mine = cond-true (entry.worker == worker) (entry ∷ own worker before) (own worker before) mine

own_past : (worker : ℕ) (entry : Entry) (before : History) → (entry.worker == worker) ≡ false → own worker (entry ∷ before) ≡ own worker before
own_past worker entry before other = cond-false (entry.worker == worker) (entry ∷ own worker before) (own worker before) other

task_told : (worker : ℕ) (history : History) → open_task history worker ≡ open_task (own worker history) worker
task_told worker [] = refl
task_told worker (entry ∷ before) = elim (cases_Bool (entry.worker == worker)) [
  | inl mine ↦
      rw (own_here worker entry before mine)
      (rw mine (ap (task_after entry.event) (task_told worker before)))
  | inr other ↦
      rw (own_past worker entry before other)
      (rw other (task_told worker before))
]

pin_told : (worker : ℕ) (history : History) → worker_pin history worker ≡ worker_pin (own worker history) worker
pin_told worker [] = refl
pin_told worker (entry ∷ before) = elim (cases_Bool (entry.worker == worker)) [
  | inl mine ↦
      rw (own_here worker entry before mine)
      (rw mine (ap (pin_after entry.event) (pin_told worker before)))
  | inr other ↦
      rw (own_past worker entry before other)
      (rw other (pin_told worker before))
]

-- ---- what belongs to whom

owned-after : (owner : ℕ → Option ℕ) (worker task : ℕ) (event : Event) (was : Option ℕ) → IsByOwner owner worker event → (was ≡ Some task → owner task ≡ Some worker)
    → task_after event was ≡ Some task → owner task ≡ Some worker
owned-after owner worker task (Begin t) was by before now = let same : t ≡ task = cc now in subst (λ u. owner u ≡ Some worker) same by
owned-after owner worker task (End t freed) was by before now = cc now
owned-after owner worker task _ was by before now = before now

open_is_owned : (owner : ℕ → Option ℕ) (history : History) (worker task : ℕ) → AreOwned owner history → open_task history worker ≡ Some task → owner task ≡ Some worker
open_is_owned owner [] worker task owned now = cc now
open_is_owned owner (entry ∷ before) worker task owned now = elim (cases_Bool (entry.worker == worker)) [
  | inl mine ↦
      let by : IsByOwner owner worker entry.event = subst (λ w. IsByOwner owner w entry.event) (eqb-true entry.worker worker mine) owned.1 in
      owned-after owner worker task entry.event (open_task before worker) by (open_is_owned owner before worker task owned.0) (rw mine at now)
  | inr other ↦ open_is_owned owner before worker task owned.0 (rw other at now)
]

-- an event of another task, or of none
IsOfOther : ℕ → Event → Type 0
IsOfOther task (Begin t) = t ≢ task
IsOfOther task (Attempt t asked moved evictions got) = t ≢ task
IsOfOther task (Release t freed) = t ≢ task
IsOfOther task (End t freed) = t ≢ task
IsOfOther task _ = Unit {0}

of_other : (setup : Sizes) (owner : ℕ → Option ℕ) (history : History) (worker task by : ℕ) (event : Event) → AreOwned owner history → owner task ≡ Some worker → by ≢ worker
    → IsByOwner owner by event → MayCome setup history by event → IsOfOther task event
unfolding IsOfOther
of_other setup owner history worker task by (Begin t) owned its apart begins may = λ same. apart (cc (sym begins, ap owner same, its))
of_other setup owner history worker task by (Attempt t asked moved evictions got) owned its apart begins may = λ same. apart (cc (sym (open_is_owned owner history by t owned may.0), ap owner same, its))
of_other setup owner history worker task by (Release t freed) owned its apart begins may = λ same. apart (cc (sym (open_is_owned owner history by t owned may.1), ap owner same, its))
of_other setup owner history worker task by (End t freed) owned its apart begins may = λ same. apart (cc (sym (open_is_owned owner history by t owned may.1), ap owner same, its))
of_other setup owner history worker task by _ owned its apart begins may = tt

-- what such an event leaves of the task
record Skips (task : ℕ) (event : Event) : Type 0 where
  grants : granted_by task event ≡ 0
  frees : freed_by task event ≡ 0
  begins : (tasks : List ℕ) → list_any (λ t. t == task) (begun_after event tasks) ≡ list_any (λ t. t == task) tasks
  stays : (was : Bool) (holds : ℕ) → active_after task event was holds ≡ was

skips : (task : ℕ) (event : Event) → IsOfOther task event → Skips task event
unfolding IsOfOther
skips task (Begin t) other = record { grants = refl; frees = refl; begins = λ tasks. rw (ne_eqb t task other) refl; stays = λ was holds. refl }
skips task (Attempt t asked moved evictions got) other = record {
  grants = rw (ne_eqb t task other) refl;
  frees = refl;
  begins = λ tasks. refl;
  stays = λ was holds. rw (ne_eqb t task other) refl;
}
skips task (Release t freed) other = record {
  grants = refl;
  frees = rw (ne_eqb t task other) refl;
  begins = λ tasks. refl;
  stays = λ was holds. rw (ne_eqb t task other) refl;
}
skips task (End t freed) other = record {
  grants = refl;
  frees = rw (ne_eqb t task other) refl;
  begins = λ tasks. refl;
  stays = λ was holds. rw (ne_eqb t task other) refl;
}
skips task (Evict d p size fate) other = record { grants = refl; frees = refl; begins = λ tasks. refl; stays = λ was holds. refl }
skips task (Admit d p size level borrowed evictions) other = record { grants = refl; frees = refl; begins = λ tasks. refl; stays = λ was holds. refl }
skips task (Refused d p size borrowed evictions) other = record { grants = refl; frees = refl; begins = λ tasks. refl; stays = λ was holds. refl }
skips task (Pin d p copy) other = record { grants = refl; frees = refl; begins = λ tasks. refl; stays = λ was holds. refl }
skips task (Unpin d p) other = record { grants = refl; frees = refl; begins = λ tasks. refl; stays = λ was holds. refl }
skips task (Remove d p size) other = record { grants = refl; frees = refl; begins = λ tasks. refl; stays = λ was holds. refl }
skips task (Grow bytes) other = record { grants = refl; frees = refl; begins = λ tasks. refl; stays = λ was holds. refl }

-- ---- what a task holds

-- both histories have granted the task the same, freed the same, and begun it or not
record IsSameOf (task : ℕ) (history part : History) : Type 0 where
  grants : total (granted_by task) history ≡ total (granted_by task) part
  frees : total (freed_by task) history ≡ total (freed_by task) part
  active : is_active history task ≡ is_active part task
  begins : was_begun history task ≡ was_begun part task

begun_both : (task : ℕ) (event : Event) (all some : List ℕ) → list_any (λ t. t == task) all ≡ list_any (λ t. t == task) some
    → list_any (λ t. t == task) (begun_after event all) ≡ list_any (λ t. t == task) (begun_after event some)
begun_both task (Begin t) all some same = rw same refl
begun_both task _ all some same = same

both : (task : ℕ) (entry : Entry) (history part : History) → IsSameOf task history part → IsSameOf task (entry ∷ history) (entry ∷ part)
both task entry history part same =
    let holds : held (entry ∷ history) task ≡ held (entry ∷ part) task = rw (same.grants, same.frees) refl in
    record {
      grants = omega (arith, same.grants);
      frees = omega (arith, same.frees);
      active = ap (λ was. active_after task entry.event was (held (entry ∷ history) task)) same.active ∙ ap (active_after task entry.event (is_active part task)) holds;
      begins = begun_both task entry.event (begun history) (begun part) same.begins;
    }

one : (task : ℕ) (entry : Entry) (history part : History) → IsSameOf task history part → Skips task entry.event → IsSameOf task (entry ∷ history) part
one task entry history part same skip = record {
  grants = omega (arith, same.grants, skip.grants);
  frees = omega (arith, same.frees, skip.frees);
  active = skip.stays (is_active history task) (held (entry ∷ history) task) ∙ same.active;
  begins = skip.begins (begun history) ∙ same.begins;
}

same_of : (setup : Sizes) (owner : ℕ → Option ℕ) (history : History) (worker task : ℕ) → IsPermitted setup history → AreOwned owner history → owner task ≡ Some worker
    → IsSameOf task history (own worker history)
same_of setup owner [] worker task permitted owned its = record { grants = refl; frees = refl; active = refl; begins = refl }
same_of setup owner (entry ∷ before) worker task permitted owned its =
    let earlier = same_of setup owner before worker task permitted.0 owned.0 its in
    elim (cases_eq entry.worker worker) [
      | inl mine ↦ rw (own_here worker entry before (eq-eqb entry.worker worker mine)) (both task entry before (own worker before) earlier)
      | inr other ↦
          rw (own_past worker entry before (ne_eqb entry.worker worker other))
          (one task entry before (own worker before) earlier
          (skips task entry.event (of_other setup owner before worker task entry.worker entry.event owned.0 its other owned.1 permitted.1.event)))
    ]

-- ---- over journals

own_journal : (worker : ℕ) (journal : List Entry) → own worker (history_of journal) ≡ history_of (entries_of worker journal)
own_journal worker journal = sym (filter-reverse (is_by worker) journal)

pub tells_worker : (journal : List Entry) (worker : ℕ) → TellsWorker (history_of journal) (history_of (entries_of worker journal)) worker
tells_worker journal worker = record {
  task = task_told worker (history_of journal) ∙ ap (λ h. open_task h worker) (own_journal worker journal);
  pin = pin_told worker (history_of journal) ∙ ap (λ h. worker_pin h worker) (own_journal worker journal);
}

pub tells_task : (setup : Sizes) (owner : ℕ → Option ℕ) (journal : List Entry) (worker task : ℕ) → IsPermitted setup (history_of journal) → AreOwned owner (history_of journal)
    → owner task ≡ Some worker → OwnerTells (history_of journal) (history_of (entries_of worker journal)) task
tells_task setup owner journal worker task permitted owned its =
    let same = subst (IsSameOf task (history_of journal)) (own_journal worker journal) (same_of setup owner (history_of journal) worker task permitted owned its) in
    record { holds = rw (same.grants, same.frees) refl; active = same.active; begun = same.begins }

-- ---- what the pools grew by

-- only the first worker makes them larger
grows_none : (setup : Sizes) (history : History) (by : ℕ) (event : Event) → by ≢ 0 → MayCome setup history by event → grown_by event ≡ 0
grows_none setup history by (Grow bytes) other may = absurd (other may.1.first)
grows_none setup history by _ other may = refl

grown_told : (setup : Sizes) (history : History) → IsPermitted setup history → total grown_by history ≡ total grown_by (own 0 history)
grown_told setup [] permitted = refl
grown_told setup (entry ∷ before) permitted = elim (cases_eq entry.worker 0) [
  | inl mine ↦ rw (own_here 0 entry before (eq-eqb entry.worker 0 mine)) (omega (arith, grown_told setup before permitted.0))
  | inr other ↦
      rw (own_past 0 entry before (ne_eqb entry.worker 0 other))
      (omega (arith, grown_told setup before permitted.0, grows_none setup before entry.worker entry.event other permitted.1.event))
]

pub tells_growths : (setup : Sizes) (journal : List Entry) → IsPermitted setup (history_of journal) → TellsGrowths (history_of journal) (history_of (entries_of 0 journal))
tells_growths setup journal permitted = grown_told setup (history_of journal) permitted ∙ ap (total grown_by) (own_journal 0 journal)
