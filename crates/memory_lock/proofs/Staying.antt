-- A worker's task and its pin stay through the calls that don't change them, whatever they are answered.
use Rattle.std.proofs.Common.{◌≡◌, ◌∙◌, ◌∷◌, ◌++◌, ◌+◌, [], ℕ, List, Option, true, false, refl, sym, ap, subst, inl, inr, append_assoc, append-nil}
use Rattle.std.specs.Prelude.{IfOk, OnOk, OnErr, Result, Ok, Err, ◌==◌, length}
use Rattle.std.specs.List.{AllByRecursion}
use Rattle.std.proofs.lemmas.Bool.{cases_Bool, eq-eqb}
use Rattle.std.proofs.lemmas.List.{reverse-append}
use Rattle.pool_ledger.specs.declared.entry.Entry.{Entry}
use Rattle.pool_ledger.specs.declared.entry.Event.{Event}
use Rattle.pool_ledger.specs.declared.entry.Event.TheVariants.{Attempt, Release, Admit, Refused as RefusedEvent, Pin, Grow}
use Rattle.pool_ledger.specs.History.{History, open_task, task_after}
use Rattle.pool_ledger.specs.Blocks.{Name, pin_after, worker_pin}
use Rattle.pool_ledger.specs.Journal.{history_of}
use Rattle.pool_ledger.specs.Workers.{entries_of}
use Rattle.pool_laws.specs.Growing.{entry_by}
use Rattle.block_store.specs.declared.block.Block.{Block}
use Rattle.memory_core.specs.declared.admission.Admission.{Admission as Answer}
use Rattle.memory_core.specs.declared.admission.Admission.TheVariants.{Admitted, Refused, Resident as AlreadyResident}
use Rattle.memory_core.specs.declared.attempted.Attempted.{Attempted}
use Rattle.memory_core.specs.declared.pinned.Pinned.{Pinned}
use Rattle.memory_core.specs.declared.pinned.Pinned.TheVariants.{Hit, OnDisk as ReadBack, Miss}
use Rattle.memory_core.specs.Attempts.{granted_in}
use Rattle.task_pool.proofs.GoingOn.{all_append}
use Rattle.memory_lock.specs.Workers.{AddsAttempt, AdmissionGrows, AreEvictions, AreRemovals, IsEviction, PinGrows, RemovalGrows}

-- the worker's own entries tell the same task
abbrev pub Stays : ℕ → List Entry → List Entry → Type 0
Stays worker before after = open_task (history_of (entries_of worker after)) worker ≡ open_task (history_of (entries_of worker before)) worker

-- and the same pin
abbrev pub StaysPinned : ℕ → List Entry → List Entry → Type 0
StaysPinned worker before after = worker_pin (history_of (entries_of worker after)) worker ≡ worker_pin (history_of (entries_of worker before)) worker

-- both
pub record StaysSo (worker : ℕ) (before after : List Entry) : Type 0 where
  pub task : Stays worker before after
  pub pin : StaysPinned worker before after

-- ---- events that change neither

-- whatever task its worker had, it has it after
abbrev pub LeavesTask : Entry → Type 0
LeavesTask entry = (was : Option ℕ) → task_after entry.event was ≡ was

-- whatever pin its worker had, it has it after
abbrev pub LeavesPin : Entry → Type 0
LeavesPin entry = (was : Option Name) → pin_after entry.event was ≡ was

task_one : (worker : ℕ) (before : List Entry) (entry : Entry) → LeavesTask entry → open_task (history_of (before ++ entry ∷ [])) worker ≡ open_task (history_of before) worker
task_one worker before entry leaves = ap (λ (h : History). open_task h worker) (reverse-append before (entry ∷ [])) ∙ now
  where
    now : open_task (entry ∷ history_of before) worker ≡ open_task (history_of before) worker
    now = elim (cases_Bool (entry.worker == worker)) [
      | inl mine ↦ rw mine (leaves (open_task (history_of before) worker))
      | inr other ↦ rw other refl
    ]

pub task_all : (worker : ℕ) (before added : List Entry) → AllByRecursion LeavesTask added → open_task (history_of (before ++ added)) worker ≡ open_task (history_of before) worker
task_all worker before [] all = ap (λ (es : List Entry). open_task (history_of es) worker) (append-nil before)
task_all worker before (entry ∷ more) all =
    ap (λ (es : List Entry). open_task (history_of es) worker) (sym (append_assoc before (entry ∷ []) more))
    ∙ task_all worker (before ++ entry ∷ []) more all.1 ∙ task_one worker before entry all.0

pin_one : (worker : ℕ) (before : List Entry) (entry : Entry) → LeavesPin entry → worker_pin (history_of (before ++ entry ∷ [])) worker ≡ worker_pin (history_of before) worker
pin_one worker before entry leaves = ap (λ (h : History). worker_pin h worker) (reverse-append before (entry ∷ [])) ∙ now
  where
    now : worker_pin (entry ∷ history_of before) worker ≡ worker_pin (history_of before) worker
    now = elim (cases_Bool (entry.worker == worker)) [
      | inl mine ↦ rw mine (leaves (worker_pin (history_of before) worker))
      | inr other ↦ rw other refl
    ]

pub pin_all : (worker : ℕ) (before added : List Entry) → AllByRecursion LeavesPin added → worker_pin (history_of (before ++ added)) worker ≡ worker_pin (history_of before) worker
pin_all worker before [] all = ap (λ (es : List Entry). worker_pin (history_of es) worker) (append-nil before)
pin_all worker before (entry ∷ more) all =
    ap (λ (es : List Entry). worker_pin (history_of es) worker) (sym (append_assoc before (entry ∷ []) more))
    ∙ pin_all worker (before ++ entry ∷ []) more all.1 ∙ pin_one worker before entry all.0

-- a worker's pin behind an event of its own
pub pin_now : (worker : ℕ) (event : Event) (before : List Entry) → worker_pin (history_of (before ++ entry_by worker event ∷ [])) worker ≡ pin_after event (worker_pin (history_of before) worker)
pin_now worker event before = ap (λ (h : History). worker_pin h worker) (reverse-append before (entry_by worker event ∷ [])) ∙ rw (eq-eqb worker worker refl) refl

-- ---- lists of entries

pub all_imply : (P Q : Entry → Type 0) → ((entry : Entry) → P entry → Q entry) → (entries : List Entry) → AllByRecursion P entries → AllByRecursion Q entries
all_imply P Q imply [] all = tt
all_imply P Q imply (entry ∷ entries) all = (imply entry all.0, all_imply P Q imply entries all.1)

-- something of evictions and of the entry behind them
pub all_then : (P : Entry → Type 0) (worker : ℕ) (evicted : List Entry) (entry : Entry) → ((entry : Entry) → IsEviction worker entry → P entry) → AreEvictions worker evicted → P entry → AllByRecursion P (evicted ++ entry ∷ [])
all_then P worker evicted entry each are last = all_append P evicted (entry ∷ []) (all_imply (IsEviction worker) P each evicted are) (last, tt)

eviction_leaves_task : (worker : ℕ) (entry : Entry) → IsEviction worker entry → LeavesTask entry
eviction_leaves_task worker entry is = subst LeavesTask (sym is.4) (λ was. refl)

eviction_leaves_pin : (worker : ℕ) (entry : Entry) → IsEviction worker entry → LeavesPin entry
eviction_leaves_pin worker entry is = subst LeavesPin (sym is.4) (λ was. refl)

removals_leave_task : (worker dataset from : ℕ) (gone : List Entry) → AreRemovals worker dataset from gone → AllByRecursion LeavesTask gone
removals_leave_task worker dataset from [] are = tt
removals_leave_task worker dataset from (entry ∷ more) are = (subst LeavesTask (sym are.2) (λ was. refl), removals_leave_task worker dataset (are.0 + 1) more are.4)

removals_leave_pin : (worker dataset from : ℕ) (gone : List Entry) → AreRemovals worker dataset from gone → AllByRecursion LeavesPin gone
removals_leave_pin worker dataset from [] are = tt
removals_leave_pin worker dataset from (entry ∷ more) are = (subst LeavesPin (sym are.2) (λ was. refl), removals_leave_pin worker dataset (are.0 + 1) more are.4)

-- ---- calls

stays_with : (worker : ℕ) (before after added : List Entry) → entries_of worker after ≡ entries_of worker before ++ added → AllByRecursion LeavesTask added → AllByRecursion LeavesPin added → StaysSo worker before after
stays_with worker before after added is task pin = record {
  task = ap (λ (es : List Entry). open_task (history_of es) worker) is ∙ task_all worker (entries_of worker before) added task;
  pin = ap (λ (es : List Entry). worker_pin (history_of es) worker) is ∙ pin_all worker (entries_of worker before) added pin;
}

stays_behind : (worker : ℕ) (event : Event) (before after evicted : List Entry) → ((was : Option ℕ) → task_after event was ≡ was) → ((was : Option Name) → pin_after event was ≡ was) → AreEvictions worker evicted
    → entries_of worker after ≡ entries_of worker before ++ (evicted ++ entry_by worker event ∷ []) → StaysSo worker before after
stays_behind worker event before after evicted task pin are is =
    stays_with worker before after (evicted ++ entry_by worker event ∷ []) is
    (all_then LeavesTask worker evicted (entry_by worker event) (eviction_leaves_task worker) are task)
    (all_then LeavesPin worker evicted (entry_by worker event) (eviction_leaves_pin worker) are pin)

same_entries : (worker : ℕ) (before after : List Entry) → entries_of worker after ≡ entries_of worker before → StaysSo worker before after
same_entries worker before after is = record {
  task = ap (λ (es : List Entry). open_task (history_of es) worker) is;
  pin = ap (λ (es : List Entry). worker_pin (history_of es) worker) is;
}

unchanged : (worker : ℕ) (before after : List Entry) → after ≡ before → StaysSo worker before after
unchanged worker before after is = same_entries worker before after (ap (entries_of worker) is)

module _ {E : Type 0} where
  pub through_attempt : (result : Result Attempted E) (worker task asked : ℕ) (before after : List Entry) → IfOk result (λ got. AddsAttempt worker task asked (granted_in got) (entries_of worker before) (entries_of worker after))
      → OnErr result (after ≡ before) → StaysSo worker before after
  through_attempt (Ok got) worker task asked before after ok err =
      stays_behind worker (Attempt task asked ok.1 (length ok.0) (granted_in got)) before after ok.0 (λ was. refl) (λ was. refl) ok.2 ok.3
  through_attempt (Err e) worker task asked before after ok err = unchanged worker before after err

  pub through_release : (result : Result ℕ E) (worker task : ℕ) (before after : List Entry) → IfOk result (λ freed. entries_of worker after ≡ entries_of worker before ++ entry_by worker (Release task freed) ∷ [])
      → OnErr result (after ≡ before) → StaysSo worker before after
  through_release (Ok freed) worker task before after ok err = stays_with worker before after (entry_by worker (Release task freed) ∷ []) ok ((λ was. refl), tt) ((λ was. refl), tt)
  through_release (Err e) worker task before after ok err = unchanged worker before after err

  pub through_growth : {T : Type 0} (result : Result T E) (worker bytes : ℕ) (before after : List Entry) → OnOk result (entries_of worker after ≡ entries_of worker before ++ entry_by worker (Grow bytes) ∷ [])
      → OnErr result (after ≡ before) → StaysSo worker before after
  through_growth (Ok done) worker bytes before after ok err = stays_with worker before after (entry_by worker (Grow bytes) ∷ []) ok ((λ was. refl), tt) ((λ was. refl), tt)
  through_growth (Err e) worker bytes before after ok err = unchanged worker before after err

  pub through_admit : (result : Result Answer E) (block : Block) (size worker : ℕ) (before after : List Entry) (history : History)
      → IfOk result (λ answer. AdmissionGrows answer block size worker (entries_of worker before) (entries_of worker after) history) → OnErr result (after ≡ before) → StaysSo worker before after
  through_admit (Ok Admitted) block size worker before after history ok err =
      stays_behind worker (Admit block.dataset block.part size block.level ok.1 (length ok.0)) before after ok.0 (λ was. refl) (λ was. refl) ok.2 ok.3
  through_admit (Ok Refused) block size worker before after history ok err =
      stays_behind worker (RefusedEvent block.dataset block.part size ok.1 (length ok.0)) before after ok.0 (λ was. refl) (λ was. refl) ok.2 ok.3
  through_admit (Ok AlreadyResident) block size worker before after history ok err = same_entries worker before after ok.0
  through_admit (Err e) block size worker before after history ok err = unchanged worker before after err

  pub through_pin : (result : Result Pinned E) (worker dataset part : ℕ) (before after : List Entry) (history : History)
      → IfOk result (λ pinned. PinGrows pinned worker dataset part (entries_of worker before) (entries_of worker after) history) → OnErr result (after ≡ before) → Stays worker before after
  through_pin (Ok (Hit block)) worker dataset part before after history ok err =
      ap (λ (es : List Entry). open_task (history_of es) worker) ok ∙ task_all worker (entries_of worker before) (entry_by worker (Pin dataset part false) ∷ []) ((λ was. refl), tt)
  through_pin (Ok (ReadBack block)) worker dataset part before after history ok err =
      ap (λ (es : List Entry). open_task (history_of es) worker) ok ∙ task_all worker (entries_of worker before) (entry_by worker (Pin dataset part true) ∷ []) ((λ was. refl), tt)
  through_pin (Ok Miss) worker dataset part before after history ok err = (same_entries worker before after ok.0).task
  through_pin (Err e) worker dataset part before after history ok err = (unchanged worker before after err).task

  pub through_remove : {T : Type 0} (result : Result T E) (dataset worker : ℕ) (before after : List Entry) (history : History)
      → OnOk result (RemovalGrows dataset worker (entries_of worker before) (entries_of worker after) history) → OnErr result (after ≡ before) → StaysSo worker before after
  through_remove (Ok done) dataset worker before after history ok err =
      stays_with worker before after ok.0 ok.2 (removals_leave_task worker dataset 0 ok.0 ok.1) (removals_leave_pin worker dataset 0 ok.0 ok.1)
  through_remove (Err e) dataset worker before after history ok err = unchanged worker before after err
