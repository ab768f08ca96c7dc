-- A call that takes the value with one history and gives it back with another, as its worker sees it.
use Rattle.std.proofs.Common.{◌≡◌, ◌+◌, ◌∙◌, ◌∷◌, ◌++◌, [], ℕ, List, true, false, sym, ap, subst}
use Rattle.std.specs.Prelude.{IfOk, OnOk, Result, Ok, Err, unwrap_or}
use Rattle.std.proofs.lemmas.List.{reverse-append}
use Rattle.pool_ledger.specs.declared.entry.Entry.{Entry}
use Rattle.pool_ledger.specs.declared.entry.Event.TheVariants.{Pin, Grow}
use Rattle.pool_ledger.specs.History.{History, grown_by, held, open_task, total}
use Rattle.pool_ledger.specs.Blocks.{worker_pin}
use Rattle.pool_ledger.specs.Journal.{history_of, journal_of}
use Rattle.pool_ledger.specs.Workers.{entries_of}
use Rattle.pool_laws.specs.Growing.{entry_by}
use Rattle.block_store.specs.declared.block.Block.{Block}
use Rattle.memory_core.specs.declared.admission.Admission.{Admission as Answer}
use Rattle.memory_core.specs.declared.admission.Admission.TheVariants.{Admitted, Refused, Resident as AlreadyResident}
use Rattle.memory_core.specs.declared.attempted.Attempted.{Attempted}
use Rattle.memory_core.specs.Attempts.{granted_in}
use Rattle.memory_core.specs.declared.pinned.Pinned.{Pinned}
use Rattle.memory_core.specs.declared.pinned.Pinned.TheVariants.{Hit, OnDisk as ReadBack, Miss}
use Rattle.turn_lock.specs.Passes.{WorkerView, holding, resting}
use Rattle.memory_lock.specs.Workers.{AddsAdmission, AddsPin, AddsRemovals, AdmissionGrows, HasNoPin, KeepsPin, KeepsTask, PinGrows, RemovalGrows, own_entries}
use Rattle.memory_lock.proofs.Deciding.{twice_reversed}
use Rattle.memory_lock.proofs.Staying.{Stays, StaysPinned, pin_now}

-- the worker of this number took the one and gave back the other
pub record IsTurn (now given : WorkerView) (number : ℕ) (before after : List Entry) : Type 0 where
  pub number_is : number ≡ now.number
  pub same : given.number ≡ now.number
  pub had : entries_of number before ≡ own_entries now
  pub gave : own_entries given ≡ entries_of number after
  pub seen : given.seen ≡ after

pub turned : (pass now taken given : WorkerView) (number : ℕ) (before after : List Entry) → pass ≡ now → number ≡ pass.number
    → entries_of pass.number before ≡ entries_of pass.number pass.seen → taken ≡ holding before pass → given ≡ resting after taken → IsTurn now given number before after
turned pass now taken given number before after is number_is own take give =
    let whole : given ≡ resting after (holding before pass) = give ∙ ap (resting after) take in record {
      number_is = number_is ∙ ap (λ (p : WorkerView). p.number) is;
      same = ap (λ (p : WorkerView). p.number) whole ∙ ap (λ (p : WorkerView). p.number) is;
      had = ap (λ (n : ℕ). entries_of n before) number_is ∙ own ∙ ap own_entries is;
      gave = ap own_entries whole ∙ ap (λ (n : ℕ). entries_of n after) (sym number_is);
      seen = ap (λ (p : WorkerView). p.seen) whole;
    }

-- ---- what stays

pub keeps_task : (now given : WorkerView) (number : ℕ) (before after : List Entry) → IsTurn now given number before after → Stays number before after → KeepsTask now given
keeps_task now given number before after turn stays =
    ap (λ (es : List Entry). open_task (history_of es) given.number) turn.gave
    ∙ ap (open_task (history_of (entries_of number after))) (turn.same ∙ sym turn.number_is) ∙ stays
    ∙ ap (open_task (history_of (entries_of number before))) turn.number_is
    ∙ ap (λ (es : List Entry). open_task (history_of es) now.number) turn.had

pub keeps_pin : (now given : WorkerView) (number : ℕ) (before after : List Entry) → IsTurn now given number before after → StaysPinned number before after → KeepsPin now given
keeps_pin now given number before after turn stays =
    ap (λ (es : List Entry). worker_pin (history_of es) given.number) turn.gave
    ∙ ap (worker_pin (history_of (entries_of number after))) (turn.same ∙ sym turn.number_is) ∙ stays
    ∙ ap (worker_pin (history_of (entries_of number before))) turn.number_is
    ∙ ap (λ (es : List Entry). worker_pin (history_of es) now.number) turn.had

-- ---- what is added

-- what is said of the entries in words of the state is so in words of the worker
said : (P : ℕ → List Entry → List Entry → History → Type 0) (now given : WorkerView) (number : ℕ) (before : List Entry) (history : History) → IsTurn now given number before (journal_of history)
    → P number (entries_of number before) (entries_of number (journal_of history)) history → P now.number (own_entries now) (own_entries given) (history_of given.seen)
said P now given number before history turn is =
    let seen : history ≡ history_of given.seen = sym (ap history_of turn.seen ∙ twice_reversed history) in
    subst (P now.number (own_entries now) (own_entries given)) seen
    (subst (λ (es : List Entry). P now.number (own_entries now) es history) (sym turn.gave)
    (subst (λ (es : List Entry). P now.number es (entries_of number (journal_of history)) history) turn.had
    (subst (λ (n : ℕ). P n (entries_of number before) (entries_of number (journal_of history)) history) turn.number_is is)))

as_pin : (pinned : Pinned) (dataset part : ℕ) (now given : WorkerView) → given.number ≡ now.number → HasNoPin now
    → PinGrows pinned now.number dataset part (own_entries now) (own_entries given) (history_of given.seen) → AddsPin pinned dataset part now given
as_pin (Hit block) dataset part now given same free is =
    (is, ap (worker_pin (history_of (own_entries given))) same ∙ ap (λ (es : List Entry). worker_pin (history_of es) now.number) is ∙ pin_now now.number (Pin dataset part false) (own_entries now))
as_pin (ReadBack block) dataset part now given same free is =
    (is, ap (worker_pin (history_of (own_entries given))) same ∙ ap (λ (es : List Entry). worker_pin (history_of es) now.number) is ∙ pin_now now.number (Pin dataset part true) (own_entries now) ∙ free)
as_pin Miss dataset part now given same free is =
    (is, ap (worker_pin (history_of (own_entries given))) same ∙ ap (λ (es : List Entry). worker_pin (history_of es) now.number) is.0 ∙ free)

module _ {E : Type 0} where
  pub admission_adds : (result : Result Answer E) (block : Block) (size : ℕ) (now given : WorkerView) (number : ℕ) (before : List Entry) (history : History) → IsTurn now given number before (journal_of history)
      → IfOk result (λ answer. AdmissionGrows answer block size number (entries_of number before) (entries_of number (journal_of history)) history)
      → IfOk result (λ answer. AddsAdmission answer block size now given)
  admission_adds (Ok answer) block size now given number before history turn is =
      said (AdmissionGrows answer block size) now given number before history turn is
  admission_adds (Err e) block size now given number before history turn is = tt

  pub pin_adds : (result : Result Pinned E) (dataset part : ℕ) (now given : WorkerView) (number : ℕ) (before : List Entry) (history : History) → IsTurn now given number before (journal_of history) → HasNoPin now
      → IfOk result (λ pinned. PinGrows pinned number dataset part (entries_of number before) (entries_of number (journal_of history)) history)
      → IfOk result (λ pinned. AddsPin pinned dataset part now given)
  pin_adds (Ok pinned) dataset part now given number before history turn free is =
      as_pin pinned dataset part now given turn.same free
      (said (λ (n : ℕ) (had has : List Entry) (h : History). PinGrows pinned n dataset part had has h) now given number before history turn is)
  pin_adds (Err e) dataset part now given number before history turn free is = tt

  pub removals_add : {T : Type 0} (result : Result T E) (dataset : ℕ) (now given : WorkerView) (number : ℕ) (before : List Entry) (history : History) → IsTurn now given number before (journal_of history)
      → OnOk result (RemovalGrows dataset number (entries_of number before) (entries_of number (journal_of history)) history) → OnOk result (AddsRemovals dataset now given)
  removals_add (Ok done) dataset now given number before history turn is = said (RemovalGrows dataset) now given number before history turn is
  removals_add (Err e) dataset now given number before history turn is = tt

-- ---- what is held

-- what the worker's task holds, by the state that was given back and by the worker
pub held_after : {now given : WorkerView} {number : ℕ} {before after : List Entry} → IsTurn now given number before after → (task again : ℕ) → again ≡ task
    → held (history_of (entries_of number after)) again ≡ held (history_of (own_entries given)) task
held_after {now} {given} {number} {before} {after} turn task again is =
    ap (held (history_of (entries_of number after))) is ∙ ap (λ (es : List Entry). held (history_of es) task) (sym turn.gave)

module _ {E : Type 0} where
  pub grows_as : (result : Result Attempted E) (one other one' other' : ℕ) → one ≡ other → one' ≡ other' → IfOk result (λ got. one' ≡ one + unwrap_or (granted_in got) 0)
      → IfOk result (λ got. other' ≡ other + unwrap_or (granted_in got) 0)
  grows_as result one other one' other' was now is =
      subst (λ (n : ℕ). IfOk result (λ got. n ≡ other + unwrap_or (granted_in got) 0)) now (subst (λ (n : ℕ). IfOk result (λ got. one' ≡ n + unwrap_or (granted_in got) 0)) was is)

-- ---- by how much the worker has made the pools larger

module _ {T E : Type 0} where
  pub pools_grow : (result : Result T E) (bytes : ℕ) (now given : WorkerView) (number : ℕ) (before after : List Entry) → IsTurn now given number before after
      → OnOk result (entries_of number after ≡ entries_of number before ++ entry_by number (Grow bytes) ∷ [])
      → OnOk result (total grown_by (history_of (own_entries given)) ≡ total grown_by (history_of (own_entries now)) + bytes)
  pools_grow (Ok done) bytes now given number before after turn is =
      let entry = entry_by number (Grow bytes) in
      ap (λ (es : List Entry). total grown_by (history_of es)) (turn.gave ∙ is ∙ ap (λ (es : List Entry). es ++ entry ∷ []) turn.had)
      ∙ ap (total grown_by) (reverse-append (own_entries now) (entry ∷ []))
  pools_grow (Err e) bytes now given number before after turn is = tt
