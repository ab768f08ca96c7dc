-- What a call added stands at the end of all that its worker has then seen, and that is legal.
use Rattle.std.proofs.Common.{◌≡◌, ◌∙◌, ◌++◌, [], ℕ, List, Option, sym, ap, subst, append-nil}
use Rattle.std.proofs.lemmas.List.{append_cancel_left}
use Rattle.std.specs.Prelude.{IfOk, OnOk, Result, Ok, Err}
use Rattle.pool_ledger.specs.declared.entry.Entry.{Entry}
use Rattle.pool_ledger.specs.Sizes.{Sizes}
use Rattle.pool_ledger.specs.History.{History}
use Rattle.pool_ledger.specs.Journal.{history_of, journal_of}
use Rattle.pool_ledger.specs.Legal.{IsLegal}
use Rattle.pool_ledger.specs.Workers.{Continues, entries_of}
use Rattle.block_store.specs.declared.block.Block.{Block}
use Rattle.memory_core.specs.declared.admission.Admission.{Admission as Answer}
use Rattle.memory_core.specs.declared.admission.Admission.TheVariants.{Admitted, Refused, Resident as AlreadyResident}
use Rattle.memory_core.specs.declared.attempted.Attempted.{Attempted}
use Rattle.memory_core.specs.declared.pinned.Pinned.{Pinned}
use Rattle.memory_core.specs.declared.pinned.Pinned.TheVariants.{Hit, OnDisk as ReadBack, Miss}
use Rattle.memory_core.specs.Attempts.{granted_in}
use Rattle.memory_core.specs.Caches.{Memory, RowsByName}
use Rattle.turn_lock.specs.Passes.{WorkerView}
use Rattle.turn_lock.proofs.Entries.{entries_of-continues}
use Rattle.memory_lock.specs.Fitting.{FitsBasis}
use Rattle.memory_lock.specs.Workers.{AddsAttempt, AdmissionGrows, PinGrows}
use Rattle.memory_lock.specs.Endings.{EndsWith, EndsWithAdded, EndsWithAdmission, EndsWithAttempt, EndsWithPin}
use Rattle.memory_lock.proofs.Deciding.{twice_reversed}
use Rattle.memory_lock.proofs.Turned.{IsTurn}

-- what was given back is legal, and so what its worker has then seen
pub seen_legal : (sizes : Sizes) (owner : ℕ → Option ℕ) (given : RowsByName) (memory : Memory) (worker : WorkerView) → FitsBasis sizes owner given memory → worker.seen ≡ journal_of memory.history
    → IsLegal sizes (history_of worker.seen)
seen_legal sizes owner given memory worker fits seen = subst (IsLegal sizes) (sym (ap history_of seen ∙ twice_reversed memory.history)) fits.legal

-- ---- what a worker adds to its own entries is what it adds to the journal

goes_on : (worker : ℕ) (before after added : List Entry) → Continues worker before after → entries_of worker after ≡ entries_of worker before ++ added → after ≡ before ++ added
goes_on worker before after added more is =
    sym more.1 ∙ ap (λ (es : List Entry). before ++ es) (append_cancel_left (entries_of worker before) more.0 added (sym (entries_of-continues worker before after more) ∙ is))

stays_on : (worker : ℕ) (before after : List Entry) → Continues worker before after → entries_of worker after ≡ entries_of worker before → after ≡ before
stays_on worker before after more is = goes_on worker before after [] more (is ∙ sym (append-nil (entries_of worker before))) ∙ append-nil before

admission_on : (answer : Answer) (block : Block) (size worker : ℕ) (before after : List Entry) (history : History) → Continues worker before after
    → AdmissionGrows answer block size worker (entries_of worker before) (entries_of worker after) history → AdmissionGrows answer block size worker before after history
admission_on Admitted block size worker before after history more is = (is.0, is.1, is.2, goes_on worker before after _ more is.3)
admission_on Refused block size worker before after history more is = (is.0, is.1, is.2, goes_on worker before after _ more is.3)
admission_on AlreadyResident block size worker before after history more is = (stays_on worker before after more is.0, is.1)

pin_on : (pinned : Pinned) (worker dataset part : ℕ) (before after : List Entry) (history : History) → Continues worker before after
    → PinGrows pinned worker dataset part (entries_of worker before) (entries_of worker after) history → PinGrows pinned worker dataset part before after history
pin_on (Hit block) worker dataset part before after history more is = goes_on worker before after _ more is
pin_on (ReadBack block) worker dataset part before after history more is = goes_on worker before after _ more is
pin_on Miss worker dataset part before after history more is = (stays_on worker before after more is.0, is.1)

-- ---- what its worker has then seen

-- what is said of the journal's end in words of the state is so in words of the worker
behind : (P : ℕ → List Entry → List Entry → History → Type 0) (now given : WorkerView) (number : ℕ) (before : List Entry) (history : History) → IsTurn now given number before (journal_of history)
    → P number before (journal_of history) history → P now.number before given.seen (history_of given.seen)
behind P now given number before history turn is =
    let seen : history ≡ history_of given.seen = sym (ap history_of turn.seen ∙ twice_reversed history) in
    subst (P now.number before given.seen) seen
    (subst (λ (es : List Entry). P now.number before es history) (sym turn.seen)
    (subst (λ (n : ℕ). P n before (journal_of history) history) turn.number_is is))

pub ends : (added : ℕ → List Entry) (now given : WorkerView) (number : ℕ) (before after : List Entry) → IsTurn now given number before after → Continues number before after
    → entries_of number after ≡ entries_of number before ++ added number → EndsWith given.seen (added now.number)
ends added now given number before after turn more is =
    subst (λ (n : ℕ). EndsWith given.seen (added n)) turn.number_is (before, turn.seen ∙ goes_on number before after (added number) more is)

pub ends_added : (now given : WorkerView) (number : ℕ) (before after : List Entry) → IsTurn now given number before after → Continues number before after → EndsWithAdded now given
ends_added now given number before after turn more =
    (more.0, turn.gave ∙ entries_of-continues number before after more ∙ ap (λ (es : List Entry). es ++ more.0) turn.had, (before, turn.seen ∙ sym more.1))

module _ {E : Type 0} where
  pub ends_with : {T : Type 0} (result : Result T E) (added : ℕ → T → List Entry) (now given : WorkerView) (number : ℕ) (before after : List Entry) → IsTurn now given number before after → Continues number before after
      → IfOk result (λ answer. entries_of number after ≡ entries_of number before ++ added number answer) → IfOk result (λ answer. EndsWith given.seen (added now.number answer))
  ends_with (Ok answer) added now given number before after turn more is = ends (λ n. added n answer) now given number before after turn more is
  ends_with (Err e) added now given number before after turn more is = tt

  pub ends_so : {T : Type 0} (result : Result T E) (added : ℕ → List Entry) (now given : WorkerView) (number : ℕ) (before after : List Entry) → IsTurn now given number before after → Continues number before after
      → OnOk result (entries_of number after ≡ entries_of number before ++ added number) → OnOk result (EndsWith given.seen (added now.number))
  ends_so (Ok done) added now given number before after turn more is = ends added now given number before after turn more is
  ends_so (Err e) added now given number before after turn more is = tt

  pub ends_attempt : (result : Result Attempted E) (task asked : ℕ) (now given : WorkerView) (number : ℕ) (before : List Entry) (history : History) → IsTurn now given number before (journal_of history) → Continues number before (journal_of history)
      → IfOk result (λ got. AddsAttempt number task asked (granted_in got) (entries_of number before) (entries_of number (journal_of history)))
      → IfOk result (λ got. EndsWithAttempt now.number task asked (granted_in got) given.seen)
  ends_attempt (Ok got) task asked now given number before history turn more is =
      (before, behind (λ n had has h. AddsAttempt n task asked (granted_in got) had has) now given number before history turn (is.0, is.1, is.2, goes_on number before (journal_of history) _ more is.3))
  ends_attempt (Err e) task asked now given number before history turn more is = tt

  pub ends_admission : (result : Result Answer E) (block : Block) (size : ℕ) (now given : WorkerView) (number : ℕ) (before : List Entry) (history : History) → IsTurn now given number before (journal_of history) → Continues number before (journal_of history)
      → IfOk result (λ answer. AdmissionGrows answer block size number (entries_of number before) (entries_of number (journal_of history)) history)
      → IfOk result (λ answer. EndsWithAdmission answer block size now.number given.seen)
  ends_admission (Ok answer) block size now given number before history turn more is =
      (before, behind (AdmissionGrows answer block size) now given number before history turn (admission_on answer block size number before (journal_of history) history more is))
  ends_admission (Err e) block size now given number before history turn more is = tt

  pub ends_pin : (result : Result Pinned E) (dataset part : ℕ) (now given : WorkerView) (number : ℕ) (before : List Entry) (history : History) → IsTurn now given number before (journal_of history) → Continues number before (journal_of history)
      → IfOk result (λ pinned. PinGrows pinned number dataset part (entries_of number before) (entries_of number (journal_of history)) history)
      → IfOk result (λ pinned. EndsWithPin pinned now.number dataset part given.seen)
  ends_pin (Ok pinned) dataset part now given number before history turn more is =
      (before, behind (λ n had has h. PinGrows pinned n dataset part had has h) now given number before history turn (pin_on pinned number dataset part before (journal_of history) history more is))
  ends_pin (Err e) dataset part now given number before history turn more is = tt
