-- What a call adds to a worker's own entries.
use Rattle.std.proofs.Common.{◌≡◌, ◌∙◌, ◌∷◌, ◌++◌, ◌⊎◌, [], ℕ, List, Option, None, min, refl, sym, ap, subst, inl, inr, append_assoc, append-nil}
use Rattle.std.specs.Prelude.{IfOk, Result, length}
use Rattle.pool_ledger.specs.declared.entry.Entry.{Entry}
use Rattle.pool_ledger.specs.declared.entry.Event.TheVariants.{Attempt}
use Rattle.pool_ledger.specs.Sizes.{Sizes}
use Rattle.pool_ledger.specs.History.{History, CanGrow, held}
use Rattle.pool_ledger.specs.Journal.{history_of, journal_of}
use Rattle.pool_ledger.specs.Workers.{entries_of}
use Rattle.pool_laws.specs.Growing.{entry_by}
use Rattle.memory_core.specs.declared.attempted.Attempted.{Attempted}
use Rattle.memory_core.specs.declared.attempted.Attempted.TheVariants.{Wait}
use Rattle.memory_core.specs.Attempts.{granted_in, KeepsFloor}
use Rattle.memory_core.specs.Caches.{Memory}
use Rattle.turn_lock.specs.Passes.{WorkerView}
use Rattle.memory_lock.specs.Fitting.{own_in}
use Rattle.memory_lock.specs.Workers.{AddsAttempt, AddsWaits, IsEviction, IsWait, SeesMore, own_entries, own_of}
use Rattle.task_pool.proofs.GoingOn.{all_append}
use Rattle.memory_lock.proofs.Staying.{all_then}

module _ {E : Type 0} where
  -- what was freed, where what is held is known in two ways
  pub freed_as : (result : Result ℕ E) (bytes one other : ℕ) → one ≡ other → IfOk result (λ freed. freed ≡ min bytes one) → IfOk result (λ freed. freed ≡ min bytes other)
  freed_as result bytes one other same is = subst (λ (n : ℕ). IfOk result (λ freed. freed ≡ min bytes n)) same is

  -- a short grant keeps the floor, where what was held is known in two ways
  pub floor_as : (result : Result Attempted E) (setup sizes : Sizes) (asked one other : ℕ) → setup ≡ sizes → one ≡ other → IfOk result (KeepsFloor setup one asked) → IfOk result (KeepsFloor sizes other asked)
  floor_as result setup sizes asked one other sized same is =
      subst (λ (s : Sizes). IfOk result (KeepsFloor s other asked)) sized (subst (λ (n : ℕ). IfOk result (KeepsFloor setup n asked)) same is)

-- ---- what a worker holds, by the state and by the worker

pub held_as : (pass now : WorkerView) (number task again : ℕ) (locked : Memory) → pass ≡ now → number ≡ pass.number → again ≡ task
    → entries_of pass.number (journal_of locked.history) ≡ entries_of pass.number pass.seen → held (own_in number locked) again ≡ held (own_of now) task
held_as pass now number task again locked is number_is again_is own =
    ap (λ (n : ℕ). held (own_in n locked) again) number_is ∙ ap (held (own_in pass.number locked)) again_is
    ∙ ap (λ (es : List Entry). held (history_of es) task) own ∙ ap (λ (p : WorkerView). held (own_of p) task) is

-- ---- that a worker may make the pools larger, by itself and by the state

pub can_as : (sizes : Sizes) (pass now : WorkerView) (number bytes : ℕ) (locked : Memory) → pass ≡ now → number ≡ pass.number → entries_of pass.number (journal_of locked.history) ≡ entries_of pass.number pass.seen
    → CanGrow sizes (own_of now) now.number bytes → CanGrow sizes (own_in number locked) number bytes
can_as sizes pass now number bytes locked is number_is own can =
    let same : own_in number locked ≡ own_of now = ap (λ (n : ℕ). own_in n locked) number_is ∙ ap history_of own ∙ ap own_of is in
    let numbered : number ≡ now.number = number_is ∙ ap (λ (p : WorkerView). p.number) is in
    subst (λ (n : ℕ). CanGrow sizes (own_in number locked) n bytes) (sym numbered) (subst (λ (h : History). CanGrow sizes h now.number bytes) (sym same) can)

-- ---- waits

-- an attempt that was told to wait, or an eviction for one
abbrev pub IsWaiting : ℕ → ℕ → ℕ → Entry → Type 0
IsWaiting worker task asked entry = IsWait worker task asked entry ⊎ IsEviction worker entry

pub one_wait_more : (worker task asked : ℕ) (before amid after : List Entry) → AddsWaits worker task asked before amid → AddsAttempt worker task asked None amid after → AddsWaits worker task asked before after
one_wait_more worker task asked before amid after waits wait =
    let entry = entry_by worker (Attempt task asked wait.1 (length wait.0) None) in
    let more = wait.0 ++ entry ∷ [] in (
      waits.0 ++ more,
      wait.3 ∙ ap (λ (es : List Entry). es ++ more) waits.1 ∙ append_assoc before waits.0 more,
      all_append (IsWaiting worker task asked) waits.0 more waits.2
          (all_then (IsWaiting worker task asked) worker wait.0 entry (λ e is. inr is) wait.2 (inl (wait.1, length wait.0, refl))),
    )

pub no_wait : (worker task asked : ℕ) (before : List Entry) → AddsWaits worker task asked before before
no_wait worker task asked before = ([], sym (append-nil before), tt)

-- ---- waits of a worker that goes on

pub waits_on : (before amid after : WorkerView) (task asked : ℕ) (got : Attempted) → SeesMore before amid → AddsWaits before.number task asked (own_entries before) (own_entries amid)
    → AddsAttempt amid.number task asked (granted_in got) (own_entries amid) (own_entries after) → got ≡ Wait → AddsWaits before.number task asked (own_entries before) (own_entries after)
waits_on before amid after task asked got sees waits adds is =
    let same : AddsAttempt before.number task asked None (own_entries amid) (own_entries after) =
    subst (λ (o : Option ℕ). AddsAttempt before.number task asked o (own_entries amid) (own_entries after)) (ap granted_in is)
    (subst (λ (n : ℕ). AddsAttempt n task asked (granted_in got) (own_entries amid) (own_entries after)) sees.number_is adds) in
    one_wait_more before.number task asked (own_entries before) (own_entries amid) (own_entries after) waits same
