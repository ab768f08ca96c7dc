-- What a task holds, through an attempt.
use Rattle.std.proofs.Common.{◌≡◌, ◌∙◌, ◌∷◌, [], ℕ, ◌+◌, ◌≤◌, List, Option, Some, refl, sym, ap, subst, inl, inr, arith, true, false}
use Rattle.std.specs.Prelude.{◌==◌, unwrap_or, IfOk, OnOk, Result, Ok, Err, nat_lt, nat_eq, ◌&&◌}
use Rattle.std.proofs.lemmas.Bool.{cases_Bool, eqb-true, or_parts}
use Rattle.std.proofs.lemmas.Bool.Decides.{nat_tests}
use Rattle.std.proofs.lemmas.List.{reverse-append}
use Rattle.pool_ledger.specs.declared.entry.Entry.{Entry}
use Rattle.pool_ledger.specs.declared.entry.Event.{Event}
use Rattle.pool_ledger.specs.declared.entry.Event.TheVariants.{Begin, Attempt, Release, End, Evict, Admit, Refused, Pin, Unpin, Remove, Grow}
use Rattle.pool_ledger.specs.declared.entry.Fate.{Fate}
use Rattle.pool_ledger.specs.Sizes.{Sizes}
use Rattle.pool_ledger.specs.History.{History, held, total, freed_by, granted_by, open_task, was_begun}
use Rattle.pool_ledger.specs.Journal.{history_of, journal_of}
use Rattle.pool_ledger.specs.Workers.{entries_of}
use Rattle.pool_ledger.specs.Answers.{Moment, answer, grant_of, growth, least_share, moment, share_of}
use Rattle.pool_ledger.specs.Blocks.{Resident}
use Rattle.pool_ledger.specs.Legal.{IsPermitted, MayCome}
use Rattle.memory_core.specs.declared.attempted.Attempted.{Attempted}
use Rattle.memory_core.specs.Attempts.{granted_in}
use Rattle.memory_core.specs.Caches.{Cache, Memory}
use Rattle.memory_core.specs.Changes.{Attempts, EvictsInTurn}
use Rattle.pool_laws.specs.Evicting.{eviction_by}
use Rattle.pool_laws.specs.Growing.{entry_by}
use Rattle.memory_lock.specs.Fitting.{own_history}
use Rattle.memory_lock.specs.Workers.{IsAtMost}
use Rattle.memory_lock.proofs.Pushed.{pushed}

-- what an event frees of a task was held
frees_at : (setup : Sizes) (history : History) (worker task : ℕ) (event : Event) → MayCome setup history worker event → total (freed_by task) history ≤ total (granted_by task) history
    → total (freed_by task) history + freed_by task event ≤ total (granted_by task) history + granted_by task event
frees_at setup history worker task (Begin t) may was = omega (arith, was)
frees_at setup history worker task (Attempt t asked moved evictions got) may was = omega (arith, was)
frees_at setup history worker task (Release t freed) may was = elim (cases_Bool (t == task)) [
  | inl same ↦
      let is : t ≡ task = eqb-true t task same in
      let few : freed ≤ held history task = subst (λ u. freed ≤ held history u) is may.2 in
      rw same (omega (arith, was, few))
  | inr other ↦ rw other (omega (arith, was))
]
frees_at setup history worker task (End t freed) may was = elim (cases_Bool (t == task)) [
  | inl same ↦
      let is : t ≡ task = eqb-true t task same in
      let few : freed ≡ held history task = subst (λ u. freed ≡ held history u) is may.2 in
      rw same (omega (arith, was, few))
  | inr other ↦ rw other (omega (arith, was))
]
frees_at setup history worker task (Evict dataset part size fate) may was = omega (arith, was)
frees_at setup history worker task (Admit dataset part size level borrowed evictions) may was = omega (arith, was)
frees_at setup history worker task (Refused dataset part size borrowed evictions) may was = omega (arith, was)
frees_at setup history worker task (Pin dataset part read) may was = omega (arith, was)
frees_at setup history worker task (Unpin dataset part) may was = omega (arith, was)
frees_at setup history worker task (Remove dataset part size) may was = omega (arith, was)
frees_at setup history worker task (Grow bytes) may was = omega (arith, was)

-- what is freed of a task was granted to it
pub frees_granted : (setup : Sizes) (history : History) → IsPermitted setup history → (task : ℕ) → total (freed_by task) history ≤ total (granted_by task) history
frees_granted setup [] permitted task = omega arith
frees_granted setup (entry ∷ before) permitted task =
    frees_at setup before entry.worker task entry.event permitted.1.event (frees_granted setup before permitted.0 task)

-- an amount that evictions don't have is as before
evicts_total : (amount : Event → ℕ) (worker : ℕ) (blocks : List Resident) (before after : History) (had has : Cache) → ((dataset part size : ℕ) (fate : Fate) → amount (Evict dataset part size fate) ≡ 0)
    → EvictsInTurn worker blocks before had after has → total amount after ≡ total amount before
evicts_total amount worker [] before after had has none gone = ap (total amount) (gone.0)
evicts_total amount worker (block ∷ blocks) before after had has none gone =
    evicts_total amount worker blocks (eviction_by worker block gone.0 ∷ before) after gone.1 has none gone.3
    ∙ (let zero = none block.dataset block.part block.size gone.0 in omega (arith, zero))

itself : (n : ℕ) → (n == n) ≡ true
itself n = elim (cases_Bool (n == n)) [ inl same ↦ same | inr other ↦ grind arith ]

-- an attempt grants what it answers
pub attempt_holds : (worker task asked : ℕ) (before after : Memory) → IsPermitted before.setup before.history → Attempts worker task asked before after
    → held after.history task ≡ held before.history task + unwrap_or (answer before.setup before.history task asked) 0
attempt_holds worker task asked before after permitted is =
    let grown = growth before.setup before.history asked in
    let granted = evicts_total (granted_by task) worker grown.evicted before.history is.0 before.cache after.cache (λ d p s f. refl) is.1 in
    let freed = evicts_total (freed_by task) worker grown.evicted before.history is.0 before.cache after.cache (λ d p s f. refl) is.1 in
    let few = frees_granted before.setup before.history permitted task in
    ap (λ (h : History). held h task) is.2 ∙ (rw (itself task) (omega (arith, granted, freed, few)))

-- a grant is at most what was asked
share_at_most : (at : Moment) → IsAtMost at.asked (share_of at)
share_at_most at = elim (cases_Bool (nat_lt (grant_of at) at.asked && nat_lt (at.held + grant_of at) (least_share at))) [
  | inl waits ↦ rw waits tt
  | inr grants ↦ rw grants (omega arith)
]

module _ {E : Type 0} where
  pub attempt_few : (result : Result Attempted E) (setup : Sizes) (history : History) (task asked : ℕ) → IfOk result (λ got. granted_in got ≡ answer setup history task asked) → IfOk result (λ got. IsAtMost asked (granted_in got))
  attempt_few (Ok got) setup history task asked is = subst (IsAtMost asked) (sym is) (share_at_most (moment setup history task asked))
  attempt_few (Err e) setup history task asked is = tt

  pub attempt_grows : (result : Result Attempted E) (worker task asked : ℕ) (before after : Memory) (own own' : ℕ) → IsPermitted before.setup before.history → held before.history task ≡ own → held after.history task ≡ own'
      → OnOk result (Attempts worker task asked before after) → IfOk result (λ got. granted_in got ≡ answer before.setup before.history task asked)
      → IfOk result (λ got. own' ≡ own + unwrap_or (granted_in got) 0)
  attempt_grows (Ok got) worker task asked before after own own' permitted was now is answers =
      sym now ∙ attempt_holds worker task asked before after permitted is ∙ ap (λ n. n + unwrap_or (answer before.setup before.history task asked) 0) was
      ∙ ap (λ (o : Option ℕ). own + unwrap_or o 0) (sym answers)
  attempt_grows (Err e) worker task asked before after own own' permitted was now is answers = tt

-- ---- a task that was never begun

open_at : (setup : Sizes) (history : History) (worker other task : ℕ) (event : Event) → MayCome setup history worker event → (open_task history other ≡ Some task → was_begun history task ≡ true)
    → open_task (entry_by worker event ∷ history) other ≡ Some task → was_begun (entry_by worker event ∷ history) task ≡ true
open_at setup history worker other task (Begin t) may before now = grind (arith, nat_tests, before)
open_at setup history worker other task (End t freed) may before now = grind (arith, nat_tests, before)
open_at setup history worker other task _ may before now = grind (arith, nat_tests, before)

-- an open task was begun
open_was_begun : (setup : Sizes) (history : History) → IsPermitted setup history → (worker task : ℕ) → open_task history worker ≡ Some task → was_begun history task ≡ true
open_was_begun setup [] permitted worker task now = cc
open_was_begun setup (entry ∷ before) permitted worker task now =
    open_at setup before entry.worker worker task entry.event permitted.1.event (open_was_begun setup before permitted.0 worker task) now

grants_at : (setup : Sizes) (history : History) (worker task : ℕ) (event : Event) → IsPermitted setup history → MayCome setup history worker event → (was_begun history task ≡ false → total (granted_by task) history ≡ 0)
    → was_begun (entry_by worker event ∷ history) task ≡ false → total (granted_by task) (entry_by worker event ∷ history) ≡ 0
grants_at setup history worker task (Begin t) permitted may before new =
    let none = before (or_parts (nat_eq t task) (was_begun history task) new).1 in omega (arith, none)
grants_at setup history worker task (Attempt t asked moved evictions got) permitted may before new =
    let none = before new in let open_now = open_was_begun setup history permitted worker t may.0 in grind (arith, nat_tests, none, open_now)
grants_at setup history worker task _ permitted may before new = let none = before new in omega (arith, none)

never_granted : (setup : Sizes) (history : History) → IsPermitted setup history → (task : ℕ) → was_begun history task ≡ false → total (granted_by task) history ≡ 0
never_granted setup [] permitted task new = refl
never_granted setup (entry ∷ before) permitted task new =
    grants_at setup before entry.worker task entry.event permitted.0 permitted.1.event (never_granted setup before permitted.0 task) new

-- a task that was never begun holds nothing
pub never_held : (setup : Sizes) (history : History) → IsPermitted setup history → (task : ℕ) → was_begun history task ≡ false → held history task ≡ 0
never_held setup history permitted task new = let none = never_granted setup history permitted task new in omega (arith, none)

-- its begin leaves that so
begin_adds : (worker task : ℕ) (before : History) → held (entry_by worker (Begin task) ∷ before) task ≡ held before task
begin_adds worker task before = omega arith

begin_holds : (worker task : ℕ) (before : History) → held (own_history worker (journal_of before)) task ≡ 0 → held (own_history worker (journal_of (entry_by worker (Begin task) ∷ before))) task ≡ 0
begin_holds worker task before none =
    ap (λ (es : List Entry). held (history_of es) task) (pushed worker (entry_by worker (Begin task)) before refl)
    ∙ ap (λ (h : History). held h task) (reverse-append (entries_of worker (journal_of before)) (entry_by worker (Begin task) ∷ []))
    ∙ begin_adds worker task (own_history worker (journal_of before)) ∙ none

module _ {T E : Type 0} where
  pub begins_with_nothing : (result : Result T E) (worker task : ℕ) (before inside after : History) → inside ≡ before → held (own_history worker (journal_of before)) task ≡ 0
      → OnOk result (after ≡ entry_by worker (Begin task) ∷ inside) → OnOk result (held (own_history worker (journal_of after)) task ≡ 0)
  begins_with_nothing (Ok done) worker task before inside after same none is =
      ap (λ (h : History). held (own_history worker (journal_of h)) task) (is ∙ ap (λ (h : History). entry_by worker (Begin task) ∷ h) same) ∙ begin_holds worker task before none
  begins_with_nothing (Err e) worker task before inside after same none is = tt
