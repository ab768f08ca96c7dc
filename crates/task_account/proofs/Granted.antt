-- What a worker's own entries say of its task once an acquire has added to them.
use Rattle.std.proofs.Common.{◌≡◌, ◌∙◌, ◌⊎◌, ℕ, ◌+◌, ◌≤◌, ◌<◌, ◌^◌, List, [], ◌∷◌, ◌++◌, Option, Some, None, true, refl, sym, ap, subst, inl, inr, arith, append_assoc}
use Rattle.std.specs.Prelude.{IfOk, OnErr, Result, Ok, Err, ◌==◌, nat_lt, length}
use Rattle.std.proofs.lemmas.Bool.{cases_Bool}
use Rattle.std.proofs.lemmas.List.{reverse-append}
use Rattle.pool_ledger.specs.declared.entry.Entry.{Entry}
use Rattle.pool_ledger.specs.declared.entry.Event.{Event}
use Rattle.pool_ledger.specs.declared.entry.Event.TheVariants.{Attempt}
use Rattle.pool_ledger.specs.History.{History, held, total}
use Rattle.pool_ledger.specs.Journal.{history_of}
use Rattle.pool_laws.specs.Growing.{entry_by}
use Rattle.turn_lock.specs.Passes.{WorkerView}
use Rattle.memory_lock.specs.Workers.{AddsAttempt, AddsGrant, AddsWaits, IsWait}
use Rattle.task_pool.specs.Accounts.{Grants}
use Rattle.memory_lock.proofs.Staying.{all_imply}
use Rattle.task_pool.proofs.GoingOn.{all_append, then_asks}
use Rattle.task_account.specs.Attempts.{Answered, held_by, last_attempt, short_of, shorts}
use Rattle.task_pool.specs.Asks.{AddsAsks, IsOfTask}
use Rattle.task_pool.specs.Workers.{IsEviction, own_entries, own_of}

-- ---- lists of entries

total_more : (amount : Event → ℕ) (later before : History) → total amount (later ++ before) ≡ total amount later + total amount before
total_more amount [] before = omega arith
total_more amount (entry ∷ later) before = let more = total_more amount later before in omega (arith, more)

-- an amount never falls as entries are added
total_grows : (amount : Event → ℕ) (own added : List Entry) → total amount (history_of own) ≤ total amount (history_of (own ++ added))
total_grows amount own added =
    let whole : total amount (history_of (own ++ added)) ≡ total amount (history_of added ++ history_of own) = ap (total amount) (reverse-append own added) in
    let sum = total_more amount (history_of added) (history_of own) in
    omega (arith, whole, sum)

-- one entry behind others is the newest
pub newest : (own : List Entry) (entry : Entry) → history_of (own ++ entry ∷ []) ≡ entry ∷ history_of own
newest own entry = reverse-append own (entry ∷ [])

-- ---- what was added

of_attempt : (worker task asked : ℕ) (got : Option ℕ) (before after : List Entry) → AddsAttempt worker task asked got before after → AddsAsks worker task before after
of_attempt worker task asked got before after adds =
    let entry = entry_by worker (Attempt task asked adds.1 (length adds.0) got) in (
      adds.0 ++ entry ∷ [],
      adds.3,
      all_append (IsOfTask worker task) adds.0 (entry ∷ []) (all_imply (IsEviction worker) (IsOfTask worker task) (λ e is. inr (inl is)) adds.0 adds.2) (inl (asked, adds.1, length adds.0, got, refl), tt),
    )

of_waits : (worker task asked : ℕ) (before after : List Entry) → AddsWaits worker task asked before after → AddsAsks worker task before after
of_waits worker task asked before after adds = (
  adds.0,
  adds.1,
  all_imply (λ entry. IsWait worker task asked entry ⊎ IsEviction worker entry) (IsOfTask worker task)
      (λ e is. elim is [ inl wait ↦ inl (asked, wait.0, wait.1, None, wait.2) | inr eviction ↦ inr (inl eviction) ]) adds.0 adds.2,
)

module _ {E : Type 0} where
  pub acquire_adds : (result : Result ℕ E) (worker task asked : ℕ) (before after : List Entry) → IfOk result (λ got. AddsGrant worker task asked got before after) → OnErr result (AddsWaits worker task asked before after)
      → AddsAsks worker task before after
  acquire_adds (Ok got) worker task asked before after ok err =
      then_asks worker task before ok.0 after (of_waits worker task asked before ok.0 ok.1) (of_attempt worker task asked (Some got) ok.0 after ok.2)
  acquire_adds (Err e) worker task asked before after ok err = of_waits worker task asked before after err

-- ---- what the last attempt was granted

pub itself : (n : ℕ) → (n == n) ≡ true
itself n = elim (cases_Bool (n == n)) [ inl same ↦ same | inr other ↦ grind arith ]

last_is : (worker task asked moved evictions got : ℕ) (own : List Entry) → last_attempt (history_of (own ++ entry_by worker (Attempt task asked moved evictions (Some got)) ∷ [])) task ≡ record { asked = asked; got = Some got }
last_is worker task asked moved evictions got own =
    ap (λ (h : History). last_attempt h task) (newest own (entry_by worker (Attempt task asked moved evictions (Some got)))) ∙ rw (itself task) refl

short_counts : (task asked moved evictions got : ℕ) → got < asked → short_of task (Attempt task asked moved evictions (Some got)) ≡ 1
short_counts task asked moved evictions got less =
    let short : nat_lt got asked ≡ true = grind arith in rw (itself task, short) refl

-- the grant of an acquire
pub granted_is : (floor task asked got : ℕ) (before after : WorkerView) → AddsGrant before.number task asked got (own_entries before) (own_entries after) → got ≤ asked
    → held (own_of after) task ≡ held (own_of before) task + got → held (own_of after) task ≤ 2 ^ 50 → (got < asked → floor ≤ held (own_of after) task) → Grants (held_by floor task before) (held_by floor task after) asked got
granted_is floor task asked got before after adds few grows small floored =
    let worker = before.number in
    let amid = adds.0 in
    let last = adds.2 in
    let entry = entry_by worker (Attempt task asked last.1 (length last.0) (Some got)) in
    let own' : own_entries after ≡ (amid ++ last.0) ++ entry ∷ [] = last.3 ∙ sym (append_assoc amid last.0 (entry ∷ [])) in
    let is : last_attempt (own_of after) task ≡ record { asked = asked; got = Some got } =
    ap (λ (es : List Entry). last_attempt (history_of es) task) own' ∙ last_is worker task asked last.1 (length last.0) got (amid ++ last.0) in
    let grown : total (short_of task) (own_of before) ≤ total (short_of task) (history_of amid) =
    subst (λ (es : List Entry). total (short_of task) (own_of before) ≤ total (short_of task) (history_of es)) (sym adds.1.1) (total_grows (short_of task) (own_entries before) adds.1.0) in
    let further = total_grows (short_of task) amid last.0 in
    let now : shorts (own_of after) task ≡ total (short_of task) (history_of (amid ++ last.0)) + short_of task entry.event =
    ap (λ (es : List Entry). total (short_of task) (history_of es)) own' ∙ ap (total (short_of task)) (newest (amid ++ last.0) entry) in
    record {
      most = few;
      held = grows;
      asked = ap (λ (a : Answered). a.asked) is;
      got = ap (λ (a : Answered). a.got) is;
      counts = omega (arith, grown, further, now);
      short = λ less. let one = short_counts task asked last.1 (length last.0) got less in omega (arith, grown, further, now, one);
      small = small;
      floor_is = refl;
      floored = floored;
    }

module _ {E : Type 0} where
  pub acquire_grants : (result : Result ℕ E) (floor task asked : ℕ) (before after : WorkerView)
      → IfOk result (λ got. AddsGrant before.number task asked got (own_entries before) (own_entries after)) → IfOk result (λ got. got ≤ asked)
      → IfOk result (λ got. held (own_of after) task ≡ held (own_of before) task + got) → IfOk result (λ _. held (own_of after) task ≤ 2 ^ 41)
      → IfOk result (λ got. got < asked → floor ≤ held (own_of after) task) → IfOk result (λ got. Grants (held_by floor task before) (held_by floor task after) asked got)
  acquire_grants (Ok got) floor task asked before after adds few grows holds floored = granted_is floor task asked got before after adds few grows (omega (arith, holds)) floored
  acquire_grants (Err e) floor task asked before after adds few grows holds floored = tt
