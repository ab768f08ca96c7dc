-- The most that a task ever held: it holds no more, it never falls, and a release leaves it as it is.
use Rattle.std.proofs.Common.{ℕ, ◌≤◌, List, [], ◌∷◌, ◌++◌, sym, subst, arith}
use Rattle.std.proofs.lemmas.List.{reverse-append}
use Rattle.pool_ledger.specs.declared.entry.Entry.{Entry}
use Rattle.pool_ledger.specs.History.{History, held}
use Rattle.pool_ledger.specs.Journal.{history_of}
use Rattle.turn_lock.specs.Passes.{WorkerView}
use Rattle.task_pool.specs.Asks.{AddsAsks}
use Rattle.task_pool.specs.Workers.{own_entries, own_of}
use Rattle.task_account.specs.Attempts.{most_held}

pub held_peaked : (history : History) (task : ℕ) → held history task ≤ most_held history task
held_peaked [] task = omega arith
held_peaked (entry ∷ before) task = omega arith

most_grows : (task : ℕ) (later before : History) → most_held before task ≤ most_held (later ++ before) task
most_grows task [] before = omega arith
most_grows task (entry ∷ later) before = let more = most_grows task later before in omega (arith, more)

pub peak_grows : (task : ℕ) (own added : List Entry) → most_held (history_of own) task ≤ most_held (history_of (own ++ added)) task
peak_grows task own added =
    subst (λ (h : History). most_held (history_of own) task ≤ most_held h task) (sym (reverse-append own added)) (most_grows task (history_of added) (history_of own))

pub added_peak : (task : ℕ) (before after : WorkerView) → AddsAsks before.number task (own_entries before) (own_entries after) → most_held (own_of before) task ≤ most_held (own_of after) task
added_peak task before after adds =
    subst (λ (es : List Entry). most_held (own_of before) task ≤ most_held (history_of es) task) (sym adds.1) (peak_grows task (own_entries before) adds.0)
