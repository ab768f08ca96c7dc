-- A run is added only where an attempt was granted less than it asked, and each where another was.
use Rattle.std.proofs.Common.{◌≡◌, ℕ, ◌+◌, ◌-◌, ◌<◌, ◌≤◌, List, [], ◌∷◌, length, set, ap, subst, sym, ◌∙◌, arith, inl, inr}
use Rattle.std.proofs.lemmas.List.{get_or-set_same, length-set}
use Rattle.task_pool.specs.Accounts.{Held, less_by}
use Rattle.task_memory.specs.declared.ask.Ask.{Ask}
use Rattle.task_memory.specs.Asking.{AddsFewRuns, SpillsWhenShort}
use Rattle.task_memory.specs.Asks.{Settles, Tries, ask_at, lacking, no_ask, top_of}
use Rattle.task_memory.specs.RunLists.{runs_in}
use Rattle.task_memory.specs.Serving.{AddsRunsWithin, KeepsInSteps}
use Rattle.task_memory.specs.Stacks.{Stack}
use Rattle.task_memory.proofs.Opening.{IsBegun, single}
use Rattle.task_memory.proofs.Places.{less_or_not}

-- after an attempt the innermost ask lacks bytes only where it was granted less than it asked
pub record IsCounted (old new : Held) (asks asks' : List Ask) : Type 0 where
  pub same : length asks' ≡ length asks
  pub counts : lacking (top_of asks') + old.shorts ≤ new.shorts

pub tries_counted : (old new : Held) (asks asks' : List Ask) (want : ℕ) → 1 ≤ length asks → (top_of asks).need ≤ want + (top_of asks).got → Tries old new asks asks' want → IsCounted old new asks asks'
tries_counted old new asks asks' want some enough tries =
    let last = length asks - 1 in
    let raised : Ask = record (top_of asks) { got = (top_of asks).got + tries.granted } in
    let count : length (set asks last raised) ≡ length asks = length-set asks last raised in
    let top : top_of (set asks last raised) ≡ raised = ap (λ n. ask_at (set asks last raised) (n - 1)) count ∙ get_or-set_same asks last raised no_ask (omega arith) in
    let grants = tries.grants in
    subst (λ (each : List Ask). IsCounted old new asks each) (sym tries.top) (record {
      same = count;
      counts = rw top (elim (less_or_not tries.granted want) [
        | inl short ↦ let more = grants.short short in grind arith
        | inr whole ↦ let more = grants.counts in grind arith
      ]);
    })

pub settles_counted : (old new : Held) (asks asks' : List Ask) (given : ℕ) → 1 ≤ length asks → Settles old new asks asks' given → IsCounted old new asks asks'
settles_counted old new asks asks' given some settles =
    elim (less_or_not (top_of asks).got (top_of asks).need) [
      | inl lacks ↦
          let counted = tries_counted (less_by old given) new asks asks' ((top_of asks).need - (top_of asks).got) some (omega arith) (settles.lacks lacks) in
          record { same = counted.same; counts = counted.counts }
      | inr meets ↦
          let none = settles.meets meets in
          record { same = ap (λ (list : List Ask). length list) none.1; counts = rw (none.0, none.1) (grind arith) }
    ]

-- the first attempt fell short, and the ask was served
pub short_first : (ready begun served : Stack) (ask : Ask) (wish : ℕ) → IsBegun (single ready ask) begun → IsCounted ready.account begun.account (ask ∷ []) begun.asks → (ask_at begun.asks 0).got < ask.need
    → KeepsInSteps begun served → SpillsWhenShort ready served
short_first ready begun served ask wish is counted less moves =
    let need = is.moves.need in
    let top : top_of begun.asks ≡ ask_at begun.asks 0 = ap (λ n. ask_at begun.asks (n - 1)) is.one in
    let counts : lacking (ask_at begun.asks 0) + ready.account.shorts ≤ begun.account.shorts = rw top at counted.counts in
    let more : ready.account.shorts < begun.account.shorts = grind arith in
    inr (omega (arith, more, moves.shorts))

-- so few runs are added where the ask was served
pub few_served : (ready begun served : Stack) (ask : Ask) → begun.runs ≡ ready.runs → IsCounted ready.account begun.account (ask ∷ []) begun.asks → AddsRunsWithin (lacking (top_of begun.asks)) begun served → length served.asks ≡ 1
    → AddsFewRuns ready served
few_served ready begun served ask same counted few one =
    let runs : runs_in begun.runs ≡ runs_in ready.runs = ap runs_in same in
    omega (arith, runs, counted.same, counted.counts, few, one)

-- and none where it wasn't
pub few_at_once : (ready begun : Stack) → begun.runs ≡ ready.runs → ready.account.shorts ≤ begun.account.shorts → AddsFewRuns ready begun
few_at_once ready begun same counts =
    let runs : runs_in begun.runs ≡ runs_in ready.runs = ap runs_in same in
    omega (arith, runs, counts)
