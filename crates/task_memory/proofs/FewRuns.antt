-- A step adds no more runs and spills in progress than attempts were granted less than they asked.
use Rattle.std.proofs.Common.{◌≡◌, ℕ, ◌+◌, ◌-◌, ◌≤◌, List, [], ◌∷◌, ◌++◌, length, take, ap, ◌∙◌, arith, length-append}
use Rattle.std.proofs.lemmas.List.{get_or_push, length-take}
use Rattle.run_file.specs.declared.run.Run.{Run}
use Rattle.task_pool.specs.Accounts.{Held}
use Rattle.task_memory.specs.declared.ask.Ask.{Ask}
use Rattle.task_memory.specs.Asks.{Settles, Tries, ask_at, lacking, no_ask, top_of}
use Rattle.task_memory.specs.RunLists.{runs_in}
use Rattle.task_memory.proofs.Short.{settles_counted, tries_counted}
use Rattle.task_memory.proofs.Stacking.{new_ask}

-- what a step adds
abbrev pub IsWithin : ℕ → List (List Run) → List (List Run) → Held → Held → List Ask → List Ask → Type 0
IsWithin free runs runs' account account' asks asks' =
    runs_in runs' + length asks' + lacking (top_of asks') + account.shorts ≤ runs_in runs + length asks + free + account'.shorts

-- a spill began and asks
pub few_ask : (runs runs' : List (List Run)) (account account' : Held) (asks asks' : List Ask) (place bytes given : ℕ) → runs' ≡ runs
    → Tries account account' (asks ++ (new_ask place bytes given ∷ [])) asks' bytes → IsWithin 1 runs runs' account account' asks asks'
few_ask runs runs' account account' asks asks' place bytes given same tries =
    let ask = new_ask place bytes given in
    let more = asks ++ (ask ∷ []) in
    let count : length more ≡ length asks + 1 = length-append asks (ask ∷ []) in
    let top : top_of more ≡ ask = ap (λ k. ask_at more (k - 1)) count ∙ get_or_push asks ask no_ask (length asks + 1 - 1) (omega arith) in
    let counted = tries_counted account account' more asks' bytes (omega (arith, count)) (rw top (omega arith)) tries in
    rw same (omega (arith, count, counted.same, counted.counts))

-- a spill began and ended
pub few_end : (runs runs' : List (List Run)) (account account' : Held) (asks asks' : List Ask) (given : ℕ) → runs_in runs' ≤ runs_in runs + 1 → 1 ≤ length asks
    → Settles account account' asks asks' given → IsWithin 1 runs runs' account account' asks asks'
few_end runs runs' account account' asks asks' given one some settles =
    let counted = settles_counted account account' asks asks' given some settles in
    omega (arith, one, counted.same, counted.counts)

-- the spill of the innermost ask ended
pub few_pop : (runs runs' : List (List Run)) (account account' : Held) (asks front asks' : List Ask) (given : ℕ) → runs_in runs' ≤ runs_in runs + 1 → 2 ≤ length asks → front ≡ take (length asks - 1) asks
    → Settles account account' front asks' given → IsWithin 0 runs runs' account account' asks asks'
few_pop runs runs' account account' asks front asks' given one nested is settles =
    let count : length front + 1 ≡ length asks = rw is (omega (arith, nested, length-take (length asks - 1) asks)) in
    let counted = settles_counted account account' front asks' given (omega (arith, count, nested)) settles in
    omega (arith, one, count, counted.same, counted.counts)
