-- A worker's own entries decide what a state says of it and of its task.
use Rattle.std.proofs.Common.{◌≡◌, ◌≤◌, ◌^◌, ◌∙◌, ◌∷◌, [], ℕ, List, Option, Some, arith, refl, sym, ap, subst, inl, inr}
use Rattle.std.specs.Prelude.{reverse, ◌==◌}
use Rattle.std.proofs.lemmas.Bool.{cases_Bool, eqb-true}
use Rattle.std.proofs.lemmas.Grind.{reverse_onto}
use Rattle.std.proofs.lemmas.List.{reverse-append}
use Rattle.pool_ledger.specs.declared.entry.Entry.{Entry}
use Rattle.pool_ledger.specs.declared.entry.Event.{Event}
use Rattle.pool_ledger.specs.declared.entry.Event.TheVariants.{Begin, End}
use Rattle.pool_ledger.specs.Sizes.{Sizes}
use Rattle.pool_ledger.specs.History.{History, CanGrow, grown_by, maximum, open_task, task_after, total}
use Rattle.pool_ledger.specs.Journal.{history_of, journal_of}
use Rattle.pool_ledger.specs.Legal.{IsPermitted}
use Rattle.pool_ledger.specs.Workers.{entries_of}
use Rattle.pool_laws.specs.Laws.{KeepsLaws}
use Rattle.pool_laws.specs.Owners.{AreOwned, IsByOwner, OwnerTells, TellsGrowths, TellsWorker}
use Rattle.memory_core.specs.Caches.{Memory, RowsByName}
use Rattle.memory_lock.specs.Fitting.{FitsBasis, OwnDecides, OwnerDecides, OwnTaskDecides, OwnEntriesDecide, TasksFitPool, own_in}

pub twice_reversed : (xs : List Entry) → reverse (reverse xs) ≡ xs
twice_reversed [] = refl
twice_reversed (x ∷ xs) = ap reverse (reverse_onto xs x []) ∙ reverse-append (reverse xs) (x ∷ []) ∙ ap (λ ys. x ∷ ys) (twice_reversed xs)

-- an open task was begun by its worker, so the worker is its owner
owned-after : (owner : ℕ → Option ℕ) (worker task : ℕ) (event : Event) (was : Option ℕ) → IsByOwner owner worker event → (was ≡ Some task → owner task ≡ Some worker)
    → task_after event was ≡ Some task → owner task ≡ Some worker
owned-after owner worker task (Begin t) was by before now = let same : t ≡ task = cc now in subst (λ u. owner u ≡ Some worker) same by
owned-after owner worker task (End t freed) was by before now = cc now
owned-after owner worker task _ was by before now = before now

open_is_owned : (owner : ℕ → Option ℕ) (history : History) (worker task : ℕ) → AreOwned owner history → open_task history worker ≡ Some task → owner task ≡ Some worker
open_is_owned owner [] worker task owned now = cc now
open_is_owned owner (entry ∷ before) worker task owned now = elim (cases_Bool (entry.worker == worker)) [
  | inl mine ↦
      let by : IsByOwner owner worker entry.event = subst (λ w. IsByOwner owner w entry.event) (eqb-true entry.worker worker mine) owned.1 in
      owned-after owner worker task entry.event (open_task before worker) by (open_is_owned owner before worker task owned.0) (rw mine at now)
  | inr other ↦ open_is_owned owner before worker task owned.0 (rw other at now)
]

module _ (tells_worker : (journal : List Entry) (worker : ℕ) → TellsWorker (history_of journal) (history_of (entries_of worker journal)) worker)
    (tells_task : (setup : Sizes) (owner : ℕ → Option ℕ) (journal : List Entry) (worker task : ℕ) → IsPermitted setup (history_of journal) → AreOwned owner (history_of journal) → owner task ≡ Some worker
    → OwnerTells (history_of journal) (history_of (entries_of worker journal)) task) where
  of_worker : (sizes : Sizes) (owner : ℕ → Option ℕ) (given : RowsByName) (memory : Memory) (number : ℕ) → FitsBasis sizes owner given memory → OwnDecides memory number
  of_worker sizes owner given memory number fits =
      let tells = subst (λ (h : History). TellsWorker h (own_in number memory) number) (twice_reversed memory.history) (tells_worker (journal_of memory.history) number) in
      record { open_is = tells.task; pin_is = tells.pin }

  of_task : (sizes : Sizes) (owner : ℕ → Option ℕ) (given : RowsByName) (memory : Memory) (number task : ℕ) → FitsBasis sizes owner given memory → owner task ≡ Some number → OwnerDecides memory number task
  of_task sizes owner given memory number task fits its =
      let again = sym (twice_reversed memory.history) in
      let permitted = subst (IsPermitted sizes) again fits.legal.permitted in
      let owned = subst (AreOwned owner) again fits.owned in
      let tells = subst (λ (h : History). OwnerTells h (own_in number memory) task) (twice_reversed memory.history) (tells_task sizes owner (journal_of memory.history) number task permitted owned its) in
      record { holds = tells.holds; begun = tells.begun }

  of_own_task : (sizes : Sizes) (owner : ℕ → Option ℕ) (given : RowsByName) (memory : Memory) (number task : ℕ) → FitsBasis sizes owner given memory → open_task (own_in number memory) number ≡ Some task → OwnTaskDecides memory number task
  of_own_task sizes owner given memory number task fits now =
      let there : open_task memory.history number ≡ Some task = (of_worker sizes owner given memory number fits).open_is ∙ now in
      let its = open_is_owned owner memory.history number task fits.owned there in
      record { open_is = there; holds = (of_task sizes owner given memory number task fits its).holds }

  -- what a task holds is part of what all hold
  pub fit_pool : ((sizes : Sizes) (history : History) → sizes.region ≤ sizes.maximum → IsPermitted sizes history → KeepsLaws sizes history)
      → ((sizes : Sizes) (history : History) → sizes.maximum ≤ 2 ^ 40 → IsPermitted sizes history → maximum sizes history ≤ 2 ^ 41) → TasksFitPool
  fit_pool laws small sizes owner given before after number task range was fits now =
      let its = open_is_owned owner before.history number task was.owned (of_own_task sizes owner given before number task was now).open_is in
      let holds = (of_task sizes owner given after number task fits its).holds in
      let law = laws sizes after.history range.region_fits fits.legal.permitted in
      let pool = small sizes after.history range.maximum_small fits.legal.permitted in
      let part = law.tasks_fit task in
      record { holds = holds; most = omega (arith, holds, part, law.never_passes.exec_fits, law.never_passes.pools_add_up, pool) }

  -- the pools grew by what the first worker's own entries say
  of_growths : ((setup : Sizes) (journal : List Entry) → IsPermitted setup (history_of journal) → TellsGrowths (history_of journal) (history_of (entries_of 0 journal)))
      → (sizes : Sizes) (owner : ℕ → Option ℕ) (given : RowsByName) (memory : Memory) (number bytes : ℕ) → FitsBasis sizes owner given memory → CanGrow sizes (own_in number memory) number bytes
      → CanGrow sizes memory.history number bytes
  of_growths tells_growths sizes owner given memory number bytes fits can =
      let permitted = subst (IsPermitted sizes) (sym (twice_reversed memory.history)) fits.legal.permitted in
      let tells = subst (λ (h : History). TellsGrowths h (own_in 0 memory)) (twice_reversed memory.history) (tells_growths sizes (journal_of memory.history) permitted) in
      let mine = ap (λ (n : ℕ). total grown_by (own_in n memory)) can.first in
      let fit = can.fits in
      record { first = can.first; some = can.some; few = can.few; fits = omega (arith, fit, mine, tells) }

  pub decide : ((setup : Sizes) (journal : List Entry) → IsPermitted setup (history_of journal) → TellsGrowths (history_of journal) (history_of (entries_of 0 journal))) → OwnEntriesDecide
  decide tells_growths = record { worker = of_worker; task = of_task; own_task = of_own_task; growths = of_growths tells_growths }
