-- The first attempt of an acquire asks for what the acquire was to get.
use Rattle.std.proofs.Common.{◌≡◌, ◌∙◌, ◌⊎◌, ℕ, List, [], ◌∷◌, ◌++◌, Some, refl, ap, append_assoc, inl, inr}
use Rattle.std.specs.Prelude.{IfOk, OnOk, Result, Ok, Err, length}
use Rattle.std.specs.List.{AllByRecursion}
use Rattle.pool_ledger.specs.declared.entry.Entry.{Entry}
use Rattle.pool_ledger.specs.declared.entry.Event.TheVariants.{Attempt}
use Rattle.pool_laws.specs.Growing.{entry_by}
use Rattle.turn_lock.specs.Passes.{WorkerView}
use Rattle.memory_lock.specs.Workers.{AddsGrant, IsWait}
use Rattle.task_pool.specs.Asks.{FirstAsks, first_asked}
use Rattle.task_pool.specs.Workers.{IsEviction, own_entries}

behind_evictions : (worker asked : ℕ) (evicted more : List Entry) → AllByRecursion (IsEviction worker) evicted → first_asked more ≡ Some asked → first_asked (evicted ++ more) ≡ Some asked
behind_evictions worker asked [] more all is = is
behind_evictions worker asked (entry ∷ evicted) more all is = let one = all.0.4 in rw one (behind_evictions worker asked evicted more all.1 is)

behind_waits : (worker task asked : ℕ) (waits more : List Entry) → AllByRecursion (λ entry. IsWait worker task asked entry ⊎ IsEviction worker entry) waits
    → first_asked more ≡ Some asked → first_asked (waits ++ more) ≡ Some asked
behind_waits worker task asked [] more all is = is
behind_waits worker task asked (entry ∷ waits) more all is =
    elim all.0 [
      | inl wait ↦ let one = wait.2 in rw one refl
      | inr eviction ↦ let one = eviction.4 in rw one (behind_waits worker task asked waits more all.1 is)
    ]

grant_asks : (task asked got : ℕ) (before after : WorkerView) → AddsGrant before.number task asked got (own_entries before) (own_entries after) → FirstAsks asked before after
grant_asks task asked got before after adds =
    let last = adds.2 in
    let behind = last.0 ++ entry_by before.number (Attempt task asked last.1 (length last.0) (Some got)) ∷ [] in (
      adds.1.0 ++ behind,
      last.3 ∙ ap (λ (es : List Entry). es ++ behind) adds.1.1 ∙ append_assoc (own_entries before) adds.1.0 behind,
      behind_waits before.number task asked adds.1.0 behind adds.1.2 (behind_evictions before.number asked last.0 _ last.2 refl),
    )

module _ {E : Type 0} where
  pub acquire_asks : (result : Result ℕ E) (task asked : ℕ) (before after : WorkerView) → IfOk result (λ got. AddsGrant before.number task asked got (own_entries before) (own_entries after)) → OnOk result (FirstAsks asked before after)
  acquire_asks (Ok got) task asked before after adds = grant_asks task asked got before after adds
  acquire_asks (Err e) task asked before after adds = tt
