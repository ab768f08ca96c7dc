-- Where each end frees all that its task holds, a task that no worker has open is idle.
use Rattle.std.proofs.Common.{◌≡◌, ◌≢◌, ℕ, Bool, false, not, ◌&&◌, Some, [], ◌∷◌, refl, ap, ◌∙◌, arith, inl, inr}
use Rattle.std.specs.Prelude.{nat_eq}
use Rattle.std.proofs.lemmas.Bool.{eq-eqb, and_right, not_from_true, cases_eq}
use Rattle.std.proofs.lemmas.Bool.Decides.{nat_tests}
use Rattle.pool_ledger.specs.declared.entry.Event.{Event}
use Rattle.pool_ledger.specs.declared.entry.Event.TheVariants.{Begin, Attempt, Release, End}
use Rattle.pool_ledger.specs.Sizes.{Sizes}
use Rattle.pool_ledger.specs.History.{History, held, is_active, open_task}
use Rattle.pool_ledger.specs.Legal.{MayCome, IsPermitted}
use Rattle.pool_ledger.specs.Recorded.{CanCome, IsRecorded}
use Rattle.pool_ledger.proofs.Tasks.{entry_of}
use Rattle.pool_laws.specs.Laws.{IsIdle}

-- an end frees all that its task holds
abbrev pub FreesAll : History → Event → Type 0
FreesAll h (End task freed) = freed ≡ held h task
FreesAll h _ = Unit {0}

abbrev pub EndsFreeAll : History → Type 0
EndsFreeAll [] = Unit {0}
EndsFreeAll (entry ∷ h) = EndsFreeAll h × FreesAll h entry.event

frees_all-more : (s : Sizes) (h : History) (v : ℕ) (e : Event) → MayCome s h v e → FreesAll h e
frees_all-more s h v (End task freed) may = may.2
frees_all-more s h v _ may = tt

pub ends_free_all : (s : Sizes) (h : History) → IsPermitted s h → EndsFreeAll h
ends_free_all s [] perm = tt
ends_free_all s (entry ∷ h) perm = (ends_free_all s h perm.0, frees_all-more s h entry.worker entry.event perm.1.event)

-- a task that holds nothing after a release isn't active
idle_at : (was : Bool) (holds : ℕ) → holds ≡ 0 → (was && not (nat_eq holds 0)) ≡ false
idle_at was holds e = and_right _ _ (not_from_true _ (eq-eqb holds 0 e))

idle-more : (s : Sizes) (h : History) (v : ℕ) (e : Event) → CanCome s h v e → FreesAll h e → (t : ℕ) → (((w : ℕ) → open_task h w ≢ Some t) → IsIdle h t) → ((w : ℕ) → open_task (entry_of v e ∷ h) w ≢ Some t) → IsIdle (entry_of v e ∷ h) t
idle-more s h v (Begin task) can all t before closed =
    let older : (w : ℕ) → open_task h w ≢ Some t = λ w p. grind (arith, nat_tests, closed w, can.free, p) in
    let i : IsIdle h t = before older in
    record { nothing = omega (arith, i.nothing); idle = i.idle }
idle-more s h v (Attempt task asked moved evictions got) can all t before closed =
    let older : (w : ℕ) → open_task h w ≢ Some t = λ w p. grind (arith, nat_tests, closed w, p) in
    let other : task ≢ t = λ e. older v (can.open_now ∙ ap Some e) in
    let i : IsIdle h t = before older in
    record { nothing = grind (arith, nat_tests, i.nothing, other); idle = grind (arith, nat_tests, i.idle, other) }
idle-more s h v (Release task freed) can all t before closed =
    let older : (w : ℕ) → open_task h w ≢ Some t = λ w p. grind (arith, nat_tests, closed w, p) in
    let other : task ≢ t = λ e. older v (can.open_now ∙ ap Some e) in
    let i : IsIdle h t = before older in
    record { nothing = grind (arith, nat_tests, i.nothing, other); idle = grind (arith, nat_tests, i.idle, other) }
idle-more s h v (End task freed) can all t before closed =
    elim (cases_eq task t) [
      | inl e ↦
          let nothing : held (entry_of v (End task freed) ∷ h) t ≡ 0 = grind (arith, nat_tests, all, e) in
          record { nothing = nothing; idle = grind (arith, nat_tests, nothing, e, idle_at (is_active h t) (held (entry_of v (End task freed) ∷ h) t) nothing) }
      | inr n ↦
          let older : (w : ℕ) → open_task h w ≢ Some t = λ w p. grind (arith, nat_tests, closed w, p, can.open_now, n) in
          let i : IsIdle h t = before older in
          record { nothing = grind (arith, nat_tests, i.nothing, n); idle = grind (arith, nat_tests, i.idle, n) }
    ]
idle-more s h v _ can all t before closed =
    let older : (w : ℕ) → open_task h w ≢ Some t = λ w p. grind (arith, nat_tests, closed w, p) in
    let i : IsIdle h t = before older in
    record { nothing = omega (arith, i.nothing); idle = i.idle }

pub idle : (s : Sizes) (h : History) → IsRecorded s h → EndsFreeAll h → (t : ℕ) → ((w : ℕ) → open_task h w ≢ Some t) → IsIdle h t
idle s [] r ends t closed = record { nothing = refl; idle = refl }
idle s (entry ∷ h) r ends t closed = idle-more s h entry.worker entry.event r.1.event_fits ends.1 t (idle s h r.0 ends.0 t) closed
