-- The laws of the pool, for every permitted history.
use Rattle.pool_ledger.specs.Answers.{answer}
use Rattle.std.proofs.Common.{◌≡◌, ℕ, ◌≤◌, ◌<◌, Bool, true, false, cond, not, ◌&&◌, Some, None, List, [], ◌∷◌, count_by, sum_by, refl, sym, ap, ◌∙◌, arith, inl, inr, ◌⊎◌, subst}
use Rattle.std.specs.List.{list_any}
use Rattle.std.specs.Prelude.{nat_eq}
use Rattle.std.proofs.lemmas.List.Sums.{sum_by-cons}
use Rattle.std.proofs.lemmas.Bool.{cases_Bool, or_cases, not-false, eqb-true, false≢true, true≢false, cond-true, cases_lt}
use Rattle.std.proofs.lemmas.Bool.Decides.{nat_tests}
use Rattle.pool_ledger.specs.declared.entry.Event.{Event}
use Rattle.pool_ledger.specs.declared.entry.Event.TheVariants.{Attempt, Release, End}
use Rattle.pool_ledger.specs.Sizes.{Sizes}
use Rattle.pool_ledger.specs.History.{History, held, begun, is_active, active, open_task, was_begun}
use Rattle.pool_ledger.specs.Legal.{IsPermitted}
use Rattle.pool_laws.specs.Laws.{NeverPasses, active_with, TasksFit, AreFewActive, GreatestNeverWaits, ShortGrantsKeepFloor, IsPassed, VictimsExist, KeepsLaws}
use Rattle.pool_ledger.specs.Recorded.{CanCome, IsRecorded}
use Rattle.pool_ledger.proofs.Tasks.{entry_of, untouched, active-Attempt, open_worker_known}
use Rattle.pool_laws.proofs.Active.{active_few}
use Rattle.pool_laws.proofs.Ends.{ends_free_all, idle}
use Rattle.pool_laws.proofs.Uses.{uses_in_order}
use Rattle.pool_laws.proofs.Passing.{holds}
use Rattle.pool_laws.proofs.Pins.{pinned_fit, pins_fit, pins_keep}
use Rattle.pool_laws.proofs.Region.{legal_evicts_above_region}
use Rattle.pool_laws.proofs.Growths.{IsSound, victims_found, greatest_never_waits, short_grants_keep_floor}

off_means : (b was : Bool) (now before : ℕ) → (was ≡ false → before ≡ 0) → now ≤ before → cond b (was && not (nat_eq now 0)) was ≡ false → now ≡ 0
off_means true true now before nothing less off = eqb-true now 0 (not-false (nat_eq now 0) off)
off_means true false now before nothing less off = omega (arith, nothing refl)
off_means false true now before nothing less off = absurd (true≢false off)
off_means false false now before nothing less off = omega (arith, nothing refl)

-- a task that isn't active holds nothing
idle_nothing-more : (s : Sizes) (h : History) (v : ℕ) (e : Event) → CanCome s h v e → (t : ℕ) → (is_active h t ≡ false → held h t ≡ 0) → is_active (entry_of v e ∷ h) t ≡ false → held (entry_of v e ∷ h) t ≡ 0
idle_nothing-more s h v (Attempt task asked moved evictions got) can t before off = grind (arith, nat_tests, before, off, true≢false)
idle_nothing-more s h v (Release task freed) can t before off = off_means (nat_eq task t) (is_active h t) (held (entry_of v (Release task freed) ∷ h) t) (held h t) before (omega arith) off
idle_nothing-more s h v (End task freed) can t before off = off_means (nat_eq task t) (is_active h t) (held (entry_of v (End task freed) ∷ h) t) (held h t) before (omega arith) off
idle_nothing-more s h v _ can t before off = omega (arith, before off)

idle_nothing : (s : Sizes) (h : History) → IsRecorded s h → (t : ℕ) → is_active h t ≡ false → held h t ≡ 0
idle_nothing s [] r t off = refl
idle_nothing s (entry ∷ h) r t off = idle_nothing-more s h entry.worker entry.event r.1.event_fits t (idle_nothing s h r.0 t) off

-- an active task counts
counted : (p : ℕ → Bool) (t : ℕ) (xs : List ℕ) → list_any (λ u. nat_eq u t) xs ≡ true → p t ≡ true → 1 ≤ count_by p xs
counted p t [] present on = absurd (false≢true present)
counted p t (x ∷ xs) present on = elim (or_cases (nat_eq x t) (list_any (λ u. nat_eq u t) xs) present) [
  | inl here ↦
      let same : p x ≡ true = ap p (eqb-true x t here) ∙ on in
      omega (arith, sum_by-cons (λ u. cond {A = ℕ} (p u) 1 0) x xs, cond-true {A = ℕ} (p x) 1 0 same)
  | inr later ↦ omega (arith, sum_by-cons (λ u. cond {A = ℕ} (p u) 1 0) x xs, counted p t xs later on)
]

active_counted : (s : Sizes) (h : History) → IsRecorded s h → (t : ℕ) → is_active h t ≡ true → 1 ≤ active h
active_counted s h r t on = elim (cases_Bool (was_begun h t)) [
  | inl old ↦ counted (is_active h) t (begun h) old on
  | inr new ↦ absurd (false≢true (sym (untouched s h r t new).idle ∙ on))
]

pub legal_is_sound : (s : Sizes) (h : History) → s.region ≤ s.maximum → IsPermitted s h → IsSound s h
legal_is_sound s h region perm =
    let held = holds s h region perm in
    record {
      pool_fits = held.never.pool_fits;
      exec_fits = held.never.exec_fits;
      stored_fits = held.never.stored_fits;
      idle_nothing = idle_nothing s h held.recorded;
      active_counted = active_counted s h held.recorded;
      pins_fit = pins_fit s h region perm;
    }

-- no more tasks are active than there are workers, also with one that tries
pub active_with_few : (s : Sizes) (h : History) → s.region ≤ s.maximum → IsPermitted s h → (w t : ℕ) → open_task h w ≡ Some t → w < s.workers → active_with h t ≤ s.workers
active_with_few s h region perm w t now known =
    let held = holds s h region perm in
    let e = Attempt t 0 0 0 None in
    let more : IsRecorded s (entry_of w e ∷ h) = (held.recorded, record { worker_known = known; event_fits = record { open_now = now; pool_fits = omega (arith, held.never.pool_fits); sum_fits = omega (arith, held.never.exec_fits, held.never.pool_fits) } }) in
    omega (arith, active_few s (entry_of w e ∷ h) more (ends_free_all s h perm, tt), active-Attempt s h held.recorded w t 0 0 0 None now)

-- The laws

pub legal_greatest_never_waits : (s : Sizes) (h : History) → s.region ≤ s.maximum → IsPermitted s h → GreatestNeverWaits s h
legal_greatest_never_waits s h region perm = greatest_never_waits s h (legal_is_sound s h region perm)

pub legal_short_grants_keep_floor : (s : Sizes) (h : History) → s.region ≤ s.maximum → IsPermitted s h → ShortGrantsKeepFloor s h
legal_short_grants_keep_floor s h region perm = short_grants_keep_floor s h region (legal_is_sound s h region perm)

-- no active task of the list holds more
abbrev MostIn : History → ℕ → List ℕ → Type 0
MostIn h t xs = (x : ℕ) → list_any (λ u. nat_eq u x) xs ≡ true → is_active h x ≡ true → held h x ≤ held h t

most_more-off : (h : History) (t y : ℕ) (ys : List ℕ) → is_active h y ≡ false → MostIn h t ys → MostIn h t (y ∷ ys)
most_more-off h t y ys off rest x present on = elim (or_cases (nat_eq y x) (list_any (λ u. nat_eq u x) ys) present) [
  | inl here ↦ absurd (false≢true (sym off ∙ ap (is_active h) (eqb-true y x here) ∙ on))
  | inr later ↦ rest x later on
]

most_more-less : (h : History) (t y : ℕ) (ys : List ℕ) → held h y ≤ held h t → MostIn h t ys → MostIn h t (y ∷ ys)
most_more-less h t y ys less rest x present on = elim (or_cases (nat_eq y x) (list_any (λ u. nat_eq u x) ys) present) [
  | inl here ↦ subst (λ v. held h v ≤ held h t) (eqb-true y x here) less
  | inr later ↦ rest x later on
]

find_passed : (h : History) (t : ℕ) (xs : List ℕ) → IsPassed h t ⊎ MostIn h t xs
find_passed h t [] = inr (λ x present on. absurd (false≢true present))
find_passed h t (y ∷ ys) = elim (find_passed h t ys) [
  | inl passed ↦ inl passed
  | inr rest ↦ elim (cases_Bool (is_active h y)) [
    | inl on_y ↦ elim (cases_lt (held h t) (held h y)) [
      | inl more ↦ inl (y, on_y, more)
      | inr less ↦ inr (most_more-less h t y ys less rest)
    ]
    | inr off ↦ inr (most_more-off h t y ys off rest)
  ]
]

active_was_begun : (s : Sizes) (h : History) → IsRecorded s h → (t : ℕ) → is_active h t ≡ true → was_begun h t ≡ true
active_was_begun s h r t on = elim (cases_Bool (was_begun h t)) [
  | inl old ↦ old
  | inr new ↦ absurd (false≢true (sym (untouched s h r t new).idle ∙ on))
]

-- where a task waits, some other active task holds strictly more
pub legal_waiter_is_passed : (s : Sizes) (h : History) → s.region ≤ s.maximum → IsPermitted s h → (task asked : ℕ) → answer s h task asked ≡ None → IsPassed h task
legal_waiter_is_passed s h region perm task asked waits = elim (find_passed h task (begun h)) [
  | inl passed ↦ passed
  | inr most ↦ absurd (legal_greatest_never_waits s h region perm task asked (λ other on. most other (active_was_begun s h (holds s h region perm).recorded other on) on) waits)
]

pub never_passes : (s : Sizes) (h : History) → s.region ≤ s.maximum → IsPermitted s h → NeverPasses s h
never_passes s h region perm =
    let within = (holds s h region perm).never in
    record { exec_fits = within.exec_fits; stored_fits = within.stored_fits; pools_add_up = omega (arith, within.pool_fits) }

few_active : (s : Sizes) (h : History) → s.region ≤ s.maximum → IsPermitted s h → AreFewActive s h
few_active s h region perm =
    let r = (holds s h region perm).recorded in
    record {
      now = active_few s h r (ends_free_all s h perm);
      counted = active_counted s h r;
      asking = λ w t now. active_with_few s h region perm w t now (open_worker_known s h r w t now);
    }

-- one of a list has no more than the list
part : (f : ℕ → ℕ) (t : ℕ) (xs : List ℕ) → list_any (λ u. nat_eq u t) xs ≡ true → f t ≤ sum_by f xs
part f t [] present = absurd (false≢true present)
part f t (x ∷ xs) present = elim (or_cases (nat_eq x t) (list_any (λ u. nat_eq u t) xs) present) [
  | inl here ↦ omega (arith, sum_by-cons f x xs, ap f (eqb-true x t here))
  | inr later ↦ omega (arith, sum_by-cons f x xs, part f t xs later)
]

tasks_fit : (s : Sizes) (h : History) → s.region ≤ s.maximum → IsPermitted s h → TasksFit h
tasks_fit s h region perm task = elim (cases_Bool (was_begun h task)) [
  | inl old ↦ part (held h) task (begun h) old
  | inr new ↦
      let nothing = untouched s h (holds s h region perm).recorded task new in
      omega (arith, nothing.granted)
]

victims_exist : (s : Sizes) (h : History) → s.region ≤ s.maximum → IsPermitted s h → VictimsExist s h
victims_exist s h region perm asked some = victims_found s h asked (legal_is_sound s h region perm)

pub keeps_laws : (s : Sizes) (h : History) → s.region ≤ s.maximum → IsPermitted s h → KeepsLaws s h
keeps_laws s h region perm = record {
  never_passes = never_passes s h region perm;
  tasks_fit = tasks_fit s h region perm;
  few_active = few_active s h region perm;
  closed_idle = idle s h (holds s h region perm).recorded (ends_free_all s h perm);
  greatest = legal_greatest_never_waits s h region perm;
  passed = legal_waiter_is_passed s h region perm;
  floor = legal_short_grants_keep_floor s h region perm;
  pins_fit = pinned_fit s h region perm;
  pins_keep = pins_keep s h perm;
  victims_exist = victims_exist s h region perm;
  above_region = legal_evicts_above_region s h region perm;
  taken = λ entry may. (holds s (entry ∷ h) region (perm, may)).recorded.1;
  use_order = uses_in_order s h (holds s h region perm).recorded;
}
