-- Laws of tasks in a history that a ledger recorded.
use Rattle.std.proofs.Common.{◌≡◌, ◌≢◌, ℕ, ◌+◌, ◌-◌, ◌≤◌, ◌<◌, true, false, cond, not, ◌&&◌, Option, Some, unwrap_or, [], ◌∷◌, sum_by, refl, ap, ◌∙◌, arith}
use Rattle.std.specs.Prelude.{nat_eq}
use Rattle.std.proofs.lemmas.Bool.{or_parts, eq-eqb, cond-false}
use Rattle.std.proofs.lemmas.Bool.Decides.{nat_tests}
use Rattle.pool_ledger.specs.declared.entry.Entry.{Entry}
use Rattle.pool_ledger.specs.declared.entry.Event.{Event}
use Rattle.pool_ledger.specs.declared.entry.Event.TheVariants.{Begin, Attempt, Release, End}
use Rattle.pool_ledger.specs.Sizes.{Sizes}
use Rattle.pool_ledger.specs.History.{History, total, granted_by, freed_by, held, begun, begun_after, was_begun, exec, is_active, active, open_task}
use Rattle.pool_ledger.specs.Recorded.{CanCome, IsRecorded}
use Rattle.std.proofs.lemmas.List.Sums.{sum_by-cons}
use Rattle.pool_ledger.proofs.Sums.{IsDistinct, sum_by-ext, sum_by-same, sum_by-change}

abbrev pub entry_of : ℕ → Event → Entry
entry_of worker event = record { worker = worker; event = event }

-- a task that is open was begun
open_was_begun-more : (s : Sizes) (h : History) (v : ℕ) (e : Event) → CanCome s h v e → ((w t : ℕ) → open_task h w ≡ Some t → was_begun h t ≡ true) → (w t : ℕ) → open_task (entry_of v e ∷ h) w ≡ Some t → was_begun (entry_of v e ∷ h) t ≡ true
open_was_begun-more s h v (Begin task) can before w t e = grind (arith, nat_tests, before w t)
open_was_begun-more s h v (Attempt task asked moved evictions got) can before w t e = grind (arith, nat_tests, before w t)
open_was_begun-more s h v (Release task freed) can before w t e = grind (arith, nat_tests, before w t)
open_was_begun-more s h v (End task freed) can before w t e = grind (arith, nat_tests, before w t)
open_was_begun-more s h v _ can before w t e = grind (arith, nat_tests, before w t)

pub open_was_begun : (s : Sizes) (h : History) → IsRecorded s h → (w t : ℕ) → open_task h w ≡ Some t → was_begun h t ≡ true
open_was_begun s [] r w t e = cc
open_was_begun s (entry ∷ h) r w t e = open_was_begun-more s h entry.worker entry.event r.1.event_fits (open_was_begun s h r.0) w t e

-- a worker with an open task is one of the setup's
open_worker_known-more : (s : Sizes) (h : History) (v : ℕ) (e : Event) → v < s.workers → CanCome s h v e → (w t : ℕ) → (open_task h w ≡ Some t → w < s.workers) → open_task (entry_of v e ∷ h) w ≡ Some t → w < s.workers
open_worker_known-more s h v (Begin task) known can w t before e = grind (arith, nat_tests, before)
open_worker_known-more s h v (Attempt task asked moved evictions got) known can w t before e = grind (arith, nat_tests, before)
open_worker_known-more s h v (Release task freed) known can w t before e = grind (arith, nat_tests, before)
open_worker_known-more s h v (End task freed) known can w t before e = grind (arith, nat_tests, before)
open_worker_known-more s h v _ known can w t before e = grind (arith, nat_tests, before)

pub open_worker_known : (s : Sizes) (h : History) → IsRecorded s h → (w t : ℕ) → open_task h w ≡ Some t → w < s.workers
open_worker_known s [] r w t e = cc
open_worker_known s (entry ∷ h) r w t e = open_worker_known-more s h entry.worker entry.event r.1.worker_known r.1.event_fits w t (open_worker_known s h r.0 w t) e

-- no task is open twice
opened_once-more : (s : Sizes) (h : History) (v : ℕ) (e : Event) → IsRecorded s h → CanCome s h v e → ((w x t : ℕ) → open_task h w ≡ Some t → open_task h x ≡ Some t → w ≡ x) → (w x t : ℕ) → open_task (entry_of v e ∷ h) w ≡ Some t → open_task (entry_of v e ∷ h) x ≡ Some t → w ≡ x
opened_once-more s h v (Begin task) r can before w x t p q = grind (arith, nat_tests, before w x t, open_was_begun s h r w t, open_was_begun s h r x t, can.new)
opened_once-more s h v (Attempt task asked moved evictions got) r can before w x t p q = grind (arith, nat_tests, before w x t)
opened_once-more s h v (Release task freed) r can before w x t p q = grind (arith, nat_tests, before w x t)
opened_once-more s h v (End task freed) r can before w x t p q = grind (arith, nat_tests, before w x t)
opened_once-more s h v _ r can before w x t p q = grind (arith, nat_tests, before w x t)

pub opened_once : (s : Sizes) (h : History) → IsRecorded s h → (w x t : ℕ) → open_task h w ≡ Some t → open_task h x ≡ Some t → w ≡ x
opened_once s [] r w x t p q = cc
opened_once s (entry ∷ h) r w x t p q = opened_once-more s h entry.worker entry.event r.0 r.1.event_fits (opened_once s h r.0) w x t p q

-- no task is begun twice
begun_once-more : (s : Sizes) (h : History) (v : ℕ) (e : Event) → CanCome s h v e → IsDistinct (begun h) → IsDistinct (begun_after e (begun h))
begun_once-more s h v (Begin task) can d = (can.new, d)
begun_once-more s h v (Attempt task asked moved evictions got) can d = d
begun_once-more s h v (Release task freed) can d = d
begun_once-more s h v (End task freed) can d = d
begun_once-more s h v _ can d = d

pub begun_once : (s : Sizes) (h : History) → IsRecorded s h → IsDistinct (begun h)
begun_once s [] r = tt
begun_once s (entry ∷ h) r = begun_once-more s h entry.worker entry.event r.1.event_fits (begun_once s h r.0)

-- a task that was never begun has no grants, frees nothing and isn't active
pub record IsUntouched (h : History) (t : ℕ) : Type 0 where
  pub granted : total (granted_by t) h ≡ 0
  pub freed : total (freed_by t) h ≡ 0
  pub idle : is_active h t ≡ false

untouched-more : (s : Sizes) (h : History) (v : ℕ) (e : Event) → IsRecorded s h → CanCome s h v e → (t : ℕ) → (was_begun h t ≡ false → IsUntouched h t) → was_begun (entry_of v e ∷ h) t ≡ false → IsUntouched (entry_of v e ∷ h) t
untouched-more s h v (Begin task) r can t before new = let u : IsUntouched h t = before (or_parts (nat_eq task t) (was_begun h t) new).1 in record { granted = omega (arith, u.granted); freed = omega (arith, u.freed); idle = u.idle }
untouched-more s h v (Attempt task asked moved evictions got) r can t before new =
    let u : IsUntouched h t = before new in
    record { granted = grind (arith, nat_tests, u.granted, open_was_begun s h r v task can.open_now); freed = omega (arith, u.freed); idle = grind (arith, nat_tests, u.idle, open_was_begun s h r v task can.open_now) }
untouched-more s h v (Release task freed) r can t before new =
    let u : IsUntouched h t = before new in
    record { granted = omega (arith, u.granted); freed = grind (arith, nat_tests, u.freed, open_was_begun s h r v task can.open_now); idle = grind (arith, nat_tests, u.idle, open_was_begun s h r v task can.open_now) }
untouched-more s h v (End task freed) r can t before new =
    let u : IsUntouched h t = before new in
    record { granted = omega (arith, u.granted); freed = grind (arith, nat_tests, u.freed, open_was_begun s h r v task can.open_now); idle = grind (arith, nat_tests, u.idle, open_was_begun s h r v task can.open_now) }
untouched-more s h v _ r can t before new =
    let u : IsUntouched h t = before new in record { granted = omega (arith, u.granted); freed = omega (arith, u.freed); idle = u.idle }

pub untouched : (s : Sizes) (h : History) → IsRecorded s h → (t : ℕ) → was_begun h t ≡ false → IsUntouched h t
untouched s [] r t new = record { granted = refl; freed = refl; idle = refl }
untouched s (entry ∷ h) r t new = untouched-more s h entry.worker entry.event r.0 r.1.event_fits t (untouched s h r.0 t) new

-- a task frees no more than it was granted
freed_fits-more : (s : Sizes) (h : History) (v : ℕ) (e : Event) → CanCome s h v e → (t : ℕ) → total (freed_by t) h ≤ total (granted_by t) h → total (freed_by t) (entry_of v e ∷ h) ≤ total (granted_by t) (entry_of v e ∷ h)
freed_fits-more s h v (Begin task) can t before = omega arith
freed_fits-more s h v (Attempt task asked moved evictions got) can t before = omega arith
freed_fits-more s h v (Release task freed) can t before = grind (arith, nat_tests, can.holds)
freed_fits-more s h v (End task freed) can t before = grind (arith, nat_tests, can.holds)
freed_fits-more s h v _ can t before = omega arith

pub freed_fits : (s : Sizes) (h : History) → IsRecorded s h → (t : ℕ) → total (freed_by t) h ≤ total (granted_by t) h
freed_fits s [] r t = omega arith
freed_fits s (entry ∷ h) r t = freed_fits-more s h entry.worker entry.event r.1.event_fits t (freed_fits s h r.0 t)

-- Sums after an entry

pub exec-Begin : (s : Sizes) (h : History) → IsRecorded s h → (v t : ℕ) → was_begun h t ≡ false → exec (entry_of v (Begin t) ∷ h) ≡ exec h
exec-Begin s h r v t new =
    let u : IsUntouched h t = untouched s h r t new in
    let after = held (entry_of v (Begin t) ∷ h) in
    omega (arith, sum_by-cons after t (begun h), u.granted, sum_by-same (held h) after t (begun h) new (λ y n. omega arith))

-- what a task holds after its attempt
pub held-Attempt : (s : Sizes) (h : History) → IsRecorded s h → (v t asked moved evictions : ℕ) (got : Option ℕ) → held (entry_of v (Attempt t asked moved evictions got) ∷ h) t ≡ held h t + unwrap_or got 0
held-Attempt s h r v t asked moved evictions got = grind (arith, nat_tests, freed_fits s h r t)

held-Attempt_other : (h : History) (v t asked moved evictions : ℕ) (got : Option ℕ) (y : ℕ) → y ≢ t → held (entry_of v (Attempt t asked moved evictions got) ∷ h) y ≡ held h y
held-Attempt_other h v t asked moved evictions got y n = grind (arith, nat_tests)

pub exec-Attempt : (s : Sizes) (h : History) → IsRecorded s h → (v t asked moved evictions : ℕ) (got : Option ℕ) → open_task h v ≡ Some t → exec (entry_of v (Attempt t asked moved evictions got) ∷ h) ≡ exec h + unwrap_or got 0
exec-Attempt s h r v t asked moved evictions got now =
    let after = held (entry_of v (Attempt t asked moved evictions got) ∷ h) in
    omega (arith, held-Attempt s h r v t asked moved evictions got, sum_by-change (held h) after t (begun h) (begun_once s h r) (open_was_begun s h r v t now) (held-Attempt_other h v t asked moved evictions got))

held-Release_other : (h : History) (v t freed : ℕ) (y : ℕ) → y ≢ t → held (entry_of v (Release t freed) ∷ h) y ≡ held h y
held-Release_other h v t freed y n = grind (arith, nat_tests)

pub held-Release : (h : History) (v t freed : ℕ) → held (entry_of v (Release t freed) ∷ h) t ≡ held h t - freed
held-Release h v t freed = grind (arith, nat_tests)

pub exec-Release : (s : Sizes) (h : History) → IsRecorded s h → (v t freed : ℕ) → open_task h v ≡ Some t → freed ≤ held h t → exec (entry_of v (Release t freed) ∷ h) + freed ≡ exec h
exec-Release s h r v t freed now holds =
    let after = held (entry_of v (Release t freed) ∷ h) in
    omega (arith, held-Release h v t freed, sum_by-change (held h) after t (begun h) (begun_once s h r) (open_was_begun s h r v t now) (held-Release_other h v t freed))

-- 1 for an active task
abbrev mark : History → ℕ → ℕ
mark h t = cond (is_active h t) 1 0

pub active-Begin : (s : Sizes) (h : History) → IsRecorded s h → (v t : ℕ) → was_begun h t ≡ false → active (entry_of v (Begin t) ∷ h) ≡ active h
active-Begin s h r v t new =
    let u : IsUntouched h t = untouched s h r t new in
    let after = mark (entry_of v (Begin t) ∷ h) in
    let zero_mark : mark h t ≡ 0 = cond-false (is_active h t) 1 0 u.idle in
    omega (arith, sum_by-cons after t (begun h), zero_mark)

mark-Attempt : (h : History) (v t asked moved evictions : ℕ) (got : Option ℕ) → mark (entry_of v (Attempt t asked moved evictions got) ∷ h) t ≡ 1
mark-Attempt h v t asked moved evictions got = grind (arith, nat_tests)

mark-Attempt_other : (h : History) (v t asked moved evictions : ℕ) (got : Option ℕ) (y : ℕ) → y ≢ t → mark (entry_of v (Attempt t asked moved evictions got) ∷ h) y ≡ mark h y
mark-Attempt_other h v t asked moved evictions got y n = grind (arith, nat_tests)

pub active-Attempt : (s : Sizes) (h : History) → IsRecorded s h → (v t asked moved evictions : ℕ) (got : Option ℕ) → open_task h v ≡ Some t → active (entry_of v (Attempt t asked moved evictions got) ∷ h) ≡ active h + cond (is_active h t) 0 1
active-Attempt s h r v t asked moved evictions got now =
    let after = mark (entry_of v (Attempt t asked moved evictions got) ∷ h) in
    let change : sum_by after (begun h) + mark h t ≡ sum_by (mark h) (begun h) + after t = sum_by-change (mark h) after t (begun h) (begun_once s h r) (open_was_begun s h r v t now) (mark-Attempt_other h v t asked moved evictions got) in
    grind (arith, change, mark-Attempt h v t asked moved evictions got)

mark-Release_other : (h : History) (v t freed : ℕ) (y : ℕ) → y ≢ t → mark (entry_of v (Release t freed) ∷ h) y ≡ mark h y
mark-Release_other h v t freed y n = grind (arith, nat_tests)

pub is_active-Attempt : (h : History) (v t asked moved evictions : ℕ) (got : Option ℕ) → is_active (entry_of v (Attempt t asked moved evictions got) ∷ h) t ≡ true
is_active-Attempt h v t asked moved evictions got = rw (eq-eqb t t refl) refl

pub is_active-Release : (h : History) (v t freed : ℕ) → is_active (entry_of v (Release t freed) ∷ h) t ≡ (is_active h t && not (nat_eq (held (entry_of v (Release t freed) ∷ h) t) 0))
is_active-Release h v t freed = rw (eq-eqb t t refl) refl

-- an active task that a release leaves with nothing is active no longer
pub active-Release : (s : Sizes) (h : History) → IsRecorded s h → (v t freed : ℕ) → open_task h v ≡ Some t → freed ≤ held h t → active (entry_of v (Release t freed) ∷ h) + cond (is_active h t && nat_eq (held h t) freed) 1 0 ≡ active h
active-Release s h r v t freed now holds =
    let after = mark (entry_of v (Release t freed) ∷ h) in
    let change : sum_by after (begun h) + mark h t ≡ sum_by (mark h) (begun h) + after t = sum_by-change (mark h) after t (begun h) (begun_once s h r) (open_was_begun s h r v t now) (mark-Release_other h v t freed) in
    grind (arith, nat_tests, change, is_active-Release h v t freed, held-Release h v t freed, holds)

-- An event that changes no task

pub exec-same : (h : History) (e : Entry) → begun (e ∷ h) ≡ begun h → ((u : ℕ) → held (e ∷ h) u ≡ held h u) → exec (e ∷ h) ≡ exec h
exec-same h e same each = ap (sum_by (held (e ∷ h))) same ∙ sum_by-ext (held h) (held (e ∷ h)) (begun h) each

pub active-same : (h : History) (e : Entry) → begun (e ∷ h) ≡ begun h → ((u : ℕ) → is_active (e ∷ h) u ≡ is_active h u) → active (e ∷ h) ≡ active h
active-same h e same each = ap (sum_by (mark (e ∷ h))) same ∙ sum_by-ext (mark h) (mark (e ∷ h)) (begun h) (λ u. ap (λ b. cond b 1 0) (each u))
