-- What tasks hold never passes what there is, also one by one, in a history that a ledger recorded.
use Rattle.std.proofs.Common.{◌≡◌, ℕ, ◌+◌, ◌≤◌, ◌^◌, true, cond, List, [], ◌∷◌, length, sum_by, refl, inl, inr, ap, arith}
use Rattle.std.specs.List.{list_any}
use Rattle.std.specs.Prelude.{nat_eq}
use Rattle.std.proofs.lemmas.List.Sums.{sum_by-cons, count_by-le-length}
use Rattle.std.proofs.lemmas.Bool.{cases_Bool, or_cases, eqb-true, false≢true}
use Rattle.pool_ledger.specs.declared.entry.Event.{Event}
use Rattle.pool_ledger.specs.declared.entry.Event.TheVariants.{Begin, Attempt, Release, End, Evict, Admit, Refused, Pin, Unpin, Remove, Grow}
use Rattle.pool_ledger.specs.Sizes.{Sizes}
use Rattle.pool_ledger.specs.History.{History, held, exec, begun, was_begun, is_active, active, grown_by, maximum}
use Rattle.pool_ledger.specs.Recorded.{CanCome, IsRecorded}
use Rattle.pool_ledger.proofs.Tasks.{entry_of, untouched, exec-Begin, exec-Attempt, exec-Release, exec-same}

-- an element is at most the sum
sum_by-member : (f : ℕ → ℕ) (x : ℕ) (xs : List ℕ) → list_any (λ y. nat_eq y x) xs ≡ true → f x ≤ sum_by f xs
sum_by-member f x [] present = absurd (false≢true present)
sum_by-member f x (y ∷ ys) present = elim (or_cases (nat_eq y x) (list_any (λ z. nat_eq z x) ys) present) [
  | inl here ↦ omega (arith, sum_by-cons f y ys, ap f (eqb-true y x here))
  | inr later ↦ omega (arith, sum_by-cons f y ys, sum_by-member f x ys later)
]

pub held_within : (s : Sizes) (h : History) → IsRecorded s h → (t : ℕ) → held h t ≤ exec h
held_within s h r t = elim (cases_Bool (was_begun h t)) [
  | inl old ↦ sum_by-member (held h) t (begun h) old
  | inr new ↦ omega (arith, (untouched s h r t new).granted)
]

exec_within-more : (s : Sizes) (h : History) (v : ℕ) (e : Event) → IsRecorded s h → CanCome s h v e → exec h ≤ maximum s h → exec (entry_of v e ∷ h) ≤ maximum s (entry_of v e ∷ h)
exec_within-more s h v (Begin task) r can before = omega (arith, before, exec-Begin s h r v task can.new)
exec_within-more s h v (Attempt task asked moved evictions got) r can before = omega (arith, exec-Attempt s h r v task asked moved evictions got can.open_now, can.sum_fits)
exec_within-more s h v (Release task freed) r can before = omega (arith, before, exec-Release s h r v task freed can.open_now can.holds)
exec_within-more s h v (End task freed) r can before = omega (arith, before, exec-Release s h r v task freed can.open_now can.holds)
exec_within-more s h v (Evict dataset part size fate) r can before = omega (arith, before, exec-same h (entry_of v (Evict dataset part size fate)) refl (λ u. omega arith))
exec_within-more s h v (Admit dataset part size level borrowed evictions) r can before = omega (arith, before, exec-same h (entry_of v (Admit dataset part size level borrowed evictions)) refl (λ u. omega arith))
exec_within-more s h v (Refused dataset part size borrowed evictions) r can before = omega (arith, before, exec-same h (entry_of v (Refused dataset part size borrowed evictions)) refl (λ u. omega arith))
exec_within-more s h v (Pin dataset part copy) r can before = omega (arith, before, exec-same h (entry_of v (Pin dataset part copy)) refl (λ u. omega arith))
exec_within-more s h v (Unpin dataset part) r can before = omega (arith, before, exec-same h (entry_of v (Unpin dataset part)) refl (λ u. omega arith))
exec_within-more s h v (Remove dataset part size) r can before = omega (arith, before, exec-same h (entry_of v (Remove dataset part size)) refl (λ u. omega arith))
exec_within-more s h v (Grow bytes) r can before = omega (arith, before, exec-same h (entry_of v (Grow bytes)) refl (λ u. omega arith))

pub exec_within : (s : Sizes) (h : History) → IsRecorded s h → exec h ≤ maximum s h
exec_within s [] r = omega arith
exec_within s (entry ∷ h) r = exec_within-more s h entry.worker entry.event r.0 r.1.event_fits (exec_within s h r.0)

-- the pools never have more than 2^41 bytes
maximum_within-more : (s : Sizes) (h : History) (v : ℕ) (e : Event) → CanCome s h v e → maximum s h ≤ 2 ^ 41 → maximum s (entry_of v e ∷ h) ≤ 2 ^ 41
maximum_within-more s h v (Grow bytes) can before = omega (arith, can.fits)
maximum_within-more s h v _ can before = omega (arith, before)

pub maximum_within : (s : Sizes) (h : History) → s.maximum ≤ 2 ^ 40 → IsRecorded s h → maximum s h ≤ 2 ^ 41
maximum_within s [] small r = omega (arith, small)
maximum_within s (entry ∷ h) small r = maximum_within-more s h entry.worker entry.event r.1.event_fits (maximum_within s h small r.0)

-- no more tasks are active than were begun, and no more were begun than there are entries
begun_few-more : (h : History) (v : ℕ) (e : Event) → length (begun h) ≤ length h → length (begun (entry_of v e ∷ h)) ≤ length h + 1
begun_few-more h v (Begin task) before = omega arith
begun_few-more h v _ before = omega arith

pub begun_few : (h : History) → length (begun h) ≤ length h
begun_few [] = omega arith
begun_few (entry ∷ h) = omega (arith, begun_few-more h entry.worker entry.event (begun_few h))

pub active_within : (h : History) → active h ≤ length (begun h)
active_within h = count_by-le-length (is_active h) (begun h)

-- an active task counts
pub active_counted : (h : History) (t : ℕ) → was_begun h t ≡ true → cond (is_active h t) 1 0 ≤ active h
active_counted h t old = sum_by-member (λ u. cond (is_active h u) 1 0) t (begun h) old
