-- What a ledger keeps of open tasks, after an entry.
use Rattle.std.proofs.Common.{◌≡◌, ◌≢◌, ℕ, ◌<◌, ◌≤◌, Bool, Option, Some, None, List, ◌∷◌, length, get_or, refl, sym, ap, subst, inl, inr, ◌∙◌, arith}
use Rattle.std.specs.Option.{option_map}
use Rattle.std.specs.List.{slice_get}
use Rattle.std.specs.Prelude.{slice_set}
use Rattle.std.proofs.lemmas.Bool.{cases_eq}
use Rattle.std.proofs.lemmas.Bool.Decides.{nat_tests}
use Rattle.std.proofs.lemmas.Option.{gets, slice_get_within, same_Some, get_or_from_slice_get}
use Rattle.std.proofs.lemmas.Grind.{common_steps}
use Rattle.pool_ledger.specs.declared.entry.Entry.{Entry}
use Rattle.pool_ledger.specs.declared.entry.Event.{Event}
use Rattle.pool_ledger.specs.declared.entry.Event.TheVariants.{Begin, Attempt, Release, End}
use Rattle.pool_ledger.specs.declared.holding.Holding.{Holding}
use Rattle.pool_ledger.specs.declared.ledger.Kept.{Kept}
use Rattle.pool_ledger.specs.Sizes.{Sizes}
use Rattle.pool_ledger.specs.History.{History, held, is_active, open_task}
use Rattle.pool_ledger.specs.Recorded.{CanCome, CanFollow, IsRecorded}
use Rattle.pool_ledger.specs.Accounts.{seat_of, AreSums}
use Rattle.pool_ledger.specs.Kept.{AreKept}
use Rattle.pool_ledger.proofs.Tasks.{entry_of, open_worker_known, opened_once}

-- an event of one worker leaves the task of another as it was
pub record StaysSame (h : History) (e : Entry) (u : ℕ) : Type 0 where
  pub held_same : held (e ∷ h) u ≡ held h u
  pub active_same : is_active (e ∷ h) u ≡ is_active h u

pub other_task : (s : Sizes) (h : History) (v : ℕ) (e : Event) → IsRecorded s h → CanCome s h v e → (w u : ℕ) → w ≢ v → open_task h w ≡ Some u → StaysSame h (entry_of v e) u
other_task s h v (Begin task) r can w u n now = record { held_same = omega arith; active_same = refl }
other_task s h v (Attempt task asked moved evictions got) r can w u n now =
    let other : task ≢ u = λ e. n (opened_once s h r w v u now (can.open_now ∙ ap Some e)) in
    record { held_same = grind (arith, nat_tests, other); active_same = grind (arith, nat_tests, other) }
other_task s h v (Release task freed) r can w u n now =
    let other : task ≢ u = λ e. n (opened_once s h r w v u now (can.open_now ∙ ap Some e)) in
    record { held_same = grind (arith, nat_tests, other); active_same = grind (arith, nat_tests, other) }
other_task s h v (End task freed) r can w u n now =
    let other : task ≢ u = λ e. n (opened_once s h r w v u now (can.open_now ∙ ap Some e)) in
    record { held_same = grind (arith, nat_tests, other); active_same = grind (arith, nat_tests, other) }
other_task s h v _ r can w u n now = record { held_same = omega arith; active_same = refl }

abbrev made : ℕ → ℕ → Bool → Option Holding
made task held active = Some (record { task = task; held = held; active = active })

seat_with : History → Option ℕ → Option Holding
seat_with h o = option_map (λ task. record { task = task; held = held h task; active = is_active h task }) o

seat_with-same : (h : History) (e : Entry) (o : Option ℕ) → ((u : ℕ) → o ≡ Some u → StaysSame h e u) → seat_with (e ∷ h) o ≡ seat_with h o
unfolding seat_with
seat_with-same h e None same = refl
seat_with-same h e (Some u) same =
    let now = same u refl in
    ap (λ x. made u x (is_active (e ∷ h) u)) now.held_same ∙ ap (λ b. made u (held h u) b) now.active_same

-- the seat where the task is the same
pub seat_each : (h : History) (e : Entry) (o : Option ℕ) → open_task (e ∷ h) e.worker ≡ o → ((u : ℕ) → StaysSame h e u) → o ≡ open_task h e.worker → seat_of (e ∷ h) e.worker ≡ seat_of h e.worker
unfolding seat_with
seat_each h e o now each same = ap (seat_with (e ∷ h)) now ∙ seat_with-same h e o (λ u _. each u) ∙ ap (seat_with h) same

pub seat_of-other : (s : Sizes) (h : History) (e : Entry) → IsRecorded s h → CanFollow s h e → (w : ℕ) → w ≢ e.worker → seat_of (e ∷ h) w ≡ seat_of h w
unfolding seat_with
seat_of-other s h e r can w n =
    let skip : open_task (e ∷ h) w ≡ open_task h w = grind (arith, nat_tests, n) in
    ap (seat_with (e ∷ h)) skip ∙ seat_with-same h e (open_task h w) (λ u now. other_task s h e.worker e.event r can.event_fits w u n now)

-- what a seat says of its worker
pub record Says (h : History) (w : ℕ) (o : Holding) : Type 0 where
  pub open_now : open_task h w ≡ Some o.task
  pub held_is : o.held ≡ held h o.task
  pub active_is : o.active ≡ is_active h o.task

seat_says-at : (h : History) (w : ℕ) (o : Holding) (x : Option ℕ) → open_task h w ≡ x → seat_with h x ≡ Some o → Says h w o
unfolding seat_with
seat_says-at h w o None now is = cc
seat_says-at h w o (Some t) now is =
    let same : record { task = t; held = held h t; active = is_active h t } ≡ o = same_Some _ _ is in
    subst (λ v. Says h w v) same (record { open_now = now; held_is = refl; active_is = refl })

pub seat_says : (h : History) (w : ℕ) (o : Holding) → seat_of h w ≡ Some o → Says h w o
unfolding seat_with
seat_says h w o is = seat_says-at h w o (open_task h w) refl is

seat_free-at : (h : History) (w : ℕ) (x : Option ℕ) → open_task h w ≡ x → seat_with h x ≡ None → open_task h w ≡ None
unfolding seat_with
seat_free-at h w None now is = now
seat_free-at h w (Some t) now is = cc

pub seat_free : (h : History) (w : ℕ) → seat_of h w ≡ None → open_task h w ≡ None
unfolding seat_with
seat_free h w is = seat_free-at h w (open_task h w) refl is

slice_get-set_same : {X : Type 0} (xs : List X) (i : ℕ) (x : X) → i < length xs → slice_get (slice_set xs i x) i ≡ Some x
slice_get-set_same xs i x below = grind (arith, common_steps, gets)

slice_get-set_other : {X : Type 0} (xs : List X) (i j : ℕ) (x : X) → j ≢ i → slice_get (slice_set xs i x) j ≡ slice_get xs j
slice_get-set_other xs i j x other = grind (arith, common_steps, gets)

-- the kept values after an entry
pub AreSums-more : (s : Sizes) (h : History) (seats : List (Option Holding)) (x y m p a : ℕ) (e : Entry) (kept : Kept) → AreSums s h seats x y m p a → CanFollow s h e → AreKept s (e ∷ h) e.worker kept → AreSums s (e ∷ h) (slice_set seats e.worker kept.seat) kept.exec kept.stored kept.max kept.pool kept.active
AreSums-more s h seats x y m p a e kept sums can after = record {
  recorded = (sums.recorded, can);
  range = sums.range;
  seat = λ w below. elim (cases_eq w e.worker) [
    | inl same ↦ subst (λ v. slice_get (slice_set seats e.worker kept.seat) v ≡ Some (seat_of (e ∷ h) v)) (sym same) (slice_get-set_same seats e.worker kept.seat (slice_get_within seats e.worker _ (sums.seat e.worker (omega (arith, can.worker_known, sums.range.few_workers)))) ∙ ap Some after.seat_is)
    | inr n ↦ slice_get-set_other seats e.worker w kept.seat n ∙ sums.seat w below ∙ ap Some (sym (seat_of-other s h e sums.recorded can w n))
  ];
  exec_is = after.exec_is;
  exec_fits = after.exec_fits;
  stored_is = after.stored_is;
  stored_fits = after.stored_fits;
  max_is = after.max_is;
  pool_is = after.pool_is;
  pool_fits = after.pool_fits;
  active_is = after.active_is;
}

-- What a walk over the seats finds
module _ (s : Sizes) (h : History) (seats : List (Option Holding)) (x y m p a : ℕ) (sums : AreSums s h seats x y m p a) where
  read_seat : (k : ℕ) → k < 16 → get_or seats k None ≡ seat_of h k
  read_seat k below = get_or_from_slice_get seats k (seat_of h k) None (sums.seat k below)

  pub held_found : (k : ℕ) → k < 16 → (o : Holding) (t : ℕ) → get_or seats k None ≡ Some o → o.task ≡ t → o.held ≡ held h t
  held_found k below o t is same = subst (λ v. o.held ≡ held h v) same (seat_says h k o (sym (read_seat k below) ∙ is)).held_is

  pub active_found : (k : ℕ) → k < 16 → (o : Holding) (t : ℕ) → get_or seats k None ≡ Some o → o.task ≡ t → o.active ≡ is_active h t
  active_found k below o t is same = subst (λ v. o.active ≡ is_active h v) same (seat_says h k o (sym (read_seat k below) ∙ is)).active_is

  -- the open task that a worker's seat tells
  pub open_found : (k : ℕ) → k < 16 → (o : Holding) → get_or seats k None ≡ Some o → Some o.task ≡ open_task h k
  open_found k below o is = sym (seat_says h k o (sym (read_seat k below) ∙ is)).open_now

  pub none_found : (k : ℕ) → k < 16 → get_or seats k None ≡ None → None ≡ open_task h k
  none_found k below is = sym (seat_free h k (sym (read_seat k below) ∙ is))

  -- there is no worker beyond them
  pub none_beyond : (k : ℕ) → 16 ≤ k → None ≡ open_task h k
  none_beyond k beyond = at_task (open_task h k) refl
    where
      at_task : (o : Option ℕ) → open_task h k ≡ o → None ≡ open_task h k
      at_task None is = sym is
      at_task (Some t) is = absurd (omega (arith, open_worker_known s h sums.recorded k t is, sums.range.few_workers, beyond))
