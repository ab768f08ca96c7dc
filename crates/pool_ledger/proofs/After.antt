-- The running sums after each event, from those before it.
use Rattle.std.proofs.Common.{◌≡◌, ℕ, ◌+◌, ◌-◌, ◌≤◌, Bool, true, false, cond, ◌&&◌, not, Option, Some, None, [], ◌∷◌, length, unwrap_or, refl, sym, ap, subst, ◌∙◌, arith}
use Rattle.std.specs.Prelude.{nat_eq}
use Rattle.std.proofs.lemmas.Bool.{eq-eqb}
use Rattle.std.proofs.lemmas.Bool.Decides.{nat_tests}
use Rattle.std.proofs.lemmas.Option.{same_Some}
use Rattle.pool_ledger.specs.declared.entry.Entry.{Entry}
use Rattle.pool_ledger.specs.declared.entry.Event.{Event}
use Rattle.pool_ledger.specs.declared.entry.Event.TheVariants.{Begin, Attempt, Release, End, Evict, Admit, Refused, Pin, Unpin, Remove, Grow}
use Rattle.pool_ledger.specs.declared.entry.Level.{Level}
use Rattle.pool_ledger.specs.declared.entry.Fate.{Fate}
use Rattle.pool_ledger.specs.declared.holding.Holding.{Holding}
use Rattle.pool_ledger.specs.declared.ledger.Kept.{Kept}
use Rattle.pool_ledger.specs.Sizes.{Sizes}
use Rattle.pool_ledger.specs.History.{History, held, exec, begun, is_active, active, open_task, was_begun, total, granted_by, freed_by, task_after, execution_pool, maximum, grown_by, moved_by, borrowed_by}
use Rattle.pool_ledger.specs.Recorded.{CanCome, CanFollow, IsRecorded, CanAttempt, CanRelease, IsAdmit}
use Rattle.pool_ledger.specs.Blocks.{stored}
use Rattle.pool_ledger.specs.Accounts.{seat_of}
use Rattle.pool_ledger.specs.Kept.{AreKept}
use Rattle.pool_ledger.proofs.Tasks.{entry_of, IsUntouched, untouched, open_was_begun, held-Attempt, held-Release, is_active-Attempt, is_active-Release, exec-Begin, exec-Attempt, exec-Release, active-Begin, active-Attempt, active-Release, exec-same, active-same}
use Rattle.pool_ledger.proofs.Seats.{Says, seat_says, seat_each}
use Rattle.pool_ledger.proofs.Residents.{stored-without, stored-Admit, stored-Pin}
use Rattle.pool_ledger.proofs.Bounds.{active_within, begun_few, active_counted}

-- the seat of a worker with this task
seat_is : (h : History) (w t : ℕ) → open_task h w ≡ Some t → seat_of h w ≡ Some (record { task = t; held = held h t; active = is_active h t })
seat_is h w t now = rw now refl

seat_none : (h : History) (w : ℕ) → open_task h w ≡ None → seat_of h w ≡ None
seat_none h w now = rw now refl

own_task : (h : History) (v : ℕ) (e : Event) → open_task (entry_of v e ∷ h) v ≡ task_after e (open_task h v)
own_task h v e = rw (eq-eqb v v refl) refl

abbrev seated : ℕ → ℕ → Bool → Holding
seated task held active = record { task = task; held = held; active = active }

pub kept-Begin : (s : Sizes) (h : History) (w : ℕ) (kept : Kept) (t : ℕ) → AreKept s h w kept → IsRecorded s h → CanFollow s h (entry_of w (Begin t)) → AreKept s (entry_of w (Begin t) ∷ h) w (record { seat = Some (record { task = t; held = 0; active = false }); exec = kept.exec; stored = kept.stored; max = kept.max; pool = kept.pool; active = kept.active })
kept-Begin s h w kept t sums r can =
    let new : was_begun h t ≡ false = can.event_fits.new in
    let u : IsUntouched h t = untouched s h r t new in
    let nothing : 0 ≡ held (entry_of w (Begin t) ∷ h) t = omega (arith, u.granted) in
    record {
      seat_is = ap (λ x. Some (seated t x false)) nothing ∙ ap (λ b. Some (seated t (held (entry_of w (Begin t) ∷ h) t) b)) (sym u.idle) ∙ sym (seat_is (entry_of w (Begin t) ∷ h) w t (own_task h w (Begin t)));
      exec_is = sums.exec_is ∙ sym (exec-Begin s h r w t new);
      exec_fits = omega (arith, sums.exec_fits);
      stored_is = sums.stored_is;
      stored_fits = omega (arith, sums.stored_fits);
      max_is = omega (arith, sums.max_is);
      pool_is = omega (arith, sums.pool_is);
      pool_fits = omega (arith, sums.pool_fits);
      active_is = sums.active_is ∙ sym (active-Begin s h r w t new);
    }

-- what is known of an open task that a seat holds
pub record IsSeated (s : Sizes) (h : History) (kept : Kept) (open_now : Holding) (t : ℕ) : Type 0 where
  pub task_is : open_now.task ≡ t
  pub held_is : open_now.held ≡ held h t
  pub active_is : open_now.active ≡ is_active h t
  pub held_fits : open_now.held ≤ kept.exec
  pub mark_fits : cond open_now.active 1 0 ≤ kept.active
  pub few : kept.active - cond open_now.active 1 0 + 1 ≤ length h

-- no more tasks are active after an attempt than there are entries before it
few_after : (s : Sizes) (h : History) (w : ℕ) (kept : Kept) (o : Holding) (t : ℕ) → AreKept s h w kept → IsRecorded s h → open_task h w ≡ Some t → o.active ≡ is_active h t → kept.active - cond o.active 1 0 + 1 ≤ length h
few_after s h w kept o t sums r now active_is =
    let e = entry_of w (Attempt t 0 0 0 None) in
    let few : active (e ∷ h) ≤ length (begun h) = active_within (e ∷ h) in
    let less : length (begun h) ≤ length h = begun_few h in
    grind (arith, few, less, active-Attempt s h r w t 0 0 0 None now, sums.active_is, active_is, active_counted h t (open_was_begun s h r w t now))

pub is_seated : (s : Sizes) (h : History) (w : ℕ) (kept : Kept) (o : Holding) (t : ℕ) → AreKept s h w kept → IsRecorded s h → open_task h w ≡ Some t → kept.seat ≡ Some o → IsSeated s h kept o t
is_seated s h w kept o t sums r now seat =
    let says : Says h w o = seat_says h w o (sym sums.seat_is ∙ seat) in
    let same : o.task ≡ t = same_Some o.task t (sym says.open_now ∙ now) in
    let held_is : o.held ≡ held h t = says.held_is ∙ ap (held h) same in
    let active_is : o.active ≡ is_active h t = says.active_is ∙ ap (is_active h) same in
    record {
      task_is = same;
      held_is = held_is;
      active_is = active_is;
      held_fits = omega (arith, exec-Release s h r w t (held h t) now (omega arith), sums.exec_is, held_is);
      mark_fits = grind (arith, nat_tests, active-Release s h r w t (held h t) now (omega arith), sums.active_is, active_is);
      few = few_after s h w kept o t sums r now active_is;
    }

seated_same : (t u x y : ℕ) (b c : Bool) → t ≡ u → x ≡ y → b ≡ c → seated t x b ≡ seated u y c
seated_same t u x y b c p q r = ap (λ v. seated v x b) p ∙ ap (λ v. seated u v b) q ∙ ap (seated u y) r

-- what is borrowed was in the pool
borrowed_fits-more : (s : Sizes) (h : History) (v : ℕ) (e : Event) → CanCome s h v e → total borrowed_by h ≤ (maximum s h - s.region) + total moved_by h → total borrowed_by (entry_of v e ∷ h) ≤ (maximum s (entry_of v e ∷ h) - s.region) + total moved_by (entry_of v e ∷ h)
borrowed_fits-more s h v (Begin task) can before = omega arith
borrowed_fits-more s h v (Attempt task asked moved evictions got) can before = omega arith
borrowed_fits-more s h v (Release task freed) can before = omega arith
borrowed_fits-more s h v (End task freed) can before = omega arith
borrowed_fits-more s h v (Admit dataset part size level borrowed evictions) can before = omega (arith, can.in_pool)
borrowed_fits-more s h v (Refused dataset part size borrowed evictions) can before = omega (arith, can)
borrowed_fits-more s h v _ can before = omega arith

pub borrowed_fits : (s : Sizes) (h : History) → IsRecorded s h → total borrowed_by h ≤ (maximum s h - s.region) + total moved_by h
borrowed_fits s [] r = omega arith
borrowed_fits s (entry ∷ h) r = borrowed_fits-more s h entry.worker entry.event r.1.event_fits (borrowed_fits s h r.0)

pub kept-Attempt : (s : Sizes) (h : History) (w : ℕ) (kept : Kept) (o next : Holding) (t asked moved evictions : ℕ) (got : Option ℕ) (mark : ℕ) → AreKept s h w kept → IsRecorded s h → CanAttempt s h w t moved got → IsSeated s h kept o t → next ≡ seated o.task (o.held + unwrap_or got 0) true → mark ≡ cond o.active 1 0 → AreKept s (entry_of w (Attempt t asked moved evictions got) ∷ h) w (record { seat = Some next; exec = kept.exec - o.held + next.held; stored = kept.stored; max = kept.max; pool = kept.pool + moved; active = kept.active - mark + 1 })
kept-Attempt s h w kept o next t asked moved evictions got mark sums r can seat is one =
    let e = Attempt t asked moved evictions got in
    let after = entry_of w e ∷ h in
    let held_is : o.held + unwrap_or got 0 ≡ held after t = omega (arith, held-Attempt s h r w t asked moved evictions got, seat.held_is) in
    let exec_is : kept.exec - o.held + next.held ≡ exec after = omega (arith, ap (λ (v : Holding). v.held) is, seat.held_fits, sums.exec_is, exec-Attempt s h r w t asked moved evictions got can.open_now) in
    record {
      seat_is = ap Some (is ∙ seated_same _ _ _ _ _ _ seat.task_is held_is (sym (is_active-Attempt h w t asked moved evictions got))) ∙ sym (seat_is after w t (own_task h w e ∙ can.open_now));
      exec_is = exec_is;
      exec_fits = omega (arith, exec_is, exec-Attempt s h r w t asked moved evictions got can.open_now, can.sum_fits);
      stored_is = sums.stored_is;
      stored_fits = omega (arith, sums.stored_fits);
      max_is = omega (arith, sums.max_is);
      pool_is = omega (arith, sums.pool_is, borrowed_fits s h r);
      pool_fits = omega (arith, sums.pool_is, can.pool_fits);
      active_is = grind (arith, seat.mark_fits, seat.active_is, sums.active_is, one, active-Attempt s h r w t asked moved evictions got can.open_now);
    }

pub kept-Release : (s : Sizes) (h : History) (w : ℕ) (kept : Kept) (o next : Holding) (t freed : ℕ) (mark after : ℕ) → AreKept s h w kept → IsRecorded s h → CanRelease h w t freed → IsSeated s h kept o t → next ≡ seated o.task (o.held - freed) (o.active && not (nat_eq (o.held - freed) 0)) → mark ≡ cond o.active 1 0 → after ≡ cond next.active 1 0 → AreKept s (entry_of w (Release t freed) ∷ h) w (record { seat = Some next; exec = kept.exec - freed; stored = kept.stored; max = kept.max; pool = kept.pool; active = kept.active - mark + after })
kept-Release s h w kept o next t freed mark after sums r can seat is one two =
    let h' = entry_of w (Release t freed) ∷ h in
    let held_is : o.held - freed ≡ held h' t = omega (arith, held-Release h w t freed, seat.held_is) in
    let active_is : (o.active && not (nat_eq (o.held - freed) 0)) ≡ is_active h' t = rw (held_is, seat.active_is) (sym (is_active-Release h w t freed)) in
    let exec_is : kept.exec - freed ≡ exec h' = omega (arith, sums.exec_is, exec-Release s h r w t freed can.open_now can.holds) in
    record {
      seat_is = ap Some (is ∙ seated_same _ _ _ _ _ _ seat.task_is held_is active_is) ∙ sym (seat_is h' w t (own_task h w (Release t freed) ∙ can.open_now));
      exec_is = exec_is;
      exec_fits = omega (arith, sums.exec_fits);
      stored_is = sums.stored_is;
      stored_fits = omega (arith, sums.stored_fits);
      max_is = omega (arith, sums.max_is);
      pool_is = omega (arith, sums.pool_is);
      pool_fits = omega (arith, sums.pool_fits);
      active_is = grind (arith, nat_tests, ap (λ (v : Holding). v.active) is, seat.mark_fits, seat.active_is, seat.held_is, sums.active_is, one, two, can.holds, active-Release s h r w t freed can.open_now can.holds);
    }

pub kept-End : (s : Sizes) (h : History) (w : ℕ) (kept : Kept) (o next : Holding) (t freed : ℕ) (mark after : ℕ) → AreKept s h w kept → IsRecorded s h → CanRelease h w t freed → IsSeated s h kept o t → next ≡ seated o.task (o.held - freed) (o.active && not (nat_eq (o.held - freed) 0)) → mark ≡ cond o.active 1 0 → after ≡ cond next.active 1 0 → AreKept s (entry_of w (End t freed) ∷ h) w (record { seat = None; exec = kept.exec - o.held + next.held; stored = kept.stored; max = kept.max; pool = kept.pool; active = kept.active - mark + after })
kept-End s h w kept o next t freed mark after sums r can seat is one two =
    let h' = entry_of w (End t freed) ∷ h in
    let exec_is : kept.exec - o.held + next.held ≡ exec h' = omega (arith, ap (λ (v : Holding). v.held) is, seat.held_fits, seat.held_is, sums.exec_is, exec-Release s h r w t freed can.open_now can.holds) in
    record {
      seat_is = sym (seat_none h' w (own_task h w (End t freed)));
      exec_is = exec_is;
      exec_fits = omega (arith, exec_is, sums.exec_fits, sums.exec_is, exec-Release s h r w t freed can.open_now can.holds);
      stored_is = sums.stored_is;
      stored_fits = omega (arith, sums.stored_fits);
      max_is = omega (arith, sums.max_is);
      pool_is = omega (arith, sums.pool_is);
      pool_fits = omega (arith, sums.pool_fits);
      active_is = grind (arith, nat_tests, ap (λ (v : Holding). v.active) is, seat.mark_fits, seat.active_is, seat.held_is, sums.active_is, one, two, can.holds, active-Release s h r w t freed can.open_now can.holds);
    }

-- the same, where the event is that of an entry
pub at_entry : (s : Sizes) (h : History) (kept : Kept) (entry : Entry) (e : Event) → entry.event ≡ e → AreKept s (entry_of entry.worker e ∷ h) entry.worker kept → AreKept s (entry ∷ h) entry.worker kept
at_entry s h kept entry e is after = subst (λ v. AreKept s (entry_of entry.worker v ∷ h) entry.worker kept) (sym is) after

-- An event that changes no task and no pool
pub record ChangesNoTask (h : History) (w : ℕ) (e : Event) : Type 0 where
  pub begun_same : begun (entry_of w e ∷ h) ≡ begun h
  pub held_same : (u : ℕ) → held (entry_of w e ∷ h) u ≡ held h u
  pub active_same : (u : ℕ) → is_active (entry_of w e ∷ h) u ≡ is_active h u
  pub own_same : task_after e (open_task h w) ≡ open_task h w

pub no_task : (s : Sizes) (h : History) (w : ℕ) (e : Event) → ChangesNoTask h w e → (kept : Kept) (kept_stored all pool : ℕ) → AreKept s h w kept → kept_stored ≡ stored (entry_of w e ∷ h) → kept_stored ≤ all → all ≡ maximum s (entry_of w e ∷ h) → pool ≡ execution_pool s (entry_of w e ∷ h) → pool ≤ all → AreKept s (entry_of w e ∷ h) w (record { seat = kept.seat; exec = kept.exec; stored = kept_stored; max = all; pool = pool; active = kept.active })
no_task s h w e same kept kept_stored all pool sums stored_is stored_fits max_is pool_is pool_fits = record {
  seat_is = sums.seat_is ∙ sym (seat_each h (entry_of w e) (open_task h w) (own_task h w e ∙ same.own_same) (λ u. record { held_same = same.held_same u; active_same = same.active_same u }) refl);
  exec_is = sums.exec_is ∙ sym (exec-same h (entry_of w e) same.begun_same same.held_same);
  exec_fits = omega (arith, sums.exec_fits);
  stored_is = stored_is;
  stored_fits = omega (arith, stored_fits, max_is);
  max_is = max_is;
  pool_is = pool_is;
  pool_fits = omega (arith, pool_fits, max_is);
  active_is = sums.active_is ∙ sym (active-same h (entry_of w e) same.begun_same same.active_same);
}

-- each event of a block is one
quiet : (h : History) (w : ℕ) (e : Event) → ((u : ℕ) → granted_by u e ≡ 0) → ((u : ℕ) → freed_by u e ≡ 0) → begun (entry_of w e ∷ h) ≡ begun h → ((u : ℕ) → is_active (entry_of w e ∷ h) u ≡ is_active h u) → task_after e (open_task h w) ≡ open_task h w → ChangesNoTask h w e
quiet h w e grants frees same active_same own = record {
  begun_same = same;
  held_same = λ u. omega (arith, grants u, frees u);
  active_same = active_same;
  own_same = own;
}

pub kept-Leave : (s : Sizes) (h : History) (w : ℕ) (kept : Kept) (d p size : ℕ) (fate : Fate) → AreKept s h w kept → IsRecorded s h → CanCome s h w (Evict d p size fate) → AreKept s (entry_of w (Evict d p size fate) ∷ h) w (record { seat = kept.seat; exec = kept.exec; stored = kept.stored - size; max = kept.max; pool = kept.pool; active = kept.active })
kept-Leave s h w kept d p size fate sums r can =
    no_task s h w (Evict d p size fate) (quiet h w (Evict d p size fate) (λ u. refl) (λ u. refl) refl (λ u. refl) refl) kept (kept.stored - size) kept.max kept.pool sums
    (omega (arith, sums.stored_is, stored-without s h d p size can.0 r can.1)) (omega (arith, sums.stored_fits, sums.max_is)) (omega (arith, sums.max_is)) (omega (arith, sums.pool_is)) (omega (arith, sums.pool_fits, sums.max_is))

pub kept-Remove : (s : Sizes) (h : History) (w : ℕ) (kept : Kept) (d p size : ℕ) → AreKept s h w kept → IsRecorded s h → CanCome s h w (Remove d p size) → AreKept s (entry_of w (Remove d p size) ∷ h) w (record { seat = kept.seat; exec = kept.exec; stored = kept.stored - size; max = kept.max; pool = kept.pool; active = kept.active })
kept-Remove s h w kept d p size sums r can =
    no_task s h w (Remove d p size) (quiet h w (Remove d p size) (λ u. refl) (λ u. refl) refl (λ u. refl) refl) kept (kept.stored - size) kept.max kept.pool sums
    (omega (arith, sums.stored_is, stored-without s h d p size can.0 r can.1)) (omega (arith, sums.stored_fits, sums.max_is)) (omega (arith, sums.max_is)) (omega (arith, sums.pool_is)) (omega (arith, sums.pool_fits, sums.max_is))

pub kept-Admit : (s : Sizes) (h : History) (w : ℕ) (kept : Kept) (d p size : ℕ) (level : Level) (borrowed evictions : ℕ) → AreKept s h w kept → IsRecorded s h → IsAdmit s h d p size borrowed → AreKept s (entry_of w (Admit d p size level borrowed evictions) ∷ h) w (record { seat = kept.seat; exec = kept.exec; stored = kept.stored + size; max = kept.max; pool = kept.pool - borrowed; active = kept.active })
kept-Admit s h w kept d p size level borrowed evictions sums r can =
    let e = Admit d p size level borrowed evictions in
    no_task s h w e (quiet h w e (λ u. refl) (λ u. refl) refl (λ u. refl) refl) kept (kept.stored + size) kept.max (kept.pool - borrowed) sums
    (omega (arith, sums.stored_is, stored-Admit h w d p size level borrowed evictions)) (omega (arith, sums.stored_is, can.sum_fits, sums.max_is)) (omega (arith, sums.max_is)) (omega (arith, sums.pool_is, borrowed_fits s h r, can.in_pool)) (omega (arith, sums.pool_fits, sums.max_is))

pub kept-Refused : (s : Sizes) (h : History) (w : ℕ) (kept : Kept) (d p size borrowed evictions : ℕ) → AreKept s h w kept → IsRecorded s h → borrowed ≤ execution_pool s h → AreKept s (entry_of w (Refused d p size borrowed evictions) ∷ h) w (record { seat = kept.seat; exec = kept.exec; stored = kept.stored; max = kept.max; pool = kept.pool - borrowed; active = kept.active })
kept-Refused s h w kept d p size borrowed evictions sums r can =
    let e = Refused d p size borrowed evictions in
    no_task s h w e (quiet h w e (λ u. refl) (λ u. refl) refl (λ u. refl) refl) kept kept.stored kept.max (kept.pool - borrowed) sums
    sums.stored_is (omega (arith, sums.stored_fits, sums.max_is)) (omega (arith, sums.max_is)) (omega (arith, sums.pool_is, borrowed_fits s h r, can)) (omega (arith, sums.pool_fits, sums.max_is))

pub kept-Pin : (s : Sizes) (h : History) (w : ℕ) (kept : Kept) (d p : ℕ) (copy : Bool) → AreKept s h w kept → AreKept s (entry_of w (Pin d p copy) ∷ h) w kept
kept-Pin s h w kept d p copy sums =
    let e = Pin d p copy in
    no_task s h w e (quiet h w e (λ u. refl) (λ u. refl) refl (λ u. refl) refl) kept kept.stored kept.max kept.pool sums
    (sums.stored_is ∙ sym (stored-Pin h w d p copy)) (omega (arith, sums.stored_fits, sums.max_is)) (omega (arith, sums.max_is)) (omega (arith, sums.pool_is)) (omega (arith, sums.pool_fits, sums.max_is))

pub kept-Unpin : (s : Sizes) (h : History) (w : ℕ) (kept : Kept) (d p : ℕ) → AreKept s h w kept → AreKept s (entry_of w (Unpin d p) ∷ h) w kept
kept-Unpin s h w kept d p sums =
    let e = Unpin d p in
    no_task s h w e (quiet h w e (λ u. refl) (λ u. refl) refl (λ u. refl) refl) kept kept.stored kept.max kept.pool sums
    sums.stored_is (omega (arith, sums.stored_fits, sums.max_is)) (omega (arith, sums.max_is)) (omega (arith, sums.pool_is)) (omega (arith, sums.pool_fits, sums.max_is))

pub kept-Grow : (s : Sizes) (h : History) (w : ℕ) (kept : Kept) (bytes : ℕ) → s.region ≤ s.maximum → AreKept s h w kept → IsRecorded s h → AreKept s (entry_of w (Grow bytes) ∷ h) w (record { seat = kept.seat; exec = kept.exec; stored = kept.stored; max = kept.max + bytes; pool = kept.pool + bytes; active = kept.active })
kept-Grow s h w kept bytes region sums r =
    let e = Grow bytes in
    no_task s h w e (quiet h w e (λ u. refl) (λ u. refl) refl (λ u. refl) refl) kept kept.stored (kept.max + bytes) (kept.pool + bytes) sums
    sums.stored_is (omega (arith, sums.stored_fits, sums.max_is)) (omega (arith, sums.max_is)) (omega (arith, sums.pool_is, borrowed_fits s h r, region)) (omega (arith, sums.pool_fits, sums.max_is))
