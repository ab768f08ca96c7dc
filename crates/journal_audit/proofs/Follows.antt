-- An entry breaks no rule exactly where it may follow.
use Rattle.std.proofs.Common.{ℕ, ◌≡◌, ◌≤◌, ◌+◌, ◌^◌, [], None, Bool, true, false, not, ◌&&◌, ◌||◌, arith, sym, refl, subst}
use Rattle.std.specs.Prelude.{is_some, nat_eq, nat_lt}
use Rattle.std.proofs.lemmas.Bool.{ltb-true, ltb-false, lt-ltb, le-ltb, eqb-true, eqb-false, eq-eqb, ne_eqb}
use Rattle.pool_ledger.specs.declared.entry.Entry.{Entry}
use Rattle.pool_ledger.specs.declared.entry.Event.{Event}
use Rattle.pool_ledger.specs.declared.entry.Event.TheVariants.{Begin, Attempt, Release, End, Evict, Admit, Refused, Pin, Unpin, Remove, Grow}
use Rattle.pool_ledger.specs.Sizes.{Sizes}
use Rattle.pool_ledger.specs.History.{History, CanGrow, total, maximum, held, was_begun, open_task}
use Rattle.pool_ledger.specs.Blocks.{Resident, resident_at, is_pinned, worker_pin, leaves_copy}
use Rattle.pool_ledger.specs.Answers.{growth, answer, admission}
use Rattle.pool_ledger.specs.Legal.{pending, settled, is_own_turn, MayLeave, MayCome, MayFollow}
use Rattle.pool_laws.proofs.Settled.{absent_settled}
use Rattle.journal_audit.specs.Rules.{first_in, event_checks, first_broken, is_waiting, follows_evictions, may_leave, suits, suits_block, has_size}
use Rattle.journal_audit.proofs.Tests.{passed, passes, not_off, off_not, or_off, off_or, and_on, and_both, with_true, true_with, the_is, is_the_one, name_is, is_the_name, none_is, is_none, answer_is, is_the_answer, suits_is, is_suited, size_is, goes_is, is_goes, none_waits, is_not_waiting, turn_is, turn_of_none, is_turn}
use Rattle.journal_audit.proofs.Absent.{absent_of}

-- Blocks that leave

leaves_is : (h : History) (d p size : ℕ) → may_leave h d p size ≡ true → (block : Resident) × MayLeave h d p size block
leaves_is h d p size ok =
    let two = and_both (has_size (resident_at h d p) size) (not (is_pinned h d p)) ok in
    let its = size_is (resident_at h d p) size two.0 in
    (its.0, record { resident = its.1; size_is = its.2; unpinned = off_of (is_pinned h d p) two.1 })
  where
    off_of : (b : Bool) → not b ≡ true → b ≡ false
    off_of true fails = absurd (cc fails)
    off_of false fails = refl

is_leaving : (h : History) (d p size : ℕ) (block : Resident) → MayLeave h d p size block → may_leave h d p size ≡ true
is_leaving h d p size block may =
    let sized : has_size (resident_at h d p) size ≡ true = subst (λ o. has_size o size ≡ true) (sym may.resident) (eq-eqb block.size size may.size_is) in
    let free : not (is_pinned h d p) ≡ true = rw may.unpinned refl in
    and_on (has_size (resident_at h d p) size) (not (is_pinned h d p)) sized free

-- Numbers

between : (asked : ℕ) → (nat_eq asked 0 || nat_lt (2 ^ 50) asked) ≡ false → (1 ≤ asked) × (asked ≤ 2 ^ 50)
between asked h =
    let two = or_off (nat_eq asked 0) (nat_lt (2 ^ 50) asked) h in
    (omega (arith, eqb-false asked 0 two.0), omega (arith, ltb-false (2 ^ 50) asked two.1))

is_between : (asked : ℕ) → 1 ≤ asked → asked ≤ 2 ^ 50 → (nat_eq asked 0 || nat_lt (2 ^ 50) asked) ≡ false
is_between asked some few = off_or (nat_eq asked 0) (nat_lt (2 ^ 50) asked) (ne_eqb asked 0 (omega arith)) (le-ltb (2 ^ 50) asked few)

-- whether a growth breaks its rule
abbrev grows_badly : Sizes → History → ℕ → ℕ → Bool
grows_badly s h w bytes = ((not (nat_eq w 0) || nat_eq bytes 0) || nat_lt (2 ^ 36) bytes) || nat_lt (2 ^ 41) (maximum s h + bytes)

can_grow : (s : Sizes) (h : History) (w bytes : ℕ) → grows_badly s h w bytes ≡ false → CanGrow s h w bytes
can_grow s h w bytes off =
    let three = or_off ((not (nat_eq w 0) || nat_eq bytes 0) || nat_lt (2 ^ 36) bytes) (nat_lt (2 ^ 41) (maximum s h + bytes)) off in
    let two = or_off (not (nat_eq w 0) || nat_eq bytes 0) (nat_lt (2 ^ 36) bytes) three.0 in
    let one = or_off (not (nat_eq w 0)) (nat_eq bytes 0) two.0 in
    record {
      first = eqb-true w 0 (not_off _ one.0);
      some = omega (arith, eqb-false bytes 0 one.1);
      few = ltb-false (2 ^ 36) bytes two.1;
      fits = ltb-false (2 ^ 41) (maximum s h + bytes) three.1;
    }

grows_well : (s : Sizes) (h : History) (w bytes : ℕ) → CanGrow s h w bytes → grows_badly s h w bytes ≡ false
grows_well s h w bytes can =
    off_or ((not (nat_eq w 0) || nat_eq bytes 0) || nat_lt (2 ^ 36) bytes) (nat_lt (2 ^ 41) (maximum s h + bytes))
    (off_or (not (nat_eq w 0) || nat_eq bytes 0) (nat_lt (2 ^ 36) bytes)
    (off_or (not (nat_eq w 0)) (nat_eq bytes 0) (off_not _ (eq-eqb w 0 can.first)) (ne_eqb bytes 0 (omega (arith, can.some))))
    (le-ltb (2 ^ 36) bytes can.few))
    (le-ltb (2 ^ 41) (maximum s h + bytes) can.fits)

-- What may come where no rule is broken

-- an event that ends no evictions comes where none wait
alone : (h : History) → (is_waiting h && true) ≡ false → pending h ≡ []
alone h off = none_waits h (with_true (is_waiting h) off)

comes : (s : Sizes) (h : History) (w : ℕ) (e : Event) → (is_waiting h && not (follows_evictions e && is_own_turn h w)) ≡ false
    → first_in (event_checks s h w e) ≡ None → MayCome s h w e
comes s h w (Begin t) turn h0 =
    let a = passed _ _ _ h0 in
    let two = or_off (was_begun h t) (is_some (open_task h w)) a.0 in
    (alone h turn, none_is (open_task h w) two.1, two.0)
comes s h w (Attempt t asked moved evictions got) turn h0 =
    let a = passed _ _ _ h0 in
    let b = passed _ _ _ a.1 in
    let c = passed _ _ _ b.1 in
    let d = passed _ _ _ c.1 in
    let e = passed _ _ _ d.1 in
    let sizes = between asked b.0 in (
      the_is (open_task h w) t (not_off _ a.0),
      record {
        asked_some = sizes.0;
        asked_small = sizes.1;
        evicts = goes_is h (growth s (settled h) asked).evicted evictions (not_off _ c.0);
        moves = eqb-true moved (growth s (settled h) asked).moved (not_off _ d.0);
        answers = answer_is got (answer s (settled h) t asked) (not_off _ e.0);
      },
    )
comes s h w (Release t freed) turn h0 =
    let a = passed _ _ _ h0 in
    let b = passed _ _ _ a.1 in
    (alone h turn, the_is (open_task h w) t (not_off _ a.0), omega (arith, ltb-false (held h t) freed b.0))
comes s h w (End t freed) turn h0 =
    let a = passed _ _ _ h0 in
    let b = passed _ _ _ a.1 in
    (alone h turn, the_is (open_task h w) t (not_off _ a.0), eqb-true freed (held h t) (not_off _ b.0))
comes s h w (Evict d p size fate) turn h0 =
    let a = passed _ _ _ h0 in
    let b = passed _ _ _ a.1 in
    let leaves = leaves_is h d p size (not_off _ a.0) in
    let suited : suits fate leaves.0.level ≡ true = subst (λ o. suits_block fate o ≡ true) leaves.1.resident (not_off _ b.0) in
    (leaves.0, leaves.1, suits_is fate leaves.0.level suited)
comes s h w (Admit d p size level borrowed evictions) turn h0 =
    let a = passed _ _ _ h0 in
    let b = passed _ _ _ a.1 in
    let c = passed _ _ _ b.1 in
    let e = passed _ _ _ c.1 in
    let goes = goes_is h (admission s (settled h) d size).evicted evictions (not_off _ b.0) in
    record {
      absent = absent_of s h d p size a.0 goes.blocks_are;
      answers = sym (not_off _ e.0);
      borrows = eqb-true borrowed (admission s (settled h) d size).borrowed (not_off _ c.0);
      evicts = goes;
    }
comes s h w (Refused d p size borrowed evictions) turn h0 =
    let a = passed _ _ _ h0 in
    let b = passed _ _ _ a.1 in
    let c = passed _ _ _ b.1 in
    let e = passed _ _ _ c.1 in
    let goes = goes_is h (admission s (settled h) d size).evicted evictions (not_off _ b.0) in
    record {
      absent = absent_of s h d p size a.0 goes.blocks_are;
      answers = sym e.0;
      borrows = eqb-true borrowed (admission s (settled h) d size).borrowed (not_off _ c.0);
      evicts = goes;
    }
comes s h w (Pin d p false) turn h0 =
    let a = passed _ _ _ h0 in
    let b = passed _ _ _ a.1 in
    (alone h turn, not_off _ a.0, none_is (worker_pin h w) b.0)
comes s h w (Pin d p true) turn h0 =
    let a = passed _ _ _ h0 in
    let b = passed _ _ _ a.1 in
    let c = passed _ _ _ b.1 in
    let copies = total (leaves_copy d p) h in
    (alone h turn, a.0, none_is (worker_pin h w) c.0, omega (arith, eqb-false copies 0 b.0))
comes s h w (Unpin d p) turn h0 =
    let a = passed _ _ _ h0 in
    (alone h turn, name_is (worker_pin h w) d p (not_off _ a.0))
comes s h w (Remove d p size) turn h0 =
    let a = passed _ _ _ h0 in
    let leaves = leaves_is h d p size (not_off _ a.0) in
    (alone h turn, leaves.0, leaves.1)
comes s h w (Grow bytes) turn h0 =
    let a = passed _ _ _ h0 in
    (alone h turn, can_grow s h w bytes a.0)

own_turn : (h : History) (w : ℕ) (e : Event) → (is_waiting h && not (follows_evictions e && is_own_turn h w)) ≡ false → is_own_turn h w ≡ true
own_turn h w (Attempt t asked moved evictions got) off = turn_is h w off
own_turn h w (Evict d p size fate) off = turn_is h w off
own_turn h w (Admit d p size level borrowed evictions) off = turn_is h w off
own_turn h w (Refused d p size borrowed evictions) off = turn_is h w off
own_turn h w _ off = turn_of_none h w (with_true (is_waiting h) off)

pub may_follow : (s : Sizes) (h : History) (entry : Entry) → first_broken s h entry ≡ None → MayFollow s h entry
may_follow s h entry none =
    let known = passed _ _ _ none in
    let turn = passed _ _ _ known.1 in
    record {
      worker_known = ltb-true entry.worker s.workers (not_off _ known.0);
      own_turn = own_turn h entry.worker entry.event turn.0;
      event = comes s h entry.worker entry.event turn.0 turn.1;
    }

-- No rule is broken where it may come

in_turn : (s : Sizes) (h : History) (w : ℕ) (e : Event) → is_own_turn h w ≡ true → MayCome s h w e → (is_waiting h && not (follows_evictions e && is_own_turn h w)) ≡ false
in_turn s h w (Attempt t asked moved evictions got) own may = is_turn h w own
in_turn s h w (Evict d p size fate) own may = is_turn h w own
in_turn s h w (Admit d p size level borrowed evictions) own may = is_turn h w own
in_turn s h w (Refused d p size borrowed evictions) own may = is_turn h w own
in_turn s h w (Begin t) own may = true_with (is_waiting h) (is_not_waiting h may.0)
in_turn s h w (Release t freed) own may = true_with (is_waiting h) (is_not_waiting h may.0)
in_turn s h w (End t freed) own may = true_with (is_waiting h) (is_not_waiting h may.0)
in_turn s h w (Pin d p false) own may = true_with (is_waiting h) (is_not_waiting h may.0)
in_turn s h w (Pin d p true) own may = true_with (is_waiting h) (is_not_waiting h may.0)
in_turn s h w (Unpin d p) own may = true_with (is_waiting h) (is_not_waiting h may.0)
in_turn s h w (Remove d p size) own may = true_with (is_waiting h) (is_not_waiting h may.0)
in_turn s h w (Grow bytes) own may = true_with (is_waiting h) (is_not_waiting h may.0)

keeps : (s : Sizes) (h : History) (w : ℕ) (e : Event) → MayCome s h w e → first_in (event_checks s h w e) ≡ None
keeps s h w (Begin t) may = passes _ _ _ (off_or (was_begun h t) (is_some (open_task h w)) may.2 (is_none (open_task h w) may.1)) refl
keeps s h w (Attempt t asked moved evictions got) may =
    passes _ _ _ (off_not _ (is_the_one (open_task h w) t may.0))
    (passes _ _ _ (is_between asked may.1.asked_some may.1.asked_small)
    (passes _ _ _ (off_not _ (is_goes h (growth s (settled h) asked).evicted evictions may.1.evicts))
    (passes _ _ _ (off_not _ (eq-eqb moved (growth s (settled h) asked).moved may.1.moves))
    (passes _ _ _ (off_not _ (is_the_answer got (answer s (settled h) t asked) may.1.answers)) refl))))
keeps s h w (Release t freed) may =
    passes _ _ _ (off_not _ (is_the_one (open_task h w) t may.1)) (passes _ _ _ (le-ltb (held h t) freed may.2) refl)
keeps s h w (End t freed) may =
    passes _ _ _ (off_not _ (is_the_one (open_task h w) t may.1)) (passes _ _ _ (off_not _ (eq-eqb freed (held h t) may.2)) refl)
keeps s h w (Evict d p size fate) may =
    let suited : suits_block fate (resident_at h d p) ≡ true = subst (λ o. suits_block fate o ≡ true) (sym may.1.resident) (is_suited fate may.0.level may.2) in
    passes _ _ _ (off_not _ (is_leaving h d p size may.0 may.1)) (passes _ _ _ (off_not _ suited) refl)
keeps s h w (Admit d p size level borrowed evictions) may =
    passes _ _ _ (absent_settled h d p may.absent)
    (passes _ _ _ (off_not _ (is_goes h (admission s (settled h) d size).evicted evictions may.evicts))
    (passes _ _ _ (off_not _ (eq-eqb borrowed (admission s (settled h) d size).borrowed may.borrows))
    (passes _ _ _ (off_not _ (sym may.answers)) refl)))
keeps s h w (Refused d p size borrowed evictions) may =
    passes _ _ _ (absent_settled h d p may.absent)
    (passes _ _ _ (off_not _ (is_goes h (admission s (settled h) d size).evicted evictions may.evicts))
    (passes _ _ _ (off_not _ (eq-eqb borrowed (admission s (settled h) d size).borrowed may.borrows))
    (passes _ _ _ (sym may.answers) refl)))
keeps s h w (Pin d p false) may = passes _ _ _ (off_not _ may.1) (passes _ _ _ (is_none (worker_pin h w) may.2) refl)
keeps s h w (Pin d p true) may =
    let copies = total (leaves_copy d p) h in
    passes _ _ _ may.1 (passes _ _ _ (ne_eqb copies 0 (omega (arith, may.3))) (passes _ _ _ (is_none (worker_pin h w) may.2) refl))
keeps s h w (Unpin d p) may = passes _ _ _ (off_not _ (is_the_name (worker_pin h w) d p may.1)) refl
keeps s h w (Remove d p size) may = passes _ _ _ (off_not _ (is_leaving h d p size may.1 may.2)) refl
keeps s h w (Grow bytes) may = passes _ _ _ (grows_well s h w bytes may.1) refl

pub breaks_none : (s : Sizes) (h : History) (entry : Entry) → MayFollow s h entry → first_broken s h entry ≡ None
breaks_none s h entry may =
    passes _ _ _ (off_not _ (lt-ltb entry.worker s.workers may.worker_known))
    (passes _ _ _ (in_turn s h entry.worker entry.event may.own_turn may.event) (keeps s h entry.worker entry.event may.event))
