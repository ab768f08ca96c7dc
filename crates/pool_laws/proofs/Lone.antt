-- A task that holds alone, where no block was ever stored, is granted what there is.
use Rattle.std.proofs.Common.{◌≡◌, ◌≢◌, ℕ, zero, suc, ◌+◌, ◌-◌, ◌≤◌, ◌<◌, min, Bool, true, false, cond, Option, Some, None, List, [], ◌∷◌, sum_by, refl, sym, ap, subst, ◌∙◌, arith, inl, inr, ◌⊎◌}
use Rattle.std.specs.List.{list_any}
use Rattle.std.specs.Prelude.{nat_eq, nat_lt, ◌&&◌}
use Rattle.std.proofs.lemmas.List.Sums.{sum_by-cons}
use Rattle.std.proofs.lemmas.Bool.{cases_Bool, cases_eq, cases_lt, and_parts, ltb-true, cond-false}
use Rattle.std.proofs.lemmas.Option.{same_Some}
use Rattle.pool_ledger.specs.Sizes.{Sizes}
use Rattle.pool_ledger.specs.History.{History, held, exec, begun, is_active, active, open_task}
use Rattle.pool_ledger.specs.Blocks.{CachesNothing}
use Rattle.pool_ledger.specs.Answers.{Moment, moment, share_of, grant_of, greatest_share, least_share, growth}
use Rattle.pool_ledger.specs.Legal.{IsPermitted}
use Rattle.pool_ledger.specs.Recorded.{IsRecorded}
use Rattle.pool_ledger.proofs.Sums.{IsDistinct, sum_by-same, sum_by-change}
use Rattle.pool_ledger.proofs.Tasks.{begun_once, untouched, open_worker_known}
use Rattle.pool_laws.specs.Laws.{IsIdle}
use Rattle.pool_laws.specs.Uncached.{moved_for, HoldsAlone, LoneTaskIsGranted}
use Rattle.pool_laws.proofs.Ends.{EndsFreeAll, ends_free_all, idle}
use Rattle.pool_laws.proofs.Passing.{holds}
use Rattle.pool_laws.proofs.Shares.{Waits}
use Rattle.pool_laws.proofs.NoBlocks.{stores_nothing}

-- Which worker has a task open

none_is_some : (o : Option ℕ) (t : ℕ) → o ≡ None → o ≡ Some t → ⊥
none_is_some o t is now = cc

is_open_at : (h : History) (t w : ℕ) (o : Option ℕ) → open_task h w ≡ o → (open_task h w ≡ Some t) ⊎ (open_task h w ≢ Some t)
is_open_at h t w None is = inr (none_is_some (open_task h w) t is)
is_open_at h t w (Some u) is = elim (cases_eq u t) [
  | inl same ↦ inl (is ∙ ap Some same)
  | inr other ↦ inr (λ now. other (same_Some u t (sym is ∙ now)))
]

-- some worker below n has the task open, or none
find_open : (h : History) (t n : ℕ) → ((w : ℕ) × (open_task h w ≡ Some t)) ⊎ ((w : ℕ) → w < n → open_task h w ≢ Some t)
find_open h t zero = inr (λ w below now. absurd (omega arith))
find_open h t (suc n) = elim (is_open_at h t n (open_task h n) refl) [
  | inl now ↦ inl (n, now)
  | inr closed ↦ elim (find_open h t n) [
    | inl found ↦ inl found
    | inr rest ↦ inr (λ w below now. elim (cases_eq w n) [
      | inl same ↦ closed (subst (λ v. open_task h v ≡ Some t) same now)
      | inr other ↦ rest w (omega arith) now
    ])
  ]
]

-- every other task is idle
others_idle : (s : Sizes) (h : History) → IsRecorded s h → EndsFreeAll h → (t : ℕ) → HoldsAlone h t → (u : ℕ) → u ≢ t → IsIdle h u
others_idle s h r ends t alone u other = elim (find_open h u s.workers) [
  | inl found ↦ alone found.0 u found.1 other
  | inr closed ↦ idle s h r ends u (λ w now. closed w (open_worker_known s h r w u now) now)
]

-- Sums of which one part is left

no_sum : (xs : List ℕ) → sum_by (λ (x : ℕ). 0) xs ≡ 0
no_sum [] = refl
no_sum (x ∷ xs) = omega (arith, sum_by-cons (λ (y : ℕ). 0) x xs, no_sum xs)

lone_sum : (f : ℕ → ℕ) (x : ℕ) (xs : List ℕ) → IsDistinct xs → (list_any (λ y. nat_eq y x) xs ≡ false → f x ≡ 0) → ((y : ℕ) → y ≢ x → f y ≡ 0) → sum_by f xs ≡ f x
lone_sum f x xs distinct absent others = elim (cases_Bool (list_any (λ y. nat_eq y x) xs)) [
  | inl there ↦ omega (arith, sum_by-change (λ (y : ℕ). 0) f x xs distinct there others, no_sum xs)
  | inr gone ↦ omega (arith, sum_by-same (λ (y : ℕ). 0) f x xs gone others, no_sum xs, absent gone)
]

abbrev mark : History → ℕ → ℕ
mark h t = cond (is_active h t) 1 0

-- what a task that holds alone makes of the sums
record IsLone (h : History) (t : ℕ) : Type 0 where
  pub exec_is : exec h ≡ held h t
  pub active_is : active h + cond {A = ℕ} (is_active h t) 0 1 ≡ 1

both_marks : (b : Bool) → cond {A = ℕ} b 1 0 + cond {A = ℕ} b 0 1 ≡ 1
both_marks true = refl
both_marks false = refl

is_lone : (s : Sizes) (h : History) → IsRecorded s h → EndsFreeAll h → (t : ℕ) → HoldsAlone h t → IsLone h t
is_lone s h r ends t alone =
    let idle_others = others_idle s h r ends t alone in
    let holds : exec h ≡ held h t = lone_sum (held h) t (begun h) (begun_once s h r) (λ new. omega (arith, (untouched s h r t new).granted)) (λ u other. (idle_others u other).nothing) in
    let marks : active h ≡ mark h t = lone_sum (mark h) t (begun h) (begun_once s h r) (λ new. cond-false {A = ℕ} (is_active h t) 1 0 (untouched s h r t new).idle) (λ u other. cond-false {A = ℕ} (is_active h u) 1 0 (idle_others u other).idle) in
    record { exec_is = holds; active_is = omega (arith, marks, both_marks (is_active h t)) }

-- The answer, over its numbers alone

share_given : (at : Moment) → (Waits at → ⊥) → share_of at ≡ Some (grant_of at)
share_given at never = elim (cases_Bool (nat_lt (grant_of at) at.asked && nat_lt (at.held + grant_of at) (least_share at))) [
  | inl short ↦ let parts = and_parts _ _ short in absurd (never (record { short = ltb-true _ _ parts.0; low = ltb-true _ _ parts.1 }))
  | inr long ↦ cond-false (nat_lt (grant_of at) at.asked && nat_lt (at.held + grant_of at) (least_share at)) None (Some (grant_of at)) long
]

-- the numbers of a task that holds alone
record IsLoneMoment (at : Moment) : Type 0 where
  pub one : at.active ≡ 1
  pub empty : at.stored ≡ 0
  pub own : at.exec ≡ at.held
  pub held_fits : at.exec ≤ at.pool
  pub pool_fits : at.pool ≤ at.maximum
  pub all_moved : at.pool - at.exec < at.asked → at.pool ≡ at.maximum

lone_greatest : (at : Moment) → IsLoneMoment at → greatest_share at ≡ at.maximum
lone_greatest at lone = rw lone.one (rw lone.empty (omega arith))

lone_least : (at : Moment) → IsLoneMoment at → least_share at ≤ at.pool
lone_least at lone = rw lone.one (omega arith)

lone_grant : (at : Moment) → IsLoneMoment at → grant_of at ≡ min at.asked (at.maximum - at.held)
lone_grant at lone = elim (cases_lt (at.pool - at.exec) at.asked) [
  | inl cut ↦ omega (arith, lone_greatest at lone, lone.own, lone.all_moved cut)
  | inr free ↦ omega (arith, lone_greatest at lone, lone.own, lone.pool_fits, free)
]

lone_share : (at : Moment) → IsLoneMoment at → share_of at ≡ Some (min at.asked (at.maximum - at.held))
lone_share at lone =
    share_given at (λ waits. absurd (omega (arith, waits.short, waits.low, lone_grant at lone, lone_least at lone, lone.pool_fits, lone.held_fits, lone.own)))
    ∙ ap Some (lone_grant at lone)

lone_moment : (s : Sizes) (h : History) → s.region ≤ s.maximum → CachesNothing h → IsPermitted s h → (t asked : ℕ) → HoldsAlone h t → IsLoneMoment (moment s h t asked)
lone_moment s h region none perm t asked alone =
    let held_now = holds s h region perm in
    let within = held_now.never in
    let lone = is_lone s h held_now.recorded (ends_free_all s h perm) t alone in
    let stores = stores_nothing s h none in
    let moved : (growth s h asked).moved ≡ moved_for s h asked = ap (λ g. g.moved) (stores.grows asked) in
    record {
      one = lone.active_is;
      empty = omega (arith, stores.no_bytes);
      own = lone.exec_is;
      held_fits = omega (arith, within.exec_fits);
      pool_fits = omega (arith, moved, within.pool_fits, stores.no_bytes);
      all_moved = λ short. omega (arith, short, moved, within.pool_fits, within.exec_fits, stores.no_bytes);
    }

pub lone_is_granted : (s : Sizes) (h : History) → s.region ≤ s.maximum → CachesNothing h → IsPermitted s h → LoneTaskIsGranted s h
lone_is_granted s h region none perm task asked alone = lone_share (moment s h task asked) (lone_moment s h region none perm task asked alone)
