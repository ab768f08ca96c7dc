-- What a growth moves, and the laws of the answer over histories that are sound.
use Rattle.std.proofs.Common.{◌≡◌, ℕ, ◌+◌, ◌-◌, ◌*◌, ◌≤◌, ◌<◌, min, Bool, true, false, cond, not, ◌&&◌, Option, None, List, [], ◌∷◌, sum_by, unwrap_or, refl, ap, arith, inl, inr}
use Rattle.std.specs.Prelude.{nat_eq, if◌then◌else◌}
use Rattle.std.specs.Option.{IsSome}
use Rattle.std.proofs.Math.Nat.{mul-le-mul_left}
use Rattle.std.proofs.lemmas.List.Sums.{sum_by-cons}
use Rattle.std.proofs.lemmas.Bool.{cases_Bool, cases_eq, eq-eqb, ne_eqb, cond-true, cond-false}
use Rattle.pool_ledger.specs.Sizes.{Sizes}
use Rattle.pool_ledger.specs.History.{History, held, exec, begun, is_active, active, maximum, execution_pool, storage_pool, execution_free}
use Rattle.pool_ledger.specs.Blocks.{Resident, residents, stored, sizes, storage_free, evictable, victims, front_reaching, is_pinned, is_excepted}
use Rattle.pool_ledger.specs.Answers.{growth, evicted_for, target_of, moment}
use Rattle.pool_laws.specs.Laws.{active_with, GreatestNeverWaits, ShortGrantsKeepFloor}
use Rattle.pool_ledger.proofs.Fronts.{IsFront, front_cases, front_within, sizes-filter-le}
use Rattle.pool_laws.proofs.Shares.{share_none, share_some, never_waits, keeps_floor}

-- what holds after every permitted history: nobody holds more than there is, tasks that aren't active hold nothing,
-- and the blocks that can't be evicted fit the region
pub record IsSound (setup : Sizes) (history : History) : Type 0 where
  pub pool_fits : execution_pool setup history ≤ maximum setup history
  pub exec_fits : exec history ≤ execution_pool setup history
  pub stored_fits : stored history ≤ storage_pool setup history
  pub idle_nothing : (task : ℕ) → is_active history task ≡ false → held history task ≡ 0
  pub active_counted : (task : ℕ) → is_active history task ≡ true → 1 ≤ active history
  pub pins_fit : stored history ≤ setup.region + sizes (evictable history None)

abbrev size_of : Resident → ℕ
size_of block = block.size

-- the blocks that are evicted are blocks in memory
pub victims_within : (h : History) (need : ℕ) (except : Option ℕ) → sizes (if nat_eq need 0 then [] else unwrap_or (victims h need except) []) ≤ stored h
victims_within h need except = elim (cases_Bool (nat_eq need 0)) [
  | inl none ↦ rw (cond-true (nat_eq need 0) [] (unwrap_or (victims h need except) []) none) (omega arith)
  | inr some ↦ rw (cond-false (nat_eq need 0) [] (unwrap_or (victims h need except) []) some) (omega (arith, front_within size_of need (evictable h except), sizes-filter-le size_of (λ block. not (is_pinned h block.dataset block.part) && not (is_excepted except block.dataset)) (residents h)))
]

evicted_front : (h : History) (need : ℕ) → need ≤ sizes (evictable h None) → IsFront size_of need (evictable h None) (evicted_for h need)
evicted_front h need reach = elim (cases_eq need 0) [
  | inl none ↦ rw (cond-true (nat_eq need 0) [] (unwrap_or (victims h need None) []) (eq-eqb need 0 none)) (record { enough = omega arith; within = omega arith })
  | inr some ↦
      let found = front_cases size_of need (evictable h None) reach in
      rw (cond-false (nat_eq need 0) [] (unwrap_or (victims h need None) []) (ne_eqb need 0 some), found.1) found.2
]

-- what a growth is good for
pub record GrowsWell (setup : Sizes) (h : History) (asked : ℕ) (target : ℕ) : Type 0 where
  pub enough : target ≤ (growth setup h asked).moved
  pub fits : (growth setup h asked).moved ≤ storage_free setup h + sizes (growth setup h asked).evicted
  pub evicted_fit : sizes (growth setup h asked).evicted ≤ stored h

abbrev target_at : Sizes → History → ℕ → ℕ
target_at setup h asked = target_of asked (execution_free setup h) (storage_pool setup h) (storage_free setup h) setup.region

grows_well : (s : Sizes) (h : History) (asked : ℕ) → IsSound s h → GrowsWell s h asked (target_at s h asked)
grows_well s h asked sound =
    let free = storage_free s h in
    let target = target_at s h asked in
    let need = target - min target free in
    let reach : need ≤ sizes (evictable h None) = omega (arith, sound.pins_fit, sound.stored_fits) in
    let front = evicted_front h need reach in
    record {
      enough = omega (arith, front.enough);
      fits = omega arith;
      evicted_fit = omega (arith, front.within, sizes-filter-le size_of (λ block. not (is_pinned h block.dataset block.part) && not (is_excepted None block.dataset)) (residents h));
    }

front_is_found : (need : ℕ) (xs : List Resident) → need ≤ sizes xs → IsSome (front_reaching size_of need xs)
front_is_found need xs reach = rw (front_cases size_of need xs reach).1 refl

-- the victims of an ask are found
pub victims_found : (s : Sizes) (h : History) (asked : ℕ) → IsSound s h → IsSome (victims h (growth s h asked).need None)
victims_found s h asked sound =
    let free = storage_free s h in
    let target = target_at s h asked in
    let need = target - min target free in
    let reach : need ≤ sizes (evictable h None) = omega (arith, sound.pins_fit, sound.stored_fits) in
    front_is_found need (evictable h None) reach

abbrev mark_by : (ℕ → Bool) → ℕ → ℕ
mark_by p x = cond (p x) 1 0

-- what no active task passes bounds the sum
sum_by-le-times : (f : ℕ → ℕ) (p : ℕ → Bool) (m : ℕ) (xs : List ℕ) → ((x : ℕ) → f x ≤ mark_by p x * m) → sum_by f xs ≤ sum_by (mark_by p) xs * m
sum_by-le-times f p m [] each = omega arith
sum_by-le-times f p m (x ∷ xs) each = omega (arith, sum_by-cons f x xs, ap (λ v. v * m) (sum_by-cons (mark_by p) x xs), sum_by-le-times f p m xs each, each x)

held_small : (h : History) (m : ℕ) (x : ℕ) → (is_active h x ≡ false → held h x ≡ 0) → (is_active h x ≡ true → held h x ≤ m) → held h x ≤ mark_by (is_active h) x * m
held_small h m x nothing most = elim (cases_Bool (is_active h x)) [
  | inl on ↦ rw (cond-true {A = ℕ} (is_active h x) 1 0 on) (omega (arith, most on))
  | inr off ↦ omega (arith, nothing off)
]

some_active : (s : Sizes) (h : History) (task : ℕ) → IsSound s h → 0 < active_with h task
some_active s h task sound = elim (cases_Bool (is_active h task)) [
  | inl on ↦ omega (arith, sound.active_counted task on)
  | inr off ↦ rw (cond-false {A = ℕ} (is_active h task) 0 1 off) (omega arith)
]

pub greatest_never_waits : (s : Sizes) (h : History) → IsSound s h → GreatestNeverWaits s h
greatest_never_waits s h sound task asked most is =
    let grown = grows_well s h asked sound in
    let waits = share_none (moment s h task asked) is in
    let sum : exec h ≤ active h * held h task = sum_by-le-times (held h) (is_active h) (held h task) (begun h) (λ x. held_small h (held h task) x (sound.idle_nothing x) (most x)) in
    let n = active_with h task in
    let more : held h task * active h ≤ held h task * n = mul-le-mul_left (held h task) (omega arith) in
    never_waits (moment s h task asked) (some_active s h task sound) (omega (arith, grown.fits, grown.evicted_fit, sound.stored_fits, sound.pool_fits)) (omega (arith, sum, more)) waits

pub short_grants_keep_floor : (s : Sizes) (h : History) → s.region ≤ s.maximum → IsSound s h → ShortGrantsKeepFloor s h
short_grants_keep_floor s h region sound task asked granted few is short =
    let grown = grows_well s h asked sound in
    let grants = share_some (moment s h task asked) granted is in
    keeps_floor (moment s h task asked) (s.maximum - s.region) s.workers granted (some_active s h task sound) few (omega (arith, region)) (λ cut. omega (arith, cut, grown.enough, sound.exec_fits, sound.pool_fits, sound.stored_fits)) grants short
