-- Histories in which no block was ever stored.
use Rattle.std.proofs.Common.{◌≡◌, ℕ, ◌+◌, ◌-◌, min, max, true, false, Option, Some, None, [], ◌∷◌, refl, ap, arith}
use Rattle.std.specs.Prelude.{nat_eq, if◌then◌else◌}
use Rattle.pool_ledger.specs.declared.entry.Event.{Event}
use Rattle.pool_ledger.specs.declared.entry.Event.TheVariants.{Begin, Attempt, Release, End, Evict, Admit, Refused, Pin, Unpin, Remove, Grow}
use Rattle.pool_ledger.specs.Sizes.{Sizes}
use Rattle.pool_ledger.specs.History.{History, storage_pool, execution_free}
use Rattle.pool_ledger.specs.Blocks.{Resident, residents, residents_after, CachesNothing, sizes, stored, storage_free, victims}
use Rattle.pool_ledger.specs.Answers.{Growth, growth, evicted_for, target_of}
use Rattle.pool_ledger.specs.Legal.{pending, MayCome, MayLeave, IsPermitted, IsLegal}
use Rattle.pool_ledger.proofs.Tasks.{entry_of}
use Rattle.pool_laws.specs.Uncached.{moved_for, StoresNothing, MayAlwaysAttempt}
use Rattle.pool_laws.proofs.NextEntries.{grows}

cached_before : (h : History) (v : ℕ) (e : Event) → CachesNothing (entry_of v e ∷ h) → CachesNothing h
cached_before h v e none = omega (arith, none)

no_block-more : (h : History) (v : ℕ) (e : Event) → CachesNothing (entry_of v e ∷ h) → residents h ≡ [] → residents_after e (residents h) ≡ []
no_block-more h v (Begin task) none before = before
no_block-more h v (Attempt task asked moved evictions got) none before = before
no_block-more h v (Release task freed) none before = before
no_block-more h v (End task freed) none before = before
no_block-more h v (Evict d p size fate) none before = ap (residents_after (Evict d p size fate)) before
no_block-more h v (Admit d p size level borrowed evictions) none before = absurd (omega (arith, none))
no_block-more h v (Refused d p size borrowed evictions) none before = before
no_block-more h v (Pin d p true) none before = before
no_block-more h v (Pin d p false) none before = ap (residents_after (Pin d p false)) before
no_block-more h v (Unpin d p) none before = before
no_block-more h v (Remove d p size) none before = ap (residents_after (Remove d p size)) before
no_block-more h v (Grow bytes) none before = before

pub no_block : (h : History) → CachesNothing h → residents h ≡ []
no_block [] none = refl
no_block (entry ∷ h) none = no_block-more h entry.worker entry.event none (no_block h (cached_before h entry.worker entry.event none))

no_bytes : (h : History) → CachesNothing h → stored h ≡ 0
no_bytes h none = ap sizes (no_block h none)

no_victims : (h : History) (need : ℕ) (except : Option ℕ) → CachesNothing h → victims h need except ≡ (if nat_eq need 0 then Some [] else None)
no_victims h need except none = rw (no_block h none) refl

-- what moves where all that is taken is free
taken_free : (asked free pool region : ℕ) → min (min (asked - free) (max pool (pool - region))) pool ≡ min (asked - free) pool
taken_free asked free pool region = omega arith

need_none : (asked free pool region : ℕ) → min (asked - free) (max pool (pool - region)) - min (min (asked - free) (max pool (pool - region))) pool ≡ 0
need_none asked free pool region = omega arith

-- the growth, where no block is evicted
abbrev free_growth : ℕ → Growth
free_growth moved = record { unused = moved; need = 0; evicted = []; moved = moved }

free_growth-is : (h : History) (target unused moved : ℕ) → unused ≡ moved → target - unused ≡ 0 → (record { unused = unused; need = target - unused; evicted = evicted_for h (target - unused); moved = unused + sizes (evicted_for h (target - unused)) }) ≡ free_growth moved
free_growth-is h target unused moved is none = rw (none, is) (ap (λ n. record { unused = moved; need = 0; evicted = []; moved = n }) (omega arith))

uncached_growth : (s : Sizes) (h : History) (asked : ℕ) → CachesNothing h → growth s h asked ≡ free_growth (moved_for s h asked)
uncached_growth s h asked none =
    let free = execution_free s h in
    let pool = storage_pool s h in
    let at = storage_free s h in
    let target = target_of asked free pool at s.region in
    let all : at ≡ pool = omega (arith, no_bytes h none) in
    free_growth-is h target (min target at) (moved_for s h asked) (omega (arith, all)) (omega (arith, all))

pub stores_nothing : (s : Sizes) (h : History) → CachesNothing h → StoresNothing s h
stores_nothing s h none = record {
  no_block = no_block h none;
  no_bytes = no_bytes h none;
  no_victims = λ need except. no_victims h need except none;
  grows = λ asked. uncached_growth s h asked none;
}

-- there is no eviction
none_leaves : (h : History) (d p size : ℕ) (block : Resident) → residents h ≡ [] → MayLeave h d p size block → ⊥
none_leaves h d p size block none may = let found = rw none at may.resident in cc

no_pending-more : (s : Sizes) (h : History) (v : ℕ) (e : Event) → residents h ≡ [] → MayCome s h v e → pending (entry_of v e ∷ h) ≡ []
no_pending-more s h v (Evict d p size fate) none may = absurd (none_leaves h d p size may.0 none may.1)
no_pending-more s h v _ none may = refl

pub no_pending : (s : Sizes) (h : History) → CachesNothing h → IsPermitted s h → pending h ≡ []
no_pending s [] none perm = refl
no_pending s (entry ∷ h) none perm = no_pending-more s h entry.worker entry.event (no_block h (cached_before h entry.worker entry.event none)) perm.1.event

pub may_always_attempt : (s : Sizes) (h : History) → CachesNothing h → IsLegal s h → MayAlwaysAttempt s h
may_always_attempt s h none legal w t asked known now some small =
    (grows s h legal).attempts w t asked known now some small (ap (λ (g : Growth). g.evicted) (uncached_growth s h asked none))
