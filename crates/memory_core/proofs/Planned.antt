-- Evictions from a state whose journal got room before.
use Rattle.std.proofs.Common.{◌≡◌, ℕ, ◌+◌, ◌∷◌, [], Bool, true, false, not, ◌&&◌, Option, Some, None, List, refl, sym, ap, subst, ◌∙◌, inl, inr, arith}
use Rattle.std.specs.Prelude.{◌==◌, is_some, nat_lt, take, length}
use Rattle.std.specs.List.{find, list_any}
use Rattle.std.specs.Option.{option_map_or}
use Rattle.std.proofs.lemmas.Bool.{cases_Bool, lt-ltb, ltb-true, true≢false}
use Rattle.pool_ledger.specs.declared.entry.Entry.{Entry}
use Rattle.pool_ledger.specs.declared.entry.Event.TheVariants.{Attempt, Admit, Refused}
use Rattle.pool_ledger.specs.declared.entry.Level.{Level}
use Rattle.pool_ledger.specs.Sizes.{Sizes}
use Rattle.pool_ledger.specs.History.{History, total}
use Rattle.pool_ledger.specs.Blocks.{Resident, evictable, is_pinned, pin_of, unpin_of}
use Rattle.pool_ledger.specs.Answers.{admission, answer, growth}
use Rattle.pool_ledger.specs.Journal.{journal_of}
use Rattle.pool_ledger.specs.Legal.{MayFollow, pending}
use Rattle.pool_ledger.specs.Workers.{Continues}
use Rattle.pool_laws.specs.Growing.{entry_by}
use Rattle.pool_laws.specs.Evicting.{IsEvicting, evicting_attempt_by}
use Rattle.block_store.specs.Stores.{HeldBlock, held_at, is_held, pins_at}
use Rattle.block_store.proofs.Places.{any_parts}
use Rattle.memory_core.specs.Caches.{Cache}
use Rattle.memory_core.specs.Changes.{HasPinnedAlone, may_be_removed}
use Rattle.memory_core.specs.Evictions.{EvictsInTurn, admission_by, refusal_by}
use Rattle.memory_core.specs.Steady.{GoesSteadily, IsAmid, IsInStep, IsSteady, owed}
use Rattle.memory_core.proofs.Fitting.{found_passes}
use Rattle.memory_core.proofs.RowsFound.{None≢Some, and_left, same_Some}
use Rattle.memory_core.proofs.Going.{goes_on_nothing}
use Rattle.memory_core.proofs.Stepping.{resident_is}

-- the same evictions, from the state before
pub record Turned (base : History) (had : Cache) (worker : ℕ) (except : Option ℕ) (blocks : List Resident) (amid : History) (has : Cache) : Type 0 where
  pub gone : EvictsInTurn worker blocks base had amid has
  pub evicting : IsEvicting amid base worker except blocks []

pub turned : (base begun : History) (had kept : Cache) (worker : ℕ) (except : Option ℕ) (count : ℕ) (blocks : List Resident) (amid : History) (has : Cache)
    → begun ≡ base → kept ≡ had → take count (evictable base except) ≡ blocks
    → EvictsInTurn worker (take count (evictable begun except)) begun kept amid has → IsEvicting amid begun worker except (take count (evictable begun except)) []
    → Turned base had worker except blocks amid has
turned base begun had kept worker except count blocks amid has b k first gone evicting =
    let chosen : take count (evictable begun except) ≡ blocks = ap (λ (h : History). take count (evictable h except)) b ∙ first in
    record {
      gone = subst (λ (h : History). EvictsInTurn worker blocks h had amid has) b
          (subst (λ (c : Cache). EvictsInTurn worker blocks begun c amid has) k (subst (λ (bs : List Resident). EvictsInTurn worker bs begun kept amid has) chosen gone));
      evicting = subst (λ (h : History). IsEvicting amid h worker except blocks []) b (subst (λ (bs : List Resident). IsEvicting amid begun worker except bs []) chosen evicting);
    }

-- what the evictions of an ask leave: they are those of its growth, and its attempt may follow
pub record MayAttempt (setup : Sizes) (base : History) (had : Cache) (worker task asked : ℕ) (amid : History) (has : Cache) : Type 0 where
  pub gone : EvictsInTurn worker (growth setup base asked).evicted base had amid has
  pub may : MayFollow setup amid (evicting_attempt_by setup base worker task asked)
  pub goes : GoesSteadily setup base (evicting_attempt_by setup base worker task asked ∷ amid) worker 0 0

-- the entry of a plan
pub attempt_entry : (setup : Sizes) (base : History) (worker task asked moved evictions : ℕ) (got : Option ℕ)
    → moved ≡ (growth setup base asked).moved → evictions ≡ length (growth setup base asked).evicted → got ≡ answer setup base task asked
    → entry_by worker (Attempt task asked moved evictions got) ≡ evicting_attempt_by setup base worker task asked
attempt_entry setup base worker task asked moved evictions got m e g =
    ap (λ (v : ℕ). entry_by worker (Attempt task asked v evictions got)) m ∙ ap (λ (v : ℕ). entry_by worker (Attempt task asked (growth setup base asked).moved v got)) e
    ∙ ap (λ (v : Option ℕ). entry_by worker (Attempt task asked (growth setup base asked).moved (length (growth setup base asked).evicted) v)) g

-- the numbers are those that the rules give a block
pub record IsPlan (setup : Sizes) (base : History) (dataset size : ℕ) (admitted : Bool) (borrowed evictions : ℕ) : Type 0 where
  pub admitted_is : admitted ≡ (admission setup base dataset size).admitted
  pub borrowed_is : borrowed ≡ (admission setup base dataset size).borrowed
  pub evictions_is : evictions ≡ length (admission setup base dataset size).evicted
  pub first : take evictions (evictable base (Some dataset)) ≡ (admission setup base dataset size).evicted

pub admit_entry : (setup : Sizes) (base : History) (worker dataset part size : ℕ) (level : Level) (borrowed evictions : ℕ)
    → borrowed ≡ (admission setup base dataset size).borrowed → evictions ≡ length (admission setup base dataset size).evicted
    → entry_by worker (Admit dataset part size level borrowed evictions) ≡ admission_by setup base worker dataset part size level
admit_entry setup base worker dataset part size level borrowed evictions b e =
    ap (λ (v : ℕ). entry_by worker (Admit dataset part size level v evictions)) b ∙ ap (λ (v : ℕ). entry_by worker (Admit dataset part size level (admission setup base dataset size).borrowed v)) e

pub refusal_entry : (setup : Sizes) (base : History) (worker dataset part size borrowed evictions : ℕ)
    → borrowed ≡ (admission setup base dataset size).borrowed → evictions ≡ length (admission setup base dataset size).evicted
    → entry_by worker (Refused dataset part size borrowed evictions) ≡ refusal_by setup base worker dataset part size
refusal_entry setup base worker dataset part size borrowed evictions b e =
    ap (λ (v : ℕ). entry_by worker (Refused dataset part size v evictions)) b ∙ ap (λ (v : ℕ). entry_by worker (Refused dataset part size (admission setup base dataset size).borrowed v)) e

-- an entry that may follow is the one that was planned
pub may_planned : (setup now : Sizes) (history : History) (entry planned : Entry) → now ≡ setup → entry ≡ planned → MayFollow setup history planned → MayFollow now history entry
may_planned setup now history entry planned s e may = subst (λ (v : Sizes). MayFollow v history entry) (sym s) (subst (λ (v : Entry). MayFollow setup history v) (sym e) may)

-- the history after it
pub history_planned : (amid after : History) (entry planned : Entry) → after ≡ entry ∷ amid → entry ≡ planned → after ≡ planned ∷ amid
history_planned amid after entry planned a e = a ∙ ap (λ (v : Entry). v ∷ amid) e

-- the state goes on, as its fields show it
pub goes_inside : (setup inside now : Sizes) (base begun planned after : History) (cache : Cache) (worker kept : ℕ) → now ≡ setup → inside ≡ setup → begun ≡ base → after ≡ planned
    → IsAmid now after cache → GoesSteadily setup base planned worker 0 0 → kept ≡ owed inside.workers begun
    → IsSteady now after cache × (kept ≡ owed now.workers after)
goes_inside setup inside now base begun planned after cache worker kept n i b a amid goes owes =
    let at_base : kept ≡ owed setup.workers base = owes ∙ ap (λ (s : Sizes). owed s.workers begun) i ∙ ap (owed setup.workers) b in
    let at_after : owed now.workers after ≡ owed setup.workers planned = ap (λ (s : Sizes). owed s.workers after) n ∙ ap (owed setup.workers) a in
    (record { amid = amid; whole = ap pending a ∙ goes.whole }, omega (arith, at_base, at_after, goes.owed_is))

pub own_planned : (setup : Sizes) (base planned after : History) (worker was next : ℕ) → after ≡ planned → GoesSteadily setup base planned worker was next → Continues worker (journal_of base) (journal_of after)
own_planned setup base planned after worker was next a goes = subst (λ (h : History). Continues worker (journal_of base) (journal_of h)) (sym a) goes.own

-- the same of an event that may change what the worker owes
pub record SteadyAfter (setup now : Sizes) (base after : History) (cache : Cache) (was next : ℕ) : Type 0 where
  pub steady : IsSteady now after cache
  pub owed_is : owed now.workers after + was ≡ owed setup.workers base + next

pub steady_after : (setup now : Sizes) (base planned after : History) (cache : Cache) (worker was next : ℕ) → IsAmid now after cache → now ≡ setup → after ≡ planned
    → GoesSteadily setup base planned worker was next → SteadyAfter setup now base after cache was next
steady_after setup now base planned after cache worker was next amid n a goes =
    let at_after : owed now.workers after ≡ owed setup.workers planned = ap (λ (s : Sizes). owed s.workers after) n ∙ ap (owed setup.workers) a in
    record { steady = record { amid = amid; whole = ap pending a ∙ goes.whole }; owed_is = omega (arith, at_after, goes.owed_is) }

-- where nothing was added, what was added is the worker's own
pub own_same : (worker : ℕ) (base after : History) → after ≡ base → Continues worker (journal_of base) (journal_of after)
own_same worker base after a = subst (λ (h : History). Continues worker (journal_of base) (journal_of h)) (sym a) (goes_on_nothing worker base)

-- ---- blocks that are left

found_fails : {X : Type 0} (test other : X → Bool) (xs : List X) (x : X) → find test xs ≡ Some x → list_any other xs ≡ false → other x ≡ false
found_fails test other [] x is none = absurd (None≢Some is)
found_fails test other (y ∷ ys) x is none = elim (cases_Bool (test y)) [
  | inl passes ↦ ap other (sym (same_Some (sym (rw (passes) refl) ∙ is))) ∙ (any_parts other y ys none).0
  | inr fails ↦ found_fails test other ys x (sym (rw (fails) refl) ∙ is) (any_parts other y ys none).1
]

-- where no block of the dataset may be removed, each that is left is pinned
pub pinned_alone : (dataset : ℕ) (history : History) (cache : Cache) → IsInStep history cache → list_any (may_be_removed dataset) cache.blocks ≡ false → HasPinnedAlone dataset history
pinned_alone dataset history cache step none part resident = at_block (held_at cache.blocks dataset part) refl
  where
    kept_of : (a b : Bool) → a ≡ true → (a && not b) ≡ false → b ≡ true
    kept_of true true is fails = refl
    kept_of true false is fails = absurd (true≢false fails)
    kept_of false b is fails = absurd (true≢false (sym is))

    at_block : (o : Option HeldBlock) → held_at cache.blocks dataset part ≡ o → is_pinned history dataset part ≡ true
    at_block None is = absurd (true≢false (sym resident ∙ resident_is history cache dataset part step ∙ ap is_some is))
    at_block (Some held) is =
        let named : held.dataset == dataset ≡ true = and_left (held.dataset == dataset) (held.part == part) (found_passes (is_held dataset part) cache.blocks held is) in
        let kept : nat_lt 0 held.pins ≡ true = kept_of (held.dataset == dataset) (nat_lt 0 held.pins) named (found_fails (is_held dataset part) (may_be_removed dataset) cache.blocks held is none) in
        let pins : pins_at cache.blocks dataset part ≡ held.pins = ap (λ (o : Option HeldBlock). option_map_or (λ (h : HeldBlock). h.pins) o 0) is in
        lt-ltb (total (unpin_of dataset part) history) (total (pin_of dataset part) history) (omega (arith, step.pins dataset part, pins, ltb-true 0 held.pins kept))
