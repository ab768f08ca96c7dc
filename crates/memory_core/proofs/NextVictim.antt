-- The first block that may go is the next victim: it may be evicted, and what is kept of blocks stays in step.
use Rattle.std.proofs.Common.{◌≡◌, ℕ, ◌+◌, ◌≤◌, ◌<◌, Bool, true, false, not, List, [], ◌∷◌, ◌++◌, map, Option, Some, None, is_some, refl, sym, ap, subst, ◌∙◌, inl, inr, arith}
use Rattle.std.specs.Prelude.{nat_lt, ◌==◌}
use Rattle.std.specs.List.{filter, find}
use Rattle.std.specs.Option.{option_map}
use Rattle.std.proofs.lemmas.Bool.{cases_Bool, and_parts, eq-eqb, eqb-true, ltb-false, cond-true, cond-false}
use Rattle.fault_count.specs.Faults.{Rose}
use Rattle.pool_ledger.specs.declared.entry.Fate.{Fate}
use Rattle.pool_ledger.specs.declared.entry.Fate.TheVariants.{Disk as ToDisk, Gone, NoMemory}
use Rattle.pool_ledger.specs.declared.entry.Level.{Level}
use Rattle.pool_ledger.specs.declared.entry.Level.TheVariants.{Memory as InMemory, Disk as OnDisk}
use Rattle.pool_ledger.specs.declared.entry.Event.TheVariants.{Evict}
use Rattle.pool_ledger.specs.Sizes.{Sizes}
use Rattle.pool_ledger.specs.History.{History, total}
use Rattle.pool_ledger.specs.Blocks.{Resident, evictable as evictable_by, is_excepted, is_pinned, leaves_copy}
use Rattle.pool_ledger.specs.Legal.{MayFollow, SuitsLevel}
use Rattle.pool_laws.specs.Evicting.{IsEvicting, VictimsMayGo, eviction_by}
use Rattle.eviction.specs.Victims.{is_evictable}
use Rattle.eviction.specs.declared.candidate.Candidate.{Candidate}
use Rattle.block_store.specs.Stores.{HeldBlock, candidate_of, held_at, level_at, rows_at, without}
use Rattle.block_store.specs.Copies.{copy_rows, has_copy}
use Rattle.block_store.specs.Evictions.{BeginsAtMost, KeepsOthers, WritesRows, is_name}
use Rattle.memory_core.specs.Caches.{Cache, resident_of}
use Rattle.memory_core.specs.Evictions.{Drops, EvictsInTurn, KeepsStore}
use Rattle.memory_core.specs.Steady.{IsAmid, IsInStep}
use Rattle.memory_core.proofs.Choosing.{AreFound, IsSeen, all_found, goers, goers_named, goers_seen, pinned_as_kept}
use Rattle.memory_core.proofs.Gone.{in_step_gone}

-- ---- the first that may go

-- the first of a list
abbrev first_in : {X : Type 0} → List X → Option X
first_in [] = None
first_in (x ∷ xs) = Some x

-- the first that passes is the first of those that pass
found_first : {X : Type 0} (test : X → Bool) (xs : List X) → find test xs ≡ first_in (filter test xs)
found_first test [] = refl
found_first test (x ∷ xs) = elim (cases_Bool (test x)) [
  | inl holds ↦ cond-true (test x) (Some x) (find test xs) holds ∙ sym (ap first_in (cond-true (test x) (x ∷ filter test xs) (filter test xs) holds))
  | inr fails ↦ cond-false (test x) (Some x) (find test xs) fails ∙ found_first test xs ∙ sym (ap first_in (cond-false (test x) (x ∷ filter test xs) (filter test xs) fails))
]

-- what was found passes
found_passes : {X : Type 0} (test : X → Bool) (xs : List X) (x : X) → find test xs ≡ Some x → test x ≡ true
found_passes test [] x found = absurd (cc found)
found_passes test (y ∷ ys) x found = elim (cases_Bool (test y)) [
  | inl holds ↦ let same : y ≡ x = cc (sym (cond-true (test y) (Some y) (find test ys) holds) ∙ found) in sym (ap test same) ∙ holds
  | inr fails ↦ found_passes test ys x (sym (cond-false (test y) (Some y) (find test ys) fails) ∙ found)
]

-- those that pass are found as well
found_in_part : (test : HeldBlock → Bool) (whole part : List HeldBlock) → AreFound whole part → AreFound whole (filter test part)
found_in_part test whole [] found = tt
found_in_part test whole (b ∷ bs) found = elim (cases_Bool (test b)) [
  | inl holds ↦ subst (AreFound whole) (sym (cond-true (test b) (b ∷ filter test bs) (filter test bs) holds)) (found.0, found_in_part test whole bs found.1)
  | inr fails ↦ subst (AreFound whole) (sym (cond-false (test b) (b ∷ filter test bs) (filter test bs) fails)) (found_in_part test whole bs found.1)
]

-- the block in memory that a choice gives: it is there, no pin keeps it, and it is the first that the history lets go
pub record IsNext (history : History) (cache : Cache) (except : Option ℕ) (next : Candidate) (held : HeldBlock) : Type 0 where
  pub next_is : next ≡ candidate_of held
  pub found : held_at cache.blocks held.dataset held.part ≡ Some held
  pub unpinned : held.pins ≡ 0
  pub is_first : (block : Resident) (others : List Resident) → evictable_by history except ≡ block ∷ others → block ≡ resident_of held

-- a block that may go has no pin
no_pins : (held : HeldBlock) (except : Option ℕ) → is_evictable except (candidate_of held) ≡ true → held.pins ≡ 0
no_pins held except goes =
    let none : nat_lt 0 held.pins ≡ false = isn't (nat_lt 0 held.pins) (and_parts (not (nat_lt 0 held.pins)) (not (is_excepted except held.dataset)) goes).0 in
    omega (arith, ltb-false 0 held.pins none)
  where
    isn't : (b : Bool) → not b ≡ true → b ≡ false
    isn't true h = cc h
    isn't false h = refl

module _ (history : History) (cache : Cache) (list : List Candidate) (except : Option ℕ) (seen : IsSeen cache list) (step : IsInStep history cache) where
  -- what is found is the first that may go
  first_seen : find (is_evictable except) list ≡ first_in (map candidate_of (goers except cache.blocks))
  first_seen = ap (find (is_evictable except)) seen.list_is ∙ found_first (is_evictable except) (map candidate_of cache.blocks) ∙ ap first_in (goers_seen except cache.blocks)

  -- the history lets the same blocks go
  first_named : evictable_by history except ≡ map resident_of (goers except cache.blocks)
  first_named = goers_named history cache except seen.apart step

  -- what was found is the next to go
  pub next_goes : (next : Candidate) → find (is_evictable except) list ≡ Some next → (held : HeldBlock) × IsNext history cache except next held
  next_goes next is = with_goers (goers except cache.blocks) (sym first_seen ∙ is) first_named (found_in_part (λ held. is_evictable except (candidate_of held)) cache.blocks cache.blocks (all_found cache.blocks seen.apart))
    where
      with_goers : (go : List HeldBlock) → first_in (map candidate_of go) ≡ Some next → evictable_by history except ≡ map resident_of go → AreFound cache.blocks go → (held : HeldBlock) × IsNext history cache except next held
      with_goers [] first named found = absurd (cc first)
      with_goers (b ∷ bs) first named found =
          let same : next ≡ candidate_of b = cc first in (
            b,
            record {
              next_is = same;
              found = found.0;
              unpinned = no_pins b except (sym (ap (is_evictable except) same) ∙ found_passes (is_evictable except) list next is);
              is_first = λ block others shown. cc (sym shown ∙ named);
            },
          )

  -- one goes where the history lets one go
  pub some_goes : (block : Resident) (others : List Resident) → evictable_by history except ≡ block ∷ others → find (is_evictable except) list ≡ None → ⊥
  some_goes block others shown none = with_goers (goers except cache.blocks) (sym first_seen ∙ none) (sym shown ∙ first_named)
    where
      with_goers : (go : List HeldBlock) → first_in (map candidate_of go) ≡ None → block ∷ others ≡ map resident_of go → ⊥
      with_goers [] first named = cc named
      with_goers (b ∷ bs) first named = cc first

-- ---- what a store does with it

-- a block was put out of memory, as a store does it
pub record IsPutOut (dataset part : ℕ) (fate : Fate) (before after : Cache) : Type 0 where
  pub blocks : after.blocks ≡ without dataset part before.blocks
  pub memory : level_at before.blocks dataset part ≡ Some InMemory → (fate ≡ Gone) × KeepsStore before after
  pub copied : level_at before.blocks dataset part ≡ Some OnDisk → has_copy before.copies dataset part ≡ true → (fate ≡ ToDisk) × KeepsStore before after
  pub gone : level_at before.blocks dataset part ≡ Some OnDisk → fate ≡ Gone → Rose before.faults after.faults
  pub copy : fate ≡ ToDisk → has_copy after.copies dataset part ≡ true
  pub rows : fate ≡ ToDisk → has_copy before.copies dataset part ≡ false → is_some before.files ≡ true
      → copy_rows after.files after.copies dataset part ≡ rows_at before.blocks dataset part
  pub lost : (fate ≡ ToDisk → ⊥) → after.copies ≡ before.copies
  pub written : fate ≡ ToDisk → has_copy before.copies dataset part ≡ false → WritesRows before.files after.files (rows_at before.blocks dataset part)
  pub begun : (fate ≡ ToDisk → ⊥) → BeginsAtMost before.files after.files
  pub others : KeepsOthers dataset part before.files before.copies after.files after.copies
  pub tells : is_some after.files ≡ is_some before.files
  pub later : before.faults ≤ after.faults

-- a fate suits a level where a block of level memory is dropped
suits : (fate : Fate) (level : Level) → (level ≡ InMemory → fate ≡ Gone) → SuitsLevel fate level
suits Gone level dropped = tt
suits ToDisk InMemory dropped = absurd (cc (dropped refl))
suits ToDisk OnDisk dropped = tt
suits NoMemory InMemory dropped = absurd (cc (dropped refl))
suits NoMemory OnDisk dropped = tt

-- an eviction to disk leaves a copy of its block
copied_here : (d p e q size : ℕ) → is_name d p e q ≡ true → leaves_copy e q (Evict d p size ToDisk) ≡ 1
copied_here d p e q size same =
    let parts = and_parts (e == d) (q == p) same in
    rw (eq-eqb d e (sym (eqb-true e d parts.0)), eq-eqb p q (sym (eqb-true q p parts.1))) refl

module _ (history : History) (before after : Cache) (except : Option ℕ) (next : Candidate) (fate : Fate)
    (held : HeldBlock) (goes : IsNext history before except next held) (out : IsPutOut held.dataset held.part fate before after) where
  -- its level in memory
  level_of : (level : Level) → held.level ≡ level → level_at before.blocks held.dataset held.part ≡ Some level
  level_of level is = ap (option_map (λ (h : HeldBlock). h.level)) goes.found ∙ ap Some is

  -- it was dropped as an eviction drops it
  drops : Drops (resident_of held) fate before after
  drops = record {
    blocks = out.blocks;
    memory = λ is. out.memory (level_of InMemory is);
    copied = λ is has. out.copied (level_of OnDisk is) has;
    gone = λ is lost. out.gone (level_of OnDisk is) lost;
    copy = out.copy;
    rows = out.rows;
    lost = out.lost;
    written = out.written;
    begun = out.begun;
    others = out.others;
    tells = out.tells;
    later = out.later;
  }

  -- its fate suits its level
  suits_level : SuitsLevel fate held.level
  suits_level = suits fate held.level (λ is. (out.memory (level_of InMemory is)).0)

  -- where all was in step before
  module _ (step : IsInStep history before) where
    -- the history has no pin of it
    not_pinned : is_pinned history held.dataset held.part ≡ false
    not_pinned = pinned_as_kept history before.blocks step.pins held goes.found ∙ ap (nat_lt 0) goes.unpinned

    -- each copy was left by an eviction before, or by this one
    copies_left : (f : Fate) → fate ≡ f → (e q : ℕ) → has_copy after.copies e q ≡ true → 0 < total (leaves_copy e q) history + leaves_copy e q (Evict held.dataset held.part held.size f)
    copies_left Gone is e q has = omega (arith, step.copies e q (sym (ap (λ copies. has_copy copies e q) (out.lost (λ copied. cc (sym is ∙ copied)))) ∙ has))
    copies_left NoMemory is e q has = omega (arith, step.copies e q (sym (ap (λ copies. has_copy copies e q) (out.lost (λ copied. cc (sym is ∙ copied)))) ∙ has))
    copies_left ToDisk is e q has = elim (cases_Bool (is_name held.dataset held.part e q)) [
      | inl same ↦ omega (arith, copied_here held.dataset held.part e q held.size same)
      | inr other ↦ omega (arith, step.copies e q (sym (out.others e q other).0 ∙ has))
    ]

    -- what is kept of blocks stays in step
    step_on : (worker : ℕ) → IsInStep (eviction_by worker (resident_of held) fate ∷ history) after
    step_on worker =
        in_step_gone history (eviction_by worker (resident_of held) fate) held.dataset held.part before after step not_pinned refl
        (λ e q. omega arith)
        (λ e q. omega arith)
        out.blocks
        (λ e q has. copies_left fate refl e q has)

-- what follows: its eviction may come next, the state stays in step, and whichever victims are left, it was the first of them
pub record IsFollowed (setup : Sizes) (history : History) (before after : Cache) (worker : ℕ) (except : Option ℕ) (held : HeldBlock) (fate : Fate) : Type 0 where
  pub may : MayFollow setup history (eviction_by worker (resident_of held) fate)
  pub amid : IsAmid setup (eviction_by worker (resident_of held) fate ∷ history) after
  pub evicts : (base : History) (gone left : List Resident) (block : Resident) → IsEvicting history base worker except gone (block ∷ left)
      → EvictsInTurn worker (block ∷ []) history before (eviction_by worker (resident_of held) fate ∷ history) after
      × IsEvicting (eviction_by worker (resident_of held) fate ∷ history) base worker except (gone ++ block ∷ []) left

module _ (setup : Sizes) (history : History) (before after : Cache) (worker : ℕ) (except : Option ℕ) (next : Candidate) (fate : Fate)
    (held : HeldBlock) (goes : IsNext history before except next held) (out : IsPutOut held.dataset held.part fate before after)
    (may : VictimsMayGo setup) (amid : IsAmid setup history before) (known : worker < setup.workers) where
  -- the first of the victims that are left is this block, and it may go
  by_law : (base : History) (gone left : List Resident) (block : Resident) → IsEvicting history base worker except gone (block ∷ left)
      → (block ≡ resident_of held) × MayFollow setup history (eviction_by worker block fate) × IsEvicting (eviction_by worker block fate ∷ history) base worker except (gone ++ block ∷ []) left
  by_law base gone left block evicting =
      let same : block ≡ resident_of held = goes.is_first block (left ++ evicting.behind) evicting.left_first in
      let suits_it = subst (λ (b : Resident). SuitsLevel fate b.level) (sym same) (suits_level history before after except next fate held goes out) in
      let law = may history base worker except gone left block fate amid.permitted known evicting suits_it in
      (same, law.0, law.1)

  -- where some victims are left
  pub followed : (base : History) × (gone left : List Resident) × (block : Resident) × IsEvicting history base worker except gone (block ∷ left)
      → IsFollowed setup history before after worker except held fate
  followed some =
      let first = by_law some.0 some.1 some.2 some.3 some.4 in
      let may_it = subst (λ (b : Resident). MayFollow setup history (eviction_by worker b fate)) first.0 first.1 in
      record {
        may = may_it;
        amid = record { range = amid.range; permitted = (amid.permitted, may_it); in_step = step_on history before after except next fate held goes out amid.in_step worker };
        evicts = λ base gone left block evicting.
            let law = by_law base gone left block evicting in
            let drops_it = subst (λ (b : Resident). Drops b fate before after) (sym law.0) (drops history before after except next fate held goes out) in (
              (fate, after, drops_it, (ap (λ (b : Resident). eviction_by worker b fate ∷ history) (sym law.0), refl)),
              subst (λ (b : Resident). IsEvicting (eviction_by worker b fate ∷ history) base worker except (gone ++ block ∷ []) left) law.0 law.2,
            );
      }
