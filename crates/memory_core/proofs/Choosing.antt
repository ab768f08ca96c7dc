-- What a choice sees in the list of blocks is what the history names: the residents, and those of them that may go.
use Rattle.std.proofs.Common.{◌≡◌, ℕ, ◌+◌, ◌≤◌, Bool, true, false, not, ◌&&◌, List, [], ◌∷◌, map, length, Option, Some, refl, sym, ap, subst, ◌∙◌, inl, inr, arith}
use Rattle.std.specs.Prelude.{nat_lt, ⊤}
use Rattle.std.specs.List.{filter, list_any}
use Rattle.std.specs.Option.{option_map_or}
use Rattle.std.proofs.lemmas.Bool.{cases_Bool, eq-eqb, lt-ltb, le-ltb, ltb-true, ltb-false, both_ways, cond-true, cond-false}
use Rattle.std.proofs.lemmas.List.{length-map}
use Rattle.std.proofs.lemmas.List.Filters.{length-filter_both}
use Rattle.pool_ledger.specs.History.{History, total}
use Rattle.pool_ledger.specs.Blocks.{Resident, evictable as evictable_by, is_excepted, is_pinned, pin_of, residents, unpin_of}
use Rattle.pool_plans.specs.Listed.{listed, seen_in}
use Rattle.eviction.specs.Victims.{evictable, is_evictable}
use Rattle.eviction.specs.declared.candidate.Candidate.{Candidate}
use Rattle.block_store.specs.Stores.{AreApart, HeldBlock, candidate_of, held_at, is_held, pins_at}
use Rattle.block_store.proofs.Places.{any_parts}
use Rattle.block_store.proofs.UseOrder.{name_is}
use Rattle.memory_core.specs.Caches.{Cache, resident_of}
use Rattle.memory_core.specs.Steady.{IsInStep}

-- ---- each block is the one of its name

-- each of these is the one of its name in the whole
abbrev pub AreFound : List HeldBlock → List HeldBlock → Type 0
AreFound whole [] = ⊤
AreFound whole (held ∷ others) = (held_at whole held.dataset held.part ≡ Some held) × AreFound whole others

-- a block has its own name
own_name : (held : HeldBlock) → is_held held.dataset held.part held ≡ true
own_name held = rw (eq-eqb held.dataset held.dataset refl, eq-eqb held.part held.part refl) refl

-- two blocks of different names
other_name : (one two : HeldBlock) → is_held one.dataset one.part two ≡ false → is_held two.dataset two.part one ≡ false
other_name one two other = elim (cases_Bool (is_held two.dataset two.part one)) [
  | inl same ↦
      let name = name_is two.dataset two.part one same in
      absurd (both_ways (is_held one.dataset one.part two) other (rw (eq-eqb two.dataset one.dataset (sym name.0), eq-eqb two.part one.part (sym name.1)) refl))
  | inr differs ↦ differs
]

-- blocks that are found are found behind one of another name
found_behind : (first : HeldBlock) (whole part : List HeldBlock) → list_any (is_held first.dataset first.part) part ≡ false → AreFound whole part → AreFound (first ∷ whole) part
found_behind first whole [] apart found = tt
found_behind first whole (held ∷ others) apart found =
    let parts = any_parts (is_held first.dataset first.part) held others apart in (
      cond-false (is_held held.dataset held.part first) (Some first) (held_at whole held.dataset held.part) (other_name first held parts.0) ∙ found.0,
      found_behind first whole others parts.1 found.1,
    )

-- where no two have one name, each is found
pub all_found : (blocks : List HeldBlock) → AreApart blocks → AreFound blocks blocks
all_found [] apart = tt
all_found (b ∷ bs) apart = (cond-true (is_held b.dataset b.part b) (Some b) (held_at bs b.dataset b.part) (own_name b), found_behind b bs bs apart.0 (all_found bs apart.1))

-- ---- the same blocks may go

-- the blocks that may go
abbrev pub goers : Option ℕ → List HeldBlock → List HeldBlock
goers except blocks = filter (λ (held : HeldBlock). is_evictable except (candidate_of held)) blocks

-- as a choice sees them
pub goers_seen : (except : Option ℕ) (blocks : List HeldBlock) → evictable except (map candidate_of blocks) ≡ map candidate_of (goers except blocks)
goers_seen except [] = refl
goers_seen except (b ∷ bs) = elim (cases_Bool (is_evictable except (candidate_of b))) [
  | inl goes ↦
      cond-true (is_evictable except (candidate_of b)) (candidate_of b ∷ evictable except (map candidate_of bs)) (evictable except (map candidate_of bs)) goes
      ∙ ap (λ (ys : List Candidate). candidate_of b ∷ ys) (goers_seen except bs)
      ∙ sym (ap (map candidate_of) (cond-true (is_evictable except (candidate_of b)) (b ∷ goers except bs) (goers except bs) goes))
  | inr stays ↦
      cond-false (is_evictable except (candidate_of b)) (candidate_of b ∷ evictable except (map candidate_of bs)) (evictable except (map candidate_of bs)) stays
      ∙ goers_seen except bs
      ∙ sym (ap (map candidate_of) (cond-false (is_evictable except (candidate_of b)) (b ∷ goers except bs) (goers except bs) stays))
]

-- a block is pinned where its pins are more than its unpins
more_pins : (kept unpins pins : ℕ) → kept + unpins ≡ pins → nat_lt unpins pins ≡ nat_lt 0 kept
more_pins kept unpins pins is = elim (cases_Bool (nat_lt 0 kept)) [
  | inl some ↦ lt-ltb unpins pins (omega (arith, is, ltb-true 0 kept some)) ∙ sym some
  | inr none ↦ le-ltb unpins pins (omega (arith, is, ltb-false 0 kept none)) ∙ sym none
]

-- whether the history lets a block go
abbrev pub may_go : History → Option ℕ → Resident → Bool
may_go history except block = not (is_pinned history block.dataset block.part) && not (is_excepted except block.dataset)

module _ (history : History) (whole : List HeldBlock)
    (step : (d p : ℕ) → pins_at whole d p + total (unpin_of d p) history ≡ total (pin_of d p) history) where
  -- a block that is found is pinned in the history where a pin keeps it
  pub pinned_as_kept : (held : HeldBlock) → held_at whole held.dataset held.part ≡ Some held → is_pinned history held.dataset held.part ≡ nat_lt 0 held.pins
  pinned_as_kept held found =
      more_pins held.pins (total (unpin_of held.dataset held.part) history) (total (pin_of held.dataset held.part) history)
      (ap (λ (o : Option HeldBlock). option_map_or (λ h. h.pins) o 0 + total (unpin_of held.dataset held.part) history) (sym found) ∙ step held.dataset held.part)

  -- the history lets it go where the choice does
  both_let_go : (except : Option ℕ) (held : HeldBlock) → held_at whole held.dataset held.part ≡ Some held → may_go history except (resident_of held) ≡ is_evictable except (candidate_of held)
  both_let_go except held found = ap (λ pinned. not pinned && not (is_excepted except held.dataset)) (pinned_as_kept held found)

  -- so do those of a part of the blocks
  goers_in_part : (except : Option ℕ) (part : List HeldBlock) → AreFound whole part → filter (may_go history except) (map resident_of part) ≡ map resident_of (goers except part)
  goers_in_part except [] found = refl
  goers_in_part except (b ∷ bs) found = elim (cases_Bool (is_evictable except (candidate_of b))) [
    | inl goes ↦
        cond-true (may_go history except (resident_of b)) (resident_of b ∷ filter (may_go history except) (map resident_of bs)) (filter (may_go history except) (map resident_of bs)) (both_let_go except b found.0 ∙ goes)
        ∙ ap (λ (ys : List Resident). resident_of b ∷ ys) (goers_in_part except bs found.1)
        ∙ sym (ap (map resident_of) (cond-true (is_evictable except (candidate_of b)) (b ∷ goers except bs) (goers except bs) goes))
    | inr stays ↦
        cond-false (may_go history except (resident_of b)) (resident_of b ∷ filter (may_go history except) (map resident_of bs)) (filter (may_go history except) (map resident_of bs)) (both_let_go except b found.0 ∙ stays)
        ∙ goers_in_part except bs found.1
        ∙ sym (ap (map resident_of) (cond-false (is_evictable except (candidate_of b)) (b ∷ goers except bs) (goers except bs) stays))
  ]

-- as the history names them
pub goers_named : (history : History) (cache : Cache) (except : Option ℕ) → AreApart cache.blocks → IsInStep history cache → evictable_by history except ≡ map resident_of (goers except cache.blocks)
goers_named history cache except apart step =
    ap (filter (may_go history except)) (sym step.blocks) ∙ goers_in_part history cache.blocks step.pins except cache.blocks (all_found cache.blocks apart)

-- ---- the same of a list that was read

-- the list is what a choice sees of the blocks
pub record IsSeen (cache : Cache) (list : List Candidate) : Type 0 where
  pub list_is : list ≡ map candidate_of cache.blocks
  pub apart : AreApart cache.blocks

-- the list that a store gives
pub seen_of : (cache : Cache) (blocks : List HeldBlock) (list : List Candidate) → blocks ≡ cache.blocks → list ≡ map candidate_of blocks → AreApart blocks → IsSeen cache list
seen_of cache blocks list same is apart = record { list_is = is ∙ ap (map candidate_of) same; apart = subst AreApart same apart }

-- ---- the list that a plan asks for

-- the blocks of a part, as a choice sees them, are those that the history names
seen_in_part : (history : History) (whole part : List HeldBlock) → ((d p : ℕ) → pins_at whole d p + total (unpin_of d p) history ≡ total (pin_of d p) history) → AreFound whole part
    → map candidate_of part ≡ map (seen_in history) (map resident_of part)
seen_in_part history whole [] step found = refl
seen_in_part history whole (b ∷ bs) step found =
    ap (λ pinned. record { dataset = b.dataset; part = b.part; size = b.size; pinned = pinned } ∷ map candidate_of bs) (sym (pinned_as_kept history whole step b found.0))
    ∙ ap (λ (others : List Candidate). seen_in history (resident_of b) ∷ others) (seen_in_part history whole bs step found.1)

-- what a choice sees of the blocks in memory is the list of the history's residents
pub seen_listed : (history : History) (cache : Cache) (list : List Candidate) → IsSeen cache list → IsInStep history cache → list ≡ listed history
seen_listed history cache list seen step =
    seen.list_is ∙ seen_in_part history cache.blocks cache.blocks step.pins (all_found cache.blocks seen.apart) ∙ ap (map (seen_in history)) step.blocks

-- no more blocks may go than there are
pub goers_few : (history : History) (cache : Cache) (except : Option ℕ) → IsInStep history cache → length (evictable_by history except) ≤ length cache.blocks
goers_few history cache except step =
    omega (
      arith,
      length-filter_both (may_go history except) (λ (block : Resident). not (may_go history except block)) (λ block. refl) (residents history),
      ap length step.blocks,
      length-map cache.blocks resident_of,
    )
