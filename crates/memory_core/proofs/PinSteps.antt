-- A pin and an unpin: what is kept of blocks stays in step with the history.
use Rattle.std.proofs.Common.{◌≡◌, ◌≢◌, ℕ, ◌+◌, ◌-◌, ◌≤◌, ◌<◌, ◌^◌, Bool, true, false, ◌&&◌, cond, List, ◌⊎◌, [], ◌∷◌, ◌++◌, map, count_by, Option, Some, None, refl, sym, ap, subst, ◌∙◌, inl, inr, arith}
use Rattle.std.specs.List.{filter, find}
use Rattle.std.specs.Prelude.{IfSome, IsSome, is_some, nat_eq}
use Rattle.std.specs.Option.{option_map}
use Rattle.std.proofs.lemmas.Bool.{cases_Bool, cases_eq, cond-true, cond-false, and_from, eq-eqb, false≢true, ne_eqb}
use Rattle.std.proofs.lemmas.List.{map-append}
use Rattle.std.proofs.lemmas.List.Sums.{sum_by-cons}
use Rattle.std.proofs.lemmas.Option.{none-some, same_Some}
use Rattle.pool_ledger.specs.declared.entry.Event.TheVariants.{Pin, Unpin}
use Rattle.pool_ledger.specs.Sizes.{Sizes}
use Rattle.pool_ledger.specs.History.{History, total}
use Rattle.pool_ledger.specs.Blocks.{Resident, is_block, is_resident, only, pin_of, residents, unpin_of, without as residents_without}
use Rattle.pool_ledger.specs.Legal.{IsPermitted}
use Rattle.pool_ledger.proofs.Residents.{different}
use Rattle.pool_laws.specs.Growing.{entry_by}
use Rattle.pool_laws.proofs.Passing.{holds}
use Rattle.pool_laws.proofs.Pins.{pins_few}
use Rattle.block_store.specs.Stores.{HeldBlock, held_at, is_held, pins_at, unpinned, without}
use Rattle.block_store.specs.Copies.{has_copy}
use Rattle.block_store.proofs.UseOrder.{name_is}
use Rattle.memory_core.specs.Caches.{Cache, resident_of}
use Rattle.memory_core.specs.Steady.{IsAmid, IsInStep}
use Rattle.memory_core.proofs.Gone.{gone_at, other_dataset, other_part, pins_found, without_mapped}
use Rattle.memory_core.proofs.Stepping.{find_mapped, found_before, found_last, found_name, resident_is}

-- ---- a pin

module _ {X : Type 0} where
  none_left : (q : X → Bool) (xs : List X) → count_by q xs ≡ 0 → filter q xs ≡ []
  none_left q [] none = refl
  none_left q (x ∷ xs) none = elim (cases_Bool (q x)) [
    | inl here ↦ absurd (omega (arith, none, sum_by-cons (λ y. cond {A = ℕ} (q y) 1 0) x xs, cond-true {A = ℕ} (q x) 1 0 here))
    | inr past ↦ cond-false (q x) (x ∷ filter q xs) (filter q xs) past ∙ none_left q xs (omega (arith, none, sum_by-cons (λ y. cond {A = ℕ} (q y) 1 0) x xs))
  ]

  -- where at most one passes, the one that is found is alone
  found_alone : (q : X → Bool) (xs : List X) (b : X) → count_by q xs ≤ 1 → find q xs ≡ Some b → filter q xs ≡ b ∷ []
  found_alone q [] b few found = absurd (none-some b found)
  found_alone q (x ∷ xs) b few found = elim (cases_Bool (q x)) [
    | inl here ↦
        cond-true (q x) (x ∷ filter q xs) (filter q xs) here
        ∙ ap (λ (ys : List X). x ∷ ys) (none_left q xs (omega (arith, few, sum_by-cons (λ y. cond {A = ℕ} (q y) 1 0) x xs, cond-true {A = ℕ} (q x) 1 0 here)))
        ∙ ap (λ (y : X). y ∷ []) (same_Some x b (sym (cond-true (q x) (Some x) (find q xs) here) ∙ found))
    | inr past ↦
        cond-false (q x) (x ∷ filter q xs) (filter q xs) past
        ∙ found_alone q xs b (omega (arith, few, sum_by-cons (λ y. cond {A = ℕ} (q y) 1 0) x xs)) (sym (cond-false (q x) (Some x) (find q xs) past) ∙ found)
  ]

-- the block alone, as the history has it
only_one : (setup : Sizes) (h : History) (cache : Cache) (d p : ℕ) (held : HeldBlock) → setup.region ≤ setup.maximum → IsPermitted setup h → IsInStep h cache
    → held_at cache.blocks d p ≡ Some held → only d p (residents h) ≡ resident_of held ∷ []
only_one setup h cache d p held region permitted step here =
    let recorded = (holds setup h region permitted).recorded in
    found_alone (is_block d p) (residents h) (resident_of held) (different setup h recorded d p)
    (ap (find (is_block d p)) (sym step.blocks) ∙ find_mapped d p cache.blocks ∙ ap (option_map resident_of) here)

-- a name differs in its dataset or in its part
abbrev AreApartNames : ℕ → ℕ → ℕ → ℕ → Type 0
AreApartNames d p e q = (d ≢ e) ⊎ (p ≢ q)

names_apart : (d p e q : ℕ) → AreApartNames d p e q → (nat_eq e d && nat_eq q p) ≡ false
names_apart d p e q (inl apart) = ap (λ t. t && nat_eq q p) (ne_eqb e d (λ same. apart (sym same)))
names_apart d p e q (inr apart) = ap (λ t. nat_eq e d && t) (ne_eqb q p (λ same. apart (sym same))) ∙ and_false (nat_eq e d)
  where
    and_false : (b : Bool) → (b && false) ≡ false
    and_false true = refl
    and_false false = refl

names_same : (d p : ℕ) → (nat_eq d d && nat_eq p p) ≡ true
names_same d p = and_from (nat_eq d d) (nat_eq p p) (eq-eqb d d refl) (eq-eqb p p refl)

-- a block of one name hasn't the other
not_that : (d p e q : ℕ) (held : HeldBlock) → AreApartNames d p e q → is_held d p held ≡ true → is_held e q held ≡ false
not_that d p e q held apart holds = elim (cases_Bool (is_held e q held)) [
  | inl both ↦ absurd (differs apart both)
  | inr fails ↦ fails
]
  where
    differs : AreApartNames d p e q → is_held e q held ≡ true → ⊥
    differs (inl other) both = other (sym (name_is d p held holds).0 ∙ (name_is e q held both).0)
    differs (inr other) both = other (sym (name_is d p held holds).1 ∙ (name_is e q held both).1)

others_found : (d p e q : ℕ) (blocks : List HeldBlock) → AreApartNames d p e q → held_at (without d p blocks) e q ≡ held_at blocks e q
others_found d p e q blocks (inl apart) = other_dataset d p e q blocks apart
others_found d p e q blocks (inr apart) = other_part d p e q blocks apart

-- one name is the other, or they are apart
by_name : (P : ℕ → ℕ → Type 0) (d p : ℕ) → P d p → ((e q : ℕ) → AreApartNames d p e q → P e q) → (e q : ℕ) → P e q
by_name P d p this others e q = elim (cases_eq d e) [
  | inr apart ↦ others e q (inl apart)
  | inl same ↦ elim (cases_eq p q) [
    | inr apart ↦ others e q (inr apart)
    | inl alike ↦ subst (λ n. P n q) same (subst (λ n. P d n) alike this)
  ]
]

-- the block is the last one, with a pin more
in_step_pinned : (setup : Sizes) (h : History) (worker d p : ℕ) (held : HeldBlock) (had has : Cache) → setup.region ≤ setup.maximum → IsPermitted setup h → IsInStep h had
    → held_at had.blocks d p ≡ Some held
    → has.blocks ≡ without d p had.blocks ++ record held { pins = held.pins + 1 } ∷ [] → has.copies ≡ had.copies
    → IsInStep (entry_by worker (Pin d p false) ∷ h) has
in_step_pinned setup h worker d p held had has region permitted step here blocks copies = record {
  blocks =
      ap (map resident_of) blocks ∙ map-append resident_of (without d p had.blocks) (last ∷ [])
      ∙ ap (λ (rs : List Resident). rs ++ resident_of last ∷ []) (without_mapped d p had.blocks ∙ ap (residents_without d p) step.blocks)
      ∙ ap (λ (rs : List Resident). residents_without d p (residents h) ++ rs) (sym (only_one setup h had d p held region permitted step here));
  pins = λ e q. ap (λ bs. pins_at bs e q + total (unpin_of e q) (entry_by worker (Pin d p false) ∷ h)) blocks ∙ by_name Agrees d p this others e q;
  copies = λ e q there. omega (arith, step.copies e q (sym (ap (λ cs. has_copy cs e q) copies) ∙ there));
}
  where
    last : HeldBlock
    last = record held { pins = held.pins + 1 }

    Agrees : ℕ → ℕ → Type 0
    Agrees e q = pins_at (without d p had.blocks ++ last ∷ []) e q + total (unpin_of e q) (entry_by worker (Pin d p false) ∷ h) ≡ total (pin_of e q) (entry_by worker (Pin d p false) ∷ h)

    named : is_held d p last ≡ true
    named = found_name d p had.blocks held here

    this : Agrees d p
    this = omega (arith, ap pins_found (found_last (without d p had.blocks) last d p named (gone_at d p had.blocks)), ap pins_found here, step.pins d p, cond-true {A = ℕ} (nat_eq d d && nat_eq p p) 1 0 (names_same d p))

    others : (e q : ℕ) → AreApartNames d p e q → Agrees e q
    others e q apart = omega (
      arith,
      ap pins_found (found_before (without d p had.blocks) last e q (not_that d p e q last apart named) ∙ others_found d p e q had.blocks apart),
      step.pins e q,
      cond-false {A = ℕ} (nat_eq e d && nat_eq q p) 1 0 (names_apart d p e q apart),
    )

-- a block in memory, once it is pinned
module _ (setup : Sizes) (h : History) (had : Cache) (amid : IsAmid setup h had) (d p : ℕ) where
  -- it has no more pins than there are workers
  pub pins_are_few : pins_at had.blocks d p < 2 ^ 64 - 1
  pins_are_few = omega (arith, amid.in_step.pins d p, pins_few setup h d p amid.permitted, amid.range.few_workers)

  -- it is there
  pub is_there : is_resident h d p ≡ true → IsSome (held_at had.blocks d p)
  is_there resident = sym (resident_is h had d p amid.in_step) ∙ resident

  pub in_step_hit : (worker : ℕ) (has : Cache) → is_resident h d p ≡ true
      → IfSome (held_at had.blocks d p) (λ held. has.blocks ≡ without d p had.blocks ++ record held { pins = held.pins + 1 } ∷ []) → has.copies ≡ had.copies
      → IsInStep (entry_by worker (Pin d p false) ∷ h) has
  in_step_hit worker has resident blocks copies = at_block (held_at had.blocks d p) refl
    where
      at_block : (o : Option HeldBlock) → held_at had.blocks d p ≡ o → IsInStep (entry_by worker (Pin d p false) ∷ h) has
      at_block None none = absurd (false≢true (sym (ap is_some none) ∙ is_there resident))
      at_block (Some held) here =
          in_step_pinned setup h worker d p held had has amid.range.region_fits amid.permitted amid.in_step here
          (subst (λ (o : Option HeldBlock). IfSome o (λ held. has.blocks ≡ without d p had.blocks ++ record held { pins = held.pins + 1 } ∷ [])) here blocks) copies

-- what is kept of blocks, where the blocks alone changed
pub cache_pinned : (had has : Cache) (found : Option HeldBlock) (left : List HeldBlock)
    → IfSome found (λ held. has.blocks ≡ left ++ record held { pins = held.pins + 1 } ∷ []) → has ≡ record had { blocks = has.blocks }
    → IfSome found (λ held. has ≡ record had { blocks = left ++ record held { pins = held.pins + 1 } ∷ [] })
cache_pinned had has None left blocks others = tt
cache_pinned had has (Some held) left blocks others = others ∙ ap (λ (bs : List HeldBlock). record had { blocks = bs }) blocks

-- ---- an unpin

same_name : (e q d p : ℕ) (held : HeldBlock) → is_held e q (unpinned d p held) ≡ is_held e q held
same_name e q d p held = either (is_held d p held)
  where
    either : (t : Bool) → is_held e q (cond t (record held { pins = held.pins - 1 }) held) ≡ is_held e q held
    either true = refl
    either false = refl

-- what the history says of the blocks stays
unpinned_mapped : (d p : ℕ) (blocks : List HeldBlock) → map resident_of (map (unpinned d p) blocks) ≡ map resident_of blocks
unpinned_mapped d p [] = refl
unpinned_mapped d p (b ∷ bs) = ap (λ (r : Resident). r ∷ map resident_of (map (unpinned d p) bs)) (either (is_held d p b)) ∙ ap (λ (rs : List Resident). resident_of b ∷ rs) (unpinned_mapped d p bs)
  where
    either : (t : Bool) → resident_of (cond t (record b { pins = b.pins - 1 }) b) ≡ resident_of b
    either true = refl
    either false = refl

-- the block has a pin less
pin_less : (d p : ℕ) (blocks : List HeldBlock) → pins_at (map (unpinned d p) blocks) d p ≡ pins_at blocks d p - 1
pin_less d p [] = refl
pin_less d p (b ∷ bs) = elim (cases_Bool (is_held d p b)) [
  | inl holds ↦
      ap (λ t. pins_found (cond t (Some (unpinned d p b)) (held_at (map (unpinned d p) bs) d p))) (same_name d p d p b ∙ holds)
      ∙ ap (λ t. (cond t (record b { pins = b.pins - 1 }) b).pins) holds
      ∙ sym (ap (λ t. pins_found (cond t (Some b) (held_at bs d p)) - 1) holds)
  | inr fails ↦
      ap (λ t. pins_found (cond t (Some (unpinned d p b)) (held_at (map (unpinned d p) bs) d p))) (same_name d p d p b ∙ fails)
      ∙ pin_less d p bs
      ∙ sym (ap (λ t. pins_found (cond t (Some b) (held_at bs d p)) - 1) fails)
]

-- the others have theirs
pins_stay : (d p e q : ℕ) (blocks : List HeldBlock) → AreApartNames d p e q → pins_at (map (unpinned d p) blocks) e q ≡ pins_at blocks e q
pins_stay d p e q [] apart = refl
pins_stay d p e q (b ∷ bs) apart = elim (cases_Bool (is_held e q b)) [
  | inl holds ↦
      ap (λ t. pins_found (cond t (Some (unpinned d p b)) (held_at (map (unpinned d p) bs) e q))) (same_name e q d p b ∙ holds)
      ∙ ap (λ t. (cond t (record b { pins = b.pins - 1 }) b).pins) (not_that e q d p b (turned apart) holds)
      ∙ sym (ap (λ t. pins_found (cond t (Some b) (held_at bs e q))) holds)
  | inr fails ↦
      ap (λ t. pins_found (cond t (Some (unpinned d p b)) (held_at (map (unpinned d p) bs) e q))) (same_name e q d p b ∙ fails)
      ∙ pins_stay d p e q bs apart
      ∙ sym (ap (λ t. pins_found (cond t (Some b) (held_at bs e q))) fails)
]
  where
    turned : AreApartNames d p e q → AreApartNames e q d p
    turned (inl other) = inl (λ same. other (sym same))
    turned (inr other) = inr (λ same. other (sym same))

-- the block has a pin less
pub in_step_unpinned : (h : History) (worker d p : ℕ) (had has : Cache) → IsInStep h had → 0 < pins_at had.blocks d p
    → has.blocks ≡ map (unpinned d p) had.blocks → has.copies ≡ had.copies → IsInStep (entry_by worker (Unpin d p) ∷ h) has
in_step_unpinned h worker d p had has step some blocks copies = record {
  blocks = ap (map resident_of) blocks ∙ unpinned_mapped d p had.blocks ∙ step.blocks;
  pins = λ e q. ap (λ bs. pins_at bs e q + total (unpin_of e q) (entry_by worker (Unpin d p) ∷ h)) blocks ∙ by_name Agrees d p this others e q;
  copies = λ e q there. omega (arith, step.copies e q (sym (ap (λ cs. has_copy cs e q) copies) ∙ there));
}
  where
    Agrees : ℕ → ℕ → Type 0
    Agrees e q = pins_at (map (unpinned d p) had.blocks) e q + total (unpin_of e q) (entry_by worker (Unpin d p) ∷ h) ≡ total (pin_of e q) (entry_by worker (Unpin d p) ∷ h)

    this : Agrees d p
    this = omega (arith, some, pin_less d p had.blocks, step.pins d p, cond-true {A = ℕ} (nat_eq d d && nat_eq p p) 1 0 (names_same d p))

    others : (e q : ℕ) → AreApartNames d p e q → Agrees e q
    others e q apart = omega (arith, pins_stay d p e q had.blocks apart, step.pins e q, cond-false {A = ℕ} (nat_eq e d && nat_eq q p) 1 0 (names_apart d p e q apart))
