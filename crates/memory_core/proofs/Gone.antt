-- A block that no pin keeps goes out of memory: what is kept of blocks stays in step with the history.
use Rattle.std.proofs.Common.{◌≡◌, ◌≢◌, ℕ, ◌+◌, ◌≤◌, ◌<◌, true, false, not, cond, List, [], ◌∷◌, map, Option, Some, None, refl, sym, ap, subst, ◌∙◌, inl, inr, arith}
use Rattle.std.specs.Option.{option_map_or}
use Rattle.std.proofs.lemmas.Bool.{cases_Bool, cases_eq, cond-false, ltb-false, both_ways}
use Rattle.pool_ledger.specs.declared.entry.Entry.{Entry}
use Rattle.pool_ledger.specs.History.{History, total}
use Rattle.pool_ledger.specs.Blocks.{Resident, is_pinned, leaves_copy, pin_of, residents, unpin_of, without as residents_without}
use Rattle.block_store.specs.Stores.{HeldBlock, held_at, is_held, pins_at, without}
use Rattle.block_store.specs.Copies.{has_copy}
use Rattle.block_store.proofs.Places.{find_none, none_kept}
use Rattle.block_store.proofs.UseOrder.{name_is}
use Rattle.memory_core.specs.Caches.{Cache, resident_of}
use Rattle.memory_core.specs.Steady.{IsInStep}

-- what the history says of the blocks without one of them
pub without_mapped : (d p : ℕ) (blocks : List HeldBlock) → map resident_of (without d p blocks) ≡ residents_without d p (map resident_of blocks)
without_mapped d p [] = refl
without_mapped d p (b ∷ bs) = elim (cases_Bool (is_held d p b)) [
  | inl holds ↦
      ap (λ t. map resident_of (cond (not t) (b ∷ without d p bs) (without d p bs))) holds
      ∙ without_mapped d p bs
      ∙ sym (ap (λ t. cond (not t) (resident_of b ∷ residents_without d p (map resident_of bs)) (residents_without d p (map resident_of bs))) holds)
  | inr fails ↦
      ap (λ t. map resident_of (cond (not t) (b ∷ without d p bs) (without d p bs))) fails
      ∙ ap (λ (rs : List Resident). resident_of b ∷ rs) (without_mapped d p bs)
      ∙ sym (ap (λ t. cond (not t) (resident_of b ∷ residents_without d p (map resident_of bs)) (residents_without d p (map resident_of bs))) fails)
]

-- the block that is gone isn't found
pub gone_at : (d p : ℕ) (blocks : List HeldBlock) → held_at (without d p blocks) d p ≡ None
gone_at d p blocks = find_none (is_held d p) (without d p blocks) (none_kept (is_held d p) blocks)

-- the others are found as before
others_at : (d p e q : ℕ) (blocks : List HeldBlock) → ((b : HeldBlock) → is_held e q b ≡ true → is_held d p b ≡ false) → held_at (without d p blocks) e q ≡ held_at blocks e q
others_at d p e q [] apart = refl
others_at d p e q (b ∷ bs) apart = elim (cases_Bool (is_held d p b)) [
  | inl holds ↦
      let other : is_held e q b ≡ false = elim (cases_Bool (is_held e q b)) [
        | inl both ↦ absurd (both_ways (is_held d p b) (apart b both) holds)
        | inr fails ↦ fails
      ] in
      ap (λ t. held_at (cond (not t) (b ∷ without d p bs) (without d p bs)) e q) holds
      ∙ others_at d p e q bs apart
      ∙ sym (cond-false (is_held e q b) (Some b) (held_at bs e q) other)
  | inr fails ↦
      ap (λ t. held_at (cond (not t) (b ∷ without d p bs) (without d p bs)) e q) fails
      ∙ ap (λ found. cond (is_held e q b) (Some b) found) (others_at d p e q bs apart)
]

pub other_dataset : (d p e q : ℕ) (blocks : List HeldBlock) → d ≢ e → held_at (without d p blocks) e q ≡ held_at blocks e q
other_dataset d p e q blocks apart = others_at d p e q blocks (λ b holds. not_this b holds)
  where
    not_this : (b : HeldBlock) → is_held e q b ≡ true → is_held d p b ≡ false
    not_this b holds = elim (cases_Bool (is_held d p b)) [
      | inl here ↦ absurd (apart (sym (name_is d p b here).0 ∙ (name_is e q b holds).0))
      | inr fails ↦ fails
    ]

pub other_part : (d p e q : ℕ) (blocks : List HeldBlock) → p ≢ q → held_at (without d p blocks) e q ≡ held_at blocks e q
other_part d p e q blocks apart = others_at d p e q blocks (λ b holds. not_this b holds)
  where
    not_this : (b : HeldBlock) → is_held e q b ≡ true → is_held d p b ≡ false
    not_this b holds = elim (cases_Bool (is_held d p b)) [
      | inl here ↦ absurd (apart (sym (name_is d p b here).1 ∙ (name_is e q b holds).1))
      | inr fails ↦ fails
    ]

-- the pins of a block that is found as before
abbrev pub pins_found : Option HeldBlock → ℕ
pins_found found = option_map_or (λ held. held.pins) found 0

-- a block whose pins are at most its unpins has no pin left
no_pin_left : (h : History) (d p : ℕ) → is_pinned h d p ≡ false → total (pin_of d p) h ≤ total (unpin_of d p) h
no_pin_left h d p unpinned = omega (arith, ltb-false (total (unpin_of d p) h) (total (pin_of d p) h) unpinned)

-- without the block that is gone each block has its pins
pub pins_gone : (h : History) (d p : ℕ) (blocks : List HeldBlock) → is_pinned h d p ≡ false
    → ((e q : ℕ) → pins_at blocks e q + total (unpin_of e q) h ≡ total (pin_of e q) h)
    → (e q : ℕ) → pins_at (without d p blocks) e q + total (unpin_of e q) h ≡ total (pin_of e q) h
pins_gone h d p blocks unpinned pins e q = elim (cases_eq d e) [
  | inr apart ↦ ap (λ found. pins_found found + total (unpin_of e q) h) (other_dataset d p e q blocks apart) ∙ pins e q
  | inl same ↦ elim (cases_eq p q) [
    | inr apart ↦ ap (λ found. pins_found found + total (unpin_of e q) h) (other_part d p e q blocks apart) ∙ pins e q
    | inl alike ↦ subst (λ n. pins_at (without d p blocks) n q + total (unpin_of n q) h ≡ total (pin_of n q) h) same (
        subst (λ n. pins_at (without d p blocks) d n + total (unpin_of d n) h ≡ total (pin_of d n) h) alike this
        )
  ]
]
  where
    this : pins_at (without d p blocks) d p + total (unpin_of d p) h ≡ total (pin_of d p) h
    this = omega (arith, ap (λ found. pins_found found) (gone_at d p blocks), pins d p, no_pin_left h d p unpinned)

-- a block that no pin keeps is gone from memory
pub in_step_gone : (h : History) (entry : Entry) (d p : ℕ) (had has : Cache) → IsInStep h had → is_pinned h d p ≡ false
    → residents (entry ∷ h) ≡ residents_without d p (residents h)
    → ((e q : ℕ) → total (pin_of e q) (entry ∷ h) ≡ total (pin_of e q) h)
    → ((e q : ℕ) → total (unpin_of e q) (entry ∷ h) ≡ total (unpin_of e q) h)
    → has.blocks ≡ without d p had.blocks
    → ((e q : ℕ) → has_copy has.copies e q ≡ true → 0 < total (leaves_copy e q) (entry ∷ h))
    → IsInStep (entry ∷ h) has
in_step_gone h entry d p had has step unpinned left pins unpins blocks copies = record {
  blocks = ap (map resident_of) blocks ∙ without_mapped d p had.blocks ∙ ap (residents_without d p) step.blocks ∙ sym left;
  pins = λ e q. omega (arith, ap (λ bs. pins_at bs e q) blocks, pins_gone h d p had.blocks unpinned step.pins e q, pins e q, unpins e q);
  copies = copies;
}
