-- The slots after one was written to: the blocks in use order, and what is kept of the slots.
use Rattle.std.proofs.Common.{◌≡◌, ℕ, suc, ◌<◌, ◌+◌, ◌-◌, Bool, true, false, cond, nat_eq, List, [], ◌∷◌, ◌++◌, map, length, Option, Some, None, sym, ap, subst, ◌∙◌, inl, inr, arith}
use Rattle.std.specs.List.{list_any}
use Rattle.std.specs.Prelude.{IfSome}
use Rattle.std.specs.Option.{option_map, option_map_or}
use Rattle.std.specs.Map.{lookup, lookup_entry, remove_entry, set_value}
use Rattle.std.specs.Arc.{arc_value}
use Rattle.std.proofs.lemmas.Bool.{cases_Bool}
use Rattle.std.proofs.lemmas.List.{length-append}
use Rattle.std.proofs.lemmas.Map.{length-set_value}
use Rattle.std.proofs.lemmas.Option.{none-some, same_Some}
use Rattle.lru.specs.LruCache.{LruCache, lru_cache, promoted}
use Rattle.block_store.specs.declared.block.Block.{Block}
use Rattle.block_store.specs.declared.resident.Resident.{Resident}
use Rattle.block_store.specs.Stores.{HeldBlock, held_of, is_held, held_at, pins_at, without, unpinned, AreApart}
use Rattle.block_store.specs.Slots.{NumberedSlot, MemoryView, held_in, with_pins, followed_by, blocks_in, slots_of, AreBelow, AreSlots, HasBlock}
use Rattle.block_store.proofs.Places.{none_find}
use Rattle.block_store.proofs.Walks.{followed-append, append-nothing, below_set, below_removed}
use Rattle.block_store.proofs.UseOrder.{IsAmong, same_test, any_joined, among, found_among, without_among, unpinned_among, apart_more, apart_unpinned}

-- a slot that a look-up finds, among the others
record StandsIn (number : ℕ) (resident : Resident) (slots : List NumberedSlot) : Type 0 where
  before : List HeldBlock
  after : List HeldBlock
  all : blocks_in slots ≡ before ++ held_in resident ∷ after
  written : (other : Resident) → blocks_in (set_value (nat_eq number) slots (Some other)) ≡ before ++ held_in other ∷ after
  emptied : blocks_in (set_value (nat_eq number) slots None) ≡ before ++ after
  removed : blocks_in (remove_entry (nat_eq number) slots) ≡ before ++ after

stands_in : (number : ℕ) (resident : Resident) (slots : List NumberedSlot) → lookup (nat_eq number) slots ≡ Some (Some resident) → StandsIn number resident slots
stands_in number resident [] e = absurd (none-some (Some resident) e)
stands_in number resident (s ∷ ss) e =
    elim (cases_Bool (nat_eq number s.0)) [
      | inl here ↦
          let has : s.1 ≡ Some resident = same_Some s.1 (Some resident) (sym (ap (λ t. cond t (Some s.1) (lookup (nat_eq number) ss)) here) ∙ e) in
          record {
            before = blocks_in ss;
            after = [];
            all = ap (followed_by (blocks_in ss)) has;
            written = λ other. ap (λ t. blocks_in (cond t ((s.0, Some other) ∷ ss) (s ∷ set_value (nat_eq number) ss (Some other)))) here;
            emptied = ap (λ t. blocks_in (cond t ((s.0, None) ∷ ss) (s ∷ set_value (nat_eq number) ss None))) here ∙ sym (append-nothing (blocks_in ss));
            removed = ap (λ t. blocks_in (cond t ss (s ∷ remove_entry (nat_eq number) ss))) here ∙ sym (append-nothing (blocks_in ss));
          }
      | inr later ↦
          let rest = stands_in number resident ss (sym (ap (λ t. cond t (Some s.1) (lookup (nat_eq number) ss)) later) ∙ e) in
          record {
            before = rest.before;
            after = followed_by rest.after s.1;
            all = ap (λ (l : List HeldBlock). followed_by l s.1) rest.all ∙ followed-append rest.before (held_in resident ∷ rest.after) s.1 ∙ ap (λ (l : List HeldBlock). rest.before ++ l) (followed-append (held_in resident ∷ []) rest.after s.1);
            written = λ other. ap (λ t. blocks_in (cond t ((s.0, Some other) ∷ ss) (s ∷ set_value (nat_eq number) ss (Some other)))) later ∙ ap (λ (l : List HeldBlock). followed_by l s.1) (rest.written other) ∙ followed-append rest.before (held_in other ∷ rest.after) s.1 ∙ ap (λ (l : List HeldBlock). rest.before ++ l) (followed-append (held_in other ∷ []) rest.after s.1);
            emptied = ap (λ t. blocks_in (cond t ((s.0, None) ∷ ss) (s ∷ set_value (nat_eq number) ss None))) later ∙ ap (λ (l : List HeldBlock). followed_by l s.1) rest.emptied ∙ followed-append rest.before rest.after s.1;
            removed = ap (λ t. blocks_in (cond t ss (s ∷ remove_entry (nat_eq number) ss))) later ∙ ap (λ (l : List HeldBlock). followed_by l s.1) rest.removed ∙ followed-append rest.before rest.after s.1;
          }
    ]

-- without an empty slot the blocks are the same
empty_removed : (number : ℕ) (slots : List NumberedSlot) → lookup (nat_eq number) slots ≡ Some None → blocks_in (remove_entry (nat_eq number) slots) ≡ blocks_in slots
empty_removed number [] e = absurd (none-some None e)
empty_removed number (s ∷ ss) e =
    elim (cases_Bool (nat_eq number s.0)) [
      | inl here ↦
          let has : s.1 ≡ None = same_Some s.1 None (sym (ap (λ t. cond t (Some s.1) (lookup (nat_eq number) ss)) here) ∙ e) in
          ap (λ t. blocks_in (cond t ss (s ∷ remove_entry (nat_eq number) ss))) here ∙ sym (ap (followed_by (blocks_in ss)) has)
      | inr later ↦
          ap (λ t. blocks_in (cond t ss (s ∷ remove_entry (nat_eq number) ss))) later ∙ ap (λ (l : List HeldBlock). followed_by l s.1) (empty_removed number ss (sym (ap (λ t. cond t (Some s.1) (lookup (nat_eq number) ss)) later) ∙ e))
    ]

-- a slot that is found and written to comes first
record ComesFirst (number : ℕ) (slot : Option Resident) (slots : List NumberedSlot) : Type 0 where
  own : ℕ
  all : set_value (nat_eq number) (promoted (nat_eq number) slots) slot ≡ (own, slot) ∷ remove_entry (nat_eq number) slots
  below : (count : ℕ) → AreBelow count slots → own < count
  length_is : suc (length (remove_entry (nat_eq number) slots)) ≡ length slots

-- what is found of the number
entry_of : (number : ℕ) (slots : List NumberedSlot) (slot : Option Resident) → lookup (nat_eq number) slots ≡ Some slot → (entry : NumberedSlot) × (lookup_entry (nat_eq number) slots ≡ Some entry) × (nat_eq number entry.0 ≡ true) × ((count : ℕ) → AreBelow count slots → entry.0 < count) × (suc (length (remove_entry (nat_eq number) slots)) ≡ length slots)
entry_of number [] slot e = absurd (none-some slot e)
entry_of number (s ∷ ss) slot e =
    elim (cases_Bool (nat_eq number s.0)) [
      | inl here ↦ (
        s,
        ap (λ t. cond t (Some s) (lookup_entry (nat_eq number) ss)) here,
        here,
        λ count below. below.0,
        ap (λ t. suc (length (cond t ss (s ∷ remove_entry (nat_eq number) ss)))) here,
      )
      | inr later ↦
          let rest = entry_of number ss slot (sym (ap (λ t. cond t (Some s.1) (lookup (nat_eq number) ss)) later) ∙ e) in (
            rest.0,
            ap (λ t. cond t (Some s) (lookup_entry (nat_eq number) ss)) later ∙ rest.1,
            rest.2,
            λ count below. rest.3 count below.1,
            ap (λ t. suc (length (cond t ss (s ∷ remove_entry (nat_eq number) ss)))) later ∙ ap suc rest.4,
          )
    ]

comes_first : (number : ℕ) (was slot : Option Resident) (slots : List NumberedSlot) → lookup (nat_eq number) slots ≡ Some was → ComesFirst number slot slots
comes_first number was slot slots e =
    let entry = entry_of number slots was e in
    record {
      own = entry.0.0;
      all =
          ap (λ (o : Option NumberedSlot). set_value (nat_eq number) (option_map_or (λ x. x ∷ remove_entry (nat_eq number) slots) o slots) slot) entry.1
          ∙ ap (λ t. cond t ((entry.0.0, slot) ∷ remove_entry (nat_eq number) slots) (entry.0 ∷ set_value (nat_eq number) (remove_entry (nat_eq number) slots) slot)) entry.2;
      below = entry.3;
      length_is = entry.4;
    }

-- what a call leaves in the slots: so many blocks, and room for so many
abbrev pub Leaves : LruCache ℕ (Option Resident) → ℕ → ℕ → List HeldBlock → Type 0
Leaves cache count room blocks = AreSlots (Some cache) count room × (blocks_in cache.entries ≡ blocks)

module _ (cache : LruCache ℕ (Option Resident)) (count room : ℕ) (kept : AreSlots (Some cache) count room) where
  abbrev blocks : List HeldBlock
  blocks = blocks_in cache.entries

  abbrev first : ℕ → Option Resident → LruCache ℕ (Option Resident)
  first number slot = lru_cache (set_value (nat_eq number) (promoted (nat_eq number) cache.entries) slot) cache.cap

  abbrev set : ℕ → Option Resident → LruCache ℕ (Option Resident)
  set number slot = lru_cache (set_value (nat_eq number) cache.entries slot) cache.cap

  -- the numbers and the length of the slots where one was written to
  first_below : (number : ℕ) (was slot : Option Resident) → lookup (nat_eq number) cache.entries ≡ Some was → (length (first number slot).entries ≡ length cache.entries) × AreBelow (length (first number slot).entries) (first number slot).entries
  first_below number was slot e =
      let c = comes_first number was slot cache.entries e in
      let same : length (first number slot).entries ≡ length cache.entries = ap length c.all ∙ c.length_is in
      (same, subst (λ n. AreBelow n (first number slot).entries) (sym same) (subst (AreBelow (length cache.entries)) (sym c.all) (c.below (length cache.entries) kept.numbers, below_removed (length cache.entries) number cache.entries kept.numbers)))

  set_below : (number : ℕ) (slot : Option Resident) → (length (set number slot).entries ≡ length cache.entries) × AreBelow (length (set number slot).entries) (set number slot).entries
  set_below number slot =
      let same : length (set number slot).entries ≡ length cache.entries = length-set_value (nat_eq number) cache.entries slot in
      (same, subst (λ n. AreBelow n (set number slot).entries) (sym same) (below_set (length cache.entries) number slot cache.entries kept.numbers))

  -- a block is put into an empty slot
  kept_admitted : (number : ℕ) (resident : Resident) → 0 < room → lookup (nat_eq number) cache.entries ≡ Some None → held_at blocks (held_in resident).dataset (held_in resident).part ≡ None → Leaves (first number (Some resident)) (count + 1) (room - 1) (blocks ++ held_in resident ∷ [])
  kept_admitted number resident some e absent =
      let c = comes_first number None (Some resident) cache.entries e in
      let all : blocks_in (first number (Some resident)).entries ≡ blocks ++ held_in resident ∷ [] = ap blocks_in c.all ∙ ap (λ (l : List HeldBlock). l ++ held_in resident ∷ []) (empty_removed number cache.entries e) in
      let below = first_below number None (Some resident) e in (
        record {
          apart = subst AreApart (sym all) (apart_more blocks (held_in resident) kept.apart (none_find (is_held (held_in resident).dataset (held_in resident).part) blocks absent));
          counted = omega (arith, kept.counted, ap length all, length-append blocks (held_in resident ∷ []));
          enough = omega (arith, kept.enough, below.0);
          numbers = below.1;
          unbounded = kept.unbounded;
        },
        all,
      )

  module _ (d p number : ℕ) (resident : Resident) (has : HasBlock d p number resident cache.entries) where
    stands : StandsIn number resident cache.entries
    stands = stands_in number resident cache.entries has.here

    is_among : IsAmong d p stands.before stands.after
    is_among = among d p stands.before stands.after (held_in resident) (subst AreApart stands.all kept.apart) has.named

    -- the block is in memory
    held_found : held_at blocks d p ≡ Some (held_in resident)
    held_found = ap (λ (l : List HeldBlock). held_at l d p) stands.all ∙ found_among d p stands.before stands.after (held_in resident) is_among has.named

    left_is : without d p blocks ≡ stands.before ++ stands.after
    left_is = ap (without d p) stands.all ∙ without_among d p stands.before stands.after (held_in resident) is_among has.named

    counts : length blocks ≡ suc (length (stands.before ++ stands.after))
    counts = ap length stands.all ∙ omega (arith, length-append stands.before (held_in resident ∷ stands.after), length-append stands.before stands.after)

    -- it is pinned
    kept_pinned : (pins : ℕ) → Leaves (first number (Some (with_pins pins resident))) count room (without d p blocks ++ held_of pins (arc_value resident.block) ∷ [])
    kept_pinned pins =
        let now : Resident = with_pins pins resident in
        let c = comes_first number (Some resident) (Some now) cache.entries has.here in
        let all : blocks_in (first number (Some now)).entries ≡ (stands.before ++ stands.after) ++ held_in now ∷ [] = ap blocks_in c.all ∙ ap (λ (l : List HeldBlock). l ++ held_in now ∷ []) stands.removed in
        let below = first_below number (Some resident) (Some now) has.here in
        let none : list_any (is_held (held_in now).dataset (held_in now).part) (stands.before ++ stands.after) ≡ false = ap (λ (t : HeldBlock → Bool). list_any t (stands.before ++ stands.after)) (same_test d p (held_in resident) has.named) ∙ any_joined (is_held d p) stands.before stands.after is_among.no_earlier is_among.no_later in (
          record {
            apart = subst AreApart (sym all) (apart_more (stands.before ++ stands.after) (held_in now) is_among.apart none);
            counted = omega (arith, kept.counted, counts, ap length all, length-append (stands.before ++ stands.after) (held_in now ∷ []));
            enough = omega (arith, kept.enough, below.0);
            numbers = below.1;
            unbounded = kept.unbounded;
          },
          all ∙ ap (λ (l : List HeldBlock). l ++ held_in now ∷ []) (sym left_is),
        )

    -- a pin is given back
    kept_unpinned : Leaves (set number (Some (with_pins (resident.pins - 1) resident))) count room (map (unpinned d p) blocks)
    kept_unpinned =
        let now : Resident = with_pins (resident.pins - 1) resident in
        let less : map (unpinned d p) blocks ≡ stands.before ++ held_in now ∷ stands.after = ap (map (unpinned d p)) stands.all ∙ unpinned_among d p stands.before stands.after (held_in resident) is_among has.named in
        let all : blocks_in (set number (Some now)).entries ≡ map (unpinned d p) blocks = stands.written now ∙ sym less in
        let below = set_below number (Some now) in (
          record {
            apart = subst AreApart (sym all) (apart_unpinned d p blocks kept.apart);
            counted = omega (arith, kept.counted, counts, ap length (stands.written now), length-append stands.before (held_in now ∷ stands.after), length-append stands.before stands.after);
            enough = omega (arith, kept.enough, below.0);
            numbers = below.1;
            unbounded = kept.unbounded;
          },
          all,
        )

    -- it is taken out
    kept_taken : Leaves (set number None) (count - 1) room (without d p blocks)
    kept_taken =
        let all : blocks_in (set number None).entries ≡ without d p blocks = stands.emptied ∙ sym left_is in
        let below = set_below number None in (
          record {
            apart = subst AreApart (sym stands.emptied) is_among.apart;
            counted = omega (arith, kept.counted, counts, ap length stands.emptied);
            enough = omega (arith, kept.enough, below.0);
            numbers = below.1;
            unbounded = kept.unbounded;
          },
          all,
        )

-- the slots behind what contracts see
pub record IsOpen (cache : LruCache ℕ (Option Resident)) (count room : ℕ) (view : MemoryView) : Type 0 where
  pub kept : AreSlots (Some cache) count room
  pub blocks : blocks_in cache.entries ≡ view.blocks
  pub room_is : room ≡ view.room

pub opened : (slots : Option (LruCache ℕ (Option Resident))) (cache : LruCache ℕ (Option Resident)) (count room : ℕ) (view : MemoryView) → AreSlots slots count room → record { blocks = blocks_in (slots_of slots); room = room } ≡ view → slots ≡ Some cache → IsOpen cache count room view
opened slots cache count room view kept shown is =
    record {
      kept = subst (λ (o : Option (LruCache ℕ (Option Resident))). AreSlots o count room) is kept;
      blocks = ap (λ (o : Option (LruCache ℕ (Option Resident))). blocks_in (slots_of o)) (sym is) ∙ ap (λ (v : MemoryView). v.blocks) shown;
      room_is = ap (λ (v : MemoryView). v.room) shown;
    }

module _ (cache : LruCache ℕ (Option Resident)) (count room : ℕ) (view : MemoryView) (shown : IsOpen cache count room view) where
  pub admitted : (number : ℕ) (resident : Resident) → 0 < view.room → lookup (nat_eq number) cache.entries ≡ Some None → held_at view.blocks (held_in resident).dataset (held_in resident).part ≡ None → Leaves (lru_cache (set_value (nat_eq number) (promoted (nat_eq number) cache.entries) (Some resident)) cache.cap) (count + 1) (room - 1) (view.blocks ++ held_in resident ∷ [])
  admitted number resident some e absent =
      let own : 0 < room = omega (arith, some, shown.room_is) in
      let left = kept_admitted cache count room shown.kept number resident own e (ap (λ (l : List HeldBlock). held_at l (held_in resident).dataset (held_in resident).part) shown.blocks ∙ absent) in
      (left.0, left.1 ∙ ap (λ (l : List HeldBlock). l ++ held_in resident ∷ []) shown.blocks)

  -- a call that keeps the number of blocks
  pub same_count : (other : LruCache ℕ (Option Resident)) → AreSlots (Some other) count room → length (blocks_in other.entries) ≡ length view.blocks
  same_count other kept = sym kept.counted ∙ shown.kept.counted ∙ ap length shown.blocks

  module _ (d p number : ℕ) (resident : Resident) (has : HasBlock d p number resident cache.entries) where
    pub is_found : held_at view.blocks d p ≡ Some (held_in resident)
    is_found = ap (λ (l : List HeldBlock). held_at l d p) (sym shown.blocks) ∙ held_found cache count room shown.kept d p number resident has

    -- its pins, and the block itself
    pub pins_found : pins_at view.blocks d p ≡ resident.pins
    pins_found = ap (λ (o : Option HeldBlock). option_map_or (λ held. held.pins) o 0) is_found

    pub is_known : (block : Block) → block ≡ arc_value resident.block → held_at view.blocks d p ≡ Some (held_of (pins_at view.blocks d p) block)
    is_known block same = is_found ∙ ap (λ (n : ℕ). Some (held_of n (arc_value resident.block))) (sym pins_found) ∙ ap (λ (b : Block). Some (held_of (pins_at view.blocks d p) b)) (sym same)

    -- what a look-up for a change finds
    pub slot_is : (slot : Option Resident) → Some slot ≡ lookup (nat_eq number) cache.entries → slot ≡ Some resident
    slot_is slot e = same_Some slot (Some resident) (e ∙ has.here)

    -- what a call that brings the slot to the front leaves
    pub used_is : (new : LruCache ℕ (Option Resident)) (pins : ℕ) → IfSome (lookup (nat_eq number) cache.entries) (λ slot. new ≡ lru_cache (set_value (nat_eq number) (promoted (nat_eq number) cache.entries) (option_map (with_pins pins) slot)) cache.cap) → new ≡ lru_cache (set_value (nat_eq number) (promoted (nat_eq number) cache.entries) (Some (with_pins pins resident))) cache.cap
    used_is new pins used =
        subst (λ (o : Option (Option Resident)). IfSome o (λ slot. new ≡ lru_cache (set_value (nat_eq number) (promoted (nat_eq number) cache.entries) (option_map (with_pins pins) slot)) cache.cap)) has.here used

    -- what one that keeps its place leaves in it
    pub set_is : (slot now : Option Resident) (pins : ℕ) → now ≡ option_map (with_pins pins) slot → Some slot ≡ lookup (nat_eq number) cache.entries → now ≡ Some (with_pins pins resident)
    set_is slot now pins set e = set ∙ ap (option_map (with_pins pins)) (slot_is slot e)

    pub pinned : (pins : ℕ) → pins ≡ resident.pins + 1
        → Leaves (lru_cache (set_value (nat_eq number) (promoted (nat_eq number) cache.entries) (Some (with_pins pins resident))) cache.cap) count room (without d p view.blocks ++ held_of (resident.pins + 1) (arc_value resident.block) ∷ [])
    pinned pins more =
        let left = kept_pinned cache count room shown.kept d p number resident has pins in (
          left.0,
          left.1
              ∙ ap (λ (l : List HeldBlock). without d p l ++ held_of pins (arc_value resident.block) ∷ []) shown.blocks
              ∙ ap (λ (n : ℕ). without d p view.blocks ++ held_of n (arc_value resident.block) ∷ []) more,
        )

    -- the same, said of the block as it was
    pub pinned_last : (blocks : List HeldBlock) → blocks ≡ without d p view.blocks ++ held_of (resident.pins + 1) (arc_value resident.block) ∷ []
        → IfSome (held_at view.blocks d p) (λ held. blocks ≡ without d p view.blocks ++ record held { pins = held.pins + 1 } ∷ [])
    pinned_last blocks is = subst (λ (o : Option HeldBlock). IfSome o (λ held. blocks ≡ without d p view.blocks ++ record held { pins = held.pins + 1 } ∷ [])) (sym is_found) is

    pub unpinned_once : Leaves (lru_cache (set_value (nat_eq number) cache.entries (Some (with_pins (resident.pins - 1) resident))) cache.cap) count room (map (unpinned d p) view.blocks)
    unpinned_once =
        let left = kept_unpinned cache count room shown.kept d p number resident has in
        (left.0, left.1 ∙ ap (map (unpinned d p)) shown.blocks)

    pub taken : Leaves (lru_cache (set_value (nat_eq number) cache.entries None) cache.cap) (count - 1) room (without d p view.blocks)
    taken =
        let left = kept_taken cache count room shown.kept d p number resident has in
        (left.0, left.1 ∙ ap (without d p) shown.blocks)

    pub one_less : length (without d p view.blocks) + 1 ≡ length view.blocks
    one_less = omega (arith, ap (λ (l : List HeldBlock). length (without d p l)) shown.blocks, ap length shown.blocks, counts cache count room shown.kept d p number resident has, ap length (left_is cache count room shown.kept d p number resident has))
