-- The blocks by the places that are kept of their names: one put last, and one taken out.
use Rattle.std.proofs.Common.{◌≡◌, ◌≢◌, ℕ, ◌+◌, ◌<◌, ◌≤◌, Bool, true, false, not, cond, ◌||◌, ◌⊎◌, List, [], ◌∷◌, ◌++◌, All, Option, Some, None, refl, sym, ap, subst, ◌∙◌, inl, inr, arith}
use Rattle.std.specs.Prelude.{nat_eq}
use Rattle.std.specs.Cmp.{nat_cmp_is, nat_cmp_total}
use Rattle.std.specs.List.{AllByRecursion, filter, list_any}
use Rattle.std.specs.List.Sorted.{IsStrictlySortedBy}
use Rattle.std.specs.Map.{keys_of, lookup, remove_entry}
use Rattle.std.specs.BTreeMap as tree
use Rattle.std.specs.BTreeMap.{BTreeMap, insert_entry, is_at}
use Rattle.std.specs.Option.{option_map_or}
use Rattle.std.specs.Ordering.{nat_cmp, is_eq, match_ordering}
use Rattle.std.specs.declared.cmp.Ordering.{Ordering}
use Rattle.std.specs.declared.cmp.Ordering.TheVariants.{Less, Equal, Greater}
use Rattle.std.proofs.lemmas.Bool.{and_from, and_parts, both_ways, cases_eq, cases_order, cond-true, cond-false, eq-eqb, eqb-true, ne_eqb}
use Rattle.std.proofs.lemmas.Cmp.{ranked}
use Rattle.std.proofs.lemmas.List.{map-append}
use Rattle.std.proofs.lemmas.List.Elements.{All-head, All-tail, filter_passes}
use Rattle.std.proofs.lemmas.Map.Entries.{btree_map_get_place}
use Rattle.std.proofs.lemmas.Map.Keys.{sorted_head, sorted_tail}
use Rattle.std.proofs.lemmas.Option.{slice_get-get_or}
use Rattle.pool_ledger.specs.Blocks.{Resident, is_block, only, without}
use Rattle.journal_replay.specs.declared.placed.Placed.{Placed}
use Rattle.journal_replay.specs.Tables.{named, same_name}
use Rattle.journal_replay.specs.declared.use_order.UseOrder.{UseOrder}
use Rattle.journal_audit.specs.Rules.{is_the}
use Rattle.journal_replay.specs.UseOrder.{block_by, place_of, resident_in, residents_in, IsInOrder}
use Rattle.journal_replay.proofs.InUse.{none_kept, none_taken}

-- Entries by their places

pub at_here : (a b : ℕ) → a ≡ b → is_at (nat_cmp a) b ≡ true
at_here a b same = ap is_eq (sym (nat_cmp_is a b Equal same))

pub not_here : (a b : ℕ) → a ≢ b → is_at (nat_cmp a) b ≡ false
not_here a b other = elim (cases_order a b) [
  | inl same ↦ absurd (other same)
  | inr (inl low) ↦ ap is_eq (sym (nat_cmp_is a b Less low))
  | inr (inr high) ↦ ap is_eq (sym (nat_cmp_is a b Greater high))
]

-- each entry is what its place has
pub each_at : (blocks : BTreeMap ℕ Placed) → tree.IsOrdered nat_cmp blocks → All (λ e. block_by blocks e.0 ≡ Some e.1) blocks.entries
each_at blocks ordered = λ k d below.
    btree_map_get_place nat_cmp_total blocks k _ _ ordered (slice_get-get_or blocks.entries k d below)

-- what a place has is no block that isn't listed
pub no_block : (d p : ℕ) (test : ℕ → Bool) (es : List (ℕ × Placed)) (x : Placed) → list_any (is_block d p) (residents_in es) ≡ false → lookup test es ≡ Some x
    → is_block d p (resident_in x) ≡ false
no_block d p test [] x none there = absurd (cc there)
no_block d p test (e ∷ es) x none there = by (test e.0) (is_block d p (resident_in e.1)) refl none there (no_block d p test es x)
  where
    by : (t u : Bool) → is_block d p (resident_in e.1) ≡ u → (u || list_any (is_block d p) (residents_in es)) ≡ false → cond t (Some e.1) (lookup test es) ≡ Some x
        → (list_any (is_block d p) (residents_in es) ≡ false → lookup test es ≡ Some x → is_block d p (resident_in x) ≡ false) → is_block d p (resident_in x) ≡ false
    by t true is one found more = absurd (cc one)
    by true false is one found more = let same : e.1 ≡ x = cc found in ap (λ (y : Placed). is_block d p (resident_in y)) (sym same) ∙ is
    by false false is one found more = more one found

-- none is listed where none of the entries is the block
pub none_listed : (d p : ℕ) (es : List (ℕ × Placed)) → All (λ e. is_block d p (resident_in e.1) ≡ false) es → list_any (is_block d p) (residents_in es) ≡ false
none_listed d p [] none = refl
none_listed d p (e ∷ es) none =
    ap (λ t. t || list_any (is_block d p) (residents_in es)) (All-head (λ x. is_block d p (resident_in x.1) ≡ false) e es none)
    ∙ none_listed d p es (All-tail (λ x. is_block d p (resident_in x.1) ≡ false) e es none)

-- One taken out

-- the place of the block is this one
abbrev pub StandsAt : ℕ → ℕ → ℕ → ℕ × Placed → Type 0
StandsAt d p place e = is_the (Some place) e.0 ≡ is_block d p (resident_in e.1)

none_behind : (d p place low : ℕ) → place ≤ low → (es : List (ℕ × Placed)) → AllByRecursion (λ y. nat_cmp low y ≡ Less) (keys_of es) → All (StandsAt d p place) es
    → list_any (is_block d p) (residents_in es) ≡ false
none_behind d p place low order [] above stands = refl
none_behind d p place low order (e ∷ es) above stands =
    let later : low < e.0 = ranked low e.0 Less (sym above.0) in
    ap (λ t. t || list_any (is_block d p) (residents_in es))
    (sym (All-head (StandsAt d p place) e es stands) ∙ ne_eqb place e.0 (λ same. omega (arith, same, later, order)))
    ∙ none_behind d p place low order es above.1 (All-tail (StandsAt d p place) e es stands)

module _ (d p place : ℕ) where
  pub without_taken : (es : List (ℕ × Placed)) → IsStrictlySortedBy nat_cmp (keys_of es) → All (StandsAt d p place) es
      → residents_in (remove_entry (is_at (nat_cmp place)) es) ≡ without d p (residents_in es)
  without_taken [] sorted stands = refl
  without_taken (e ∷ es) sorted stands =
      by (without_taken es (sorted_tail nat_cmp e.0 (keys_of es) sorted) (All-tail (StandsAt d p place) e es stands)) (cases_eq place e.0)
    where
      by : residents_in (remove_entry (is_at (nat_cmp place)) es) ≡ without d p (residents_in es)
          → (place ≡ e.0) ⊎ (place ≢ e.0) → residents_in (remove_entry (is_at (nat_cmp place)) (e ∷ es)) ≡ without d p (residents_in (e ∷ es))
      by more (inl same) =
          let is : is_block d p (resident_in e.1) ≡ true = sym (All-head (StandsAt d p place) e es stands) ∙ eq-eqb place e.0 same in
          let none = none_behind d p place e.0 (omega (arith, same)) es (sorted_head nat_cmp e.0 (keys_of es) sorted) (All-tail (StandsAt d p place) e es stands) in
          ap residents_in (cond-true (is_at (nat_cmp place) e.0) es (e ∷ remove_entry (is_at (nat_cmp place)) es) (at_here place e.0 same))
          ∙ sym (none_taken (is_block d p) (residents_in es) none)
          ∙ sym (cond-false (not (is_block d p (resident_in e.1))) (resident_in e.1 ∷ without d p (residents_in es)) (without d p (residents_in es)) (ap not is))
      by more (inr other) =
          let isn't : is_block d p (resident_in e.1) ≡ false = sym (All-head (StandsAt d p place) e es stands) ∙ ne_eqb place e.0 other in
          ap residents_in (cond-false (is_at (nat_cmp place) e.0) es (e ∷ remove_entry (is_at (nat_cmp place)) es) (not_here place e.0 other))
          ∙ ap (λ (l : List Resident). resident_in e.1 ∷ l) more
          ∙ sym (cond-true (not (is_block d p (resident_in e.1))) (resident_in e.1 ∷ without d p (residents_in es)) (without d p (residents_in es)) (ap not isn't))

  pub only_taken : (es : List (ℕ × Placed)) → IsStrictlySortedBy nat_cmp (keys_of es) → All (StandsAt d p place) es
      → only d p (residents_in es) ≡ option_map_or (λ x. resident_in x ∷ []) (lookup (is_at (nat_cmp place)) es) []
  only_taken [] sorted stands = refl
  only_taken (e ∷ es) sorted stands =
      by (only_taken es (sorted_tail nat_cmp e.0 (keys_of es) sorted) (All-tail (StandsAt d p place) e es stands)) (cases_eq place e.0)
    where
      by : only d p (residents_in es) ≡ option_map_or (λ x. resident_in x ∷ []) (lookup (is_at (nat_cmp place)) es) []
          → (place ≡ e.0) ⊎ (place ≢ e.0) → only d p (residents_in (e ∷ es)) ≡ option_map_or (λ x. resident_in x ∷ []) (lookup (is_at (nat_cmp place)) (e ∷ es)) []
      by more (inl same) =
          let is : is_block d p (resident_in e.1) ≡ true = sym (All-head (StandsAt d p place) e es stands) ∙ eq-eqb place e.0 same in
          let none = none_behind d p place e.0 (omega (arith, same)) es (sorted_head nat_cmp e.0 (keys_of es) sorted) (All-tail (StandsAt d p place) e es stands) in
          cond-true (is_block d p (resident_in e.1)) (resident_in e.1 ∷ only d p (residents_in es)) (only d p (residents_in es)) is
          ∙ ap (λ (l : List Resident). resident_in e.1 ∷ l) (none_kept (is_block d p) (residents_in es) none)
          ∙ ap (λ (o : Option Placed). option_map_or (λ x. resident_in x ∷ []) o []) (sym (cond-true (is_at (nat_cmp place) e.0) (Some e.1) (lookup (is_at (nat_cmp place)) es) (at_here place e.0 same)))
      by more (inr other) =
          let isn't : is_block d p (resident_in e.1) ≡ false = sym (All-head (StandsAt d p place) e es stands) ∙ ne_eqb place e.0 other in
          cond-false (is_block d p (resident_in e.1)) (resident_in e.1 ∷ only d p (residents_in es)) (only d p (residents_in es)) isn't
          ∙ more
          ∙ ap (λ (o : Option Placed). option_map_or (λ x. resident_in x ∷ []) o []) (sym (cond-false (is_at (nat_cmp place) e.0) (Some e.1) (lookup (is_at (nat_cmp place)) es) (not_here place e.0 other)))

-- One put last

pub put_last_entry : (place : ℕ) (x : Placed) (es : List (ℕ × Placed)) → All (λ e. e.0 < place) es → insert_entry nat_cmp es place x ≡ es ++ (place, x) ∷ []
put_last_entry place x [] below = refl
put_last_entry place x (e ∷ es) below =
    ap (λ (o : Ordering). match_ordering o ((place, x) ∷ e ∷ es) ((e.0, x) ∷ es) (e ∷ insert_entry nat_cmp es place x))
    (sym (nat_cmp_is place e.0 Greater (All-head (λ y. y.0 < place) e es below)))
    ∙ ap (λ (l : List (ℕ × Placed)). e ∷ l) (put_last_entry place x es (All-tail (λ y. y.0 < place) e es below))

pub put_last_residents : (place : ℕ) (x : Placed) (es new : List (ℕ × Placed)) → All (λ e. e.0 < place) es → new ≡ insert_entry nat_cmp es place x
    → residents_in new ≡ residents_in es ++ resident_in x ∷ []
put_last_residents place x es new below is =
    ap residents_in (is ∙ put_last_entry place x es below) ∙ map-append (λ (e : ℕ × Placed). resident_in e.1) es ((place, x) ∷ [])

-- The places that are kept

itself : (x : Placed) → is_block x.name.dataset x.name.part (resident_in x) ≡ true
itself x = and_from (nat_eq x.name.dataset x.name.dataset) (nat_eq x.name.part x.name.part) (eq-eqb x.name.dataset x.name.dataset refl) (eq-eqb x.name.part x.name.part refl)

-- the name of a block is its own
pub own_name : (x : Placed) (d p : ℕ) → same_name x.name (named d p) ≡ true → (x.name.dataset ≡ d) × (x.name.part ≡ p)
own_name x d p holds =
    let parts = and_parts (nat_eq x.name.dataset d) (nat_eq x.name.part p) holds in
    (eqb-true x.name.dataset d parts.0, eqb-true x.name.part p parts.1)

same_names : (a b c d : ℕ) → same_name (named a b) (named c d) ≡ true → (a ≡ c) × (b ≡ d)
same_names a b c d holds = let parts = and_parts (nat_eq a c) (nat_eq b d) holds in (eqb-true a c parts.0, eqb-true b d parts.1)

elsewhere : (o : Option ℕ) (q place : ℕ) → ((k : ℕ) → o ≡ Some k → k < place) → place ≤ q → is_the o q ≡ false
elsewhere None q place before order = refl
elsewhere (Some k) q place before order = ne_eqb k q (λ same. omega (arith, same, before k refl, order))

-- the blocks by their places, and the places by their names
module _ (at new_at : ℕ → Option Placed) (place_of new_place_of : ℕ → ℕ → Option ℕ) where
  -- the block at a place is the one of which this place is kept
  abbrev pub Known : (ℕ → Option Placed) → (ℕ → ℕ → Option ℕ) → Type 0
  Known here kept = (place : ℕ) (x : Placed) → here place ≡ Some x → (d p : ℕ) → is_the (kept d p) place ≡ is_block d p (resident_in x)

  pub known_put : (place : ℕ) (put : Placed) → Known at place_of → ((d p k : ℕ) → place_of d p ≡ Some k → k < place)
      → ((q : ℕ) (x : Placed) → at q ≡ Some x → is_block put.name.dataset put.name.part (resident_in x) ≡ false)
      → new_at place ≡ Some put → ((q : ℕ) → q ≢ place → new_at q ≡ at q)
      → ((d p : ℕ) → new_place_of d p ≡ cond (same_name put.name (named d p)) (Some place) (place_of d p))
      → Known new_at new_place_of
  known_put place put known before absent here others kept q x at_q d p = elim (cases_eq q place) [
    | inl same ↦
        let one : Some x ≡ Some put = sym at_q ∙ ap new_at same ∙ here in
        let alike : x ≡ put = cc one in
        ap (λ (o : Option ℕ). is_the o q) (kept d p) ∙ here_too (same_name put.name (named d p)) same ∙ ap (λ (y : Placed). is_block d p (resident_in y)) (sym alike)
    | inr other ↦
        let old : at q ≡ Some x = sym (others q other) ∙ at_q in
        ap (λ (o : Option ℕ). is_the o q) (kept d p) ∙ another (same_name put.name (named d p)) refl other old
  ]
    where
      here_too : (t : Bool) → q ≡ place → is_the (cond t (Some place) (place_of d p)) q ≡ t
      here_too true same = eq-eqb place q (sym same)
      here_too false same = elsewhere (place_of d p) q place (before d p) (omega (arith, same))

      another : (t : Bool) → same_name put.name (named d p) ≡ t → q ≢ place → at q ≡ Some x → is_the (cond t (Some place) (place_of d p)) q ≡ is_block d p (resident_in x)
      another true holds other old =
          let own = own_name put d p holds in
          ne_eqb place q (λ same. other (sym same)) ∙ sym (absent q x old)
          ∙ ap (λ (n : ℕ). is_block n put.name.part (resident_in x)) own.0 ∙ ap (λ (n : ℕ). is_block d n (resident_in x)) own.1
      another false holds other old = known q x old d p

  pub before_put : (place : ℕ) (put : Placed) → ((d p k : ℕ) → place_of d p ≡ Some k → k < place)
      → ((d p : ℕ) → new_place_of d p ≡ cond (same_name put.name (named d p)) (Some place) (place_of d p))
      → (d p k : ℕ) → new_place_of d p ≡ Some k → k < place + 1
  before_put place put before kept d p k there = by (same_name put.name (named d p)) (sym (kept d p) ∙ there)
    where
      by : (t : Bool) → cond t (Some place) (place_of d p) ≡ Some k → k < place + 1
      by true is = let same : place ≡ k = cc is in omega (arith, same)
      by false is = omega (arith, before d p k is)

  pub known_taken : (d0 p0 : ℕ) → Known at place_of → ((q : ℕ) (x : Placed) → new_at q ≡ Some x → at q ≡ Some x)
      → ((q : ℕ) (x : Placed) → new_at q ≡ Some x → is_block d0 p0 (resident_in x) ≡ false)
      → ((d p : ℕ) → new_place_of d p ≡ cond (same_name (named d0 p0) (named d p)) None (place_of d p))
      → Known new_at new_place_of
  known_taken d0 p0 known still gone kept q x at_q d p =
      ap (λ (o : Option ℕ). is_the o q) (kept d p) ∙ by (same_name (named d0 p0) (named d p)) refl
    where
      by : (t : Bool) → same_name (named d0 p0) (named d p) ≡ t → is_the (cond t None (place_of d p)) q ≡ is_block d p (resident_in x)
      by true holds =
          let same = same_names d0 p0 d p holds in
          sym (gone q x at_q) ∙ ap (λ (n : ℕ). is_block n p0 (resident_in x)) same.0 ∙ ap (λ (n : ℕ). is_block d n (resident_in x)) same.1
      by false holds = known q x (still q x at_q) d p

  pub before_taken : (d0 p0 place : ℕ) → ((d p k : ℕ) → place_of d p ≡ Some k → k < place)
      → ((d p : ℕ) → new_place_of d p ≡ cond (same_name (named d0 p0) (named d p)) None (place_of d p))
      → (d p k : ℕ) → new_place_of d p ≡ Some k → k < place
  before_taken d0 p0 place before kept d p k there = by (same_name (named d0 p0) (named d p)) (sym (kept d p) ∙ there)
    where
      by : (t : Bool) → cond t None (place_of d p) ≡ Some k → k < place
      by true is = absurd (cc is)
      by false is = before d p k is

-- the place that is kept of a block is its own
own_place : (place : ℕ) (x : Placed) (kept : Option ℕ) → is_the kept place ≡ is_block x.name.dataset x.name.part (resident_in x) → kept ≡ Some place
own_place place x None same = absurd (both_ways (is_block x.name.dataset x.name.part (resident_in x)) (sym same) (itself x))
own_place place x (Some k) same = ap Some (eqb-true k place (same ∙ itself x))

-- all blocks stand before this place
pub all_before : (order : UseOrder) (place : ℕ) → IsInOrder order place → (q : ℕ) (x : Placed) → block_by order.placed q ≡ Some x → q < place
all_before order place is q x there =
    is.before x.name.dataset x.name.part q
    (own_place q x (place_of order.places x.name.dataset x.name.part) (is.known q x there x.name.dataset x.name.part))

-- and before the next one
pub in_order_later : (order : UseOrder) (place : ℕ) → IsInOrder order place → IsInOrder order (place + 1)
in_order_later order place is = record {
  known = is.known;
  before = λ d p k there. omega (arith, is.before d p k there);
  stretches = is.stretches;
}

-- a block that was taken out isn't listed
none_without : (q : Resident → Bool) (blocks : List Resident) → list_any q (filter (λ b. not (q b)) blocks) ≡ false
none_without q [] = refl
none_without q (b ∷ blocks) = by (q b) refl (none_without q blocks)
  where
    by : (t : Bool) → q b ≡ t → list_any q (filter (λ x. not (q x)) blocks) ≡ false → list_any q (cond (not t) (b ∷ filter (λ x. not (q x)) blocks) (filter (λ x. not (q x)) blocks)) ≡ false
    by true is more = more
    by false is more = ap (λ t. t || list_any q (filter (λ x. not (q x)) blocks)) is ∙ more

pub taken_absent : (d p : ℕ) (blocks left : List Resident) (x : Placed) → left ≡ without d p blocks → only d p blocks ≡ resident_in x ∷ []
    → list_any (is_block x.name.dataset x.name.part) left ≡ false
taken_absent d p blocks left x are one =
    let passes : is_block d p (resident_in x) ≡ true =
    All-head (λ b. is_block d p b ≡ true) (resident_in x) [] (subst (All (λ b. is_block d p b ≡ true)) one (filter_passes (is_block d p) blocks)) in
    let own = own_name x d p passes in
    ap (λ (n : ℕ). list_any (is_block n x.name.part) left) own.0
    ∙ ap (λ (n : ℕ). list_any (is_block d n) left) own.1
    ∙ ap (list_any (is_block d p)) are
    ∙ none_without (is_block d p) blocks

-- where a place has no block any more, another has the one that it had
pub still_there : (at new_at : ℕ → Option Placed) (place : ℕ) → new_at place ≡ None → ((q : ℕ) → q ≢ place → new_at q ≡ at q) → (q : ℕ) (x : Placed) → new_at q ≡ Some x
    → (at q ≡ Some x) × (q ≢ place)
still_there at new_at place gone others q x there = elim (cases_eq q place) [
  | inl is ↦
      let both : Some x ≡ None = sym there ∙ ap new_at is ∙ gone in
      absurd (cc both)
  | inr other ↦ (sym (others q other) ∙ there, other)
]
