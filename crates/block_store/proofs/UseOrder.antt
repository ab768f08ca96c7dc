-- Blocks in use order, no two of one name: one of them among the others.
use Rattle.std.proofs.Common.{◌≡◌, ℕ, zero, suc, ◌-◌, ◌<◌, Bool, true, false, not, cond, eqb, ◌||◌, List, [], ◌∷◌, ◌++◌, map, length, Option, Some, refl, sym, ap, ◌∙◌, inl, inr, arith}
use Rattle.std.specs.List.{find, list_any, remove, slice_get}
use Rattle.std.specs.Option.{option_or}
use Rattle.std.proofs.lemmas.Bool.{cases_Bool, eqb-true, eq-eqb, and_parts, and_from, both_ways}
use Rattle.std.proofs.lemmas.Option.{none-some, same_Some}
use Rattle.std.proofs.lemmas.List.{map-append}
use Rattle.std.proofs.lemmas.List.Folds.{list_any-append, find-append}
use Rattle.block_store.specs.Stores.{HeldBlock, is_held, held_at, without, unpinned, AreApart}
use Rattle.block_store.proofs.Places.{PassesAt, any_at, any_parts, kept_all, find_none}

-- a block that is the one of this name has this name
pub name_is : (d p : ℕ) (held : HeldBlock) → is_held d p held ≡ true → (held.dataset ≡ d) × (held.part ≡ p)
name_is d p held holds =
    let parts = and_parts (eqb held.dataset d) (eqb held.part p) holds in
    (eqb-true held.dataset d parts.0, eqb-true held.part p parts.1)

-- two tests for one name are one test
pub same_test : (d p : ℕ) (held : HeldBlock) → is_held d p held ≡ true → is_held held.dataset held.part ≡ is_held d p
same_test d p held holds =
    let name = name_is d p held holds in
    ap (λ n. is_held n held.part) name.0 ∙ ap (is_held d) name.1

-- names are compared both ways
turned : (a b : HeldBlock) → is_held a.dataset a.part b ≡ false → is_held b.dataset b.part a ≡ false
turned a b fails =
    elim (cases_Bool (is_held b.dataset b.part a)) [
      | inl holds ↦
          let name = name_is b.dataset b.part a holds in
          absurd (both_ways (is_held a.dataset a.part b) fails (and_from (eqb b.dataset a.dataset) (eqb b.part a.part) (eq-eqb b.dataset a.dataset (sym name.0)) (eq-eqb b.part a.part (sym name.1))))
      | inr other ↦ other
    ]

-- none passes in two lists: in each, and with one between them that doesn't
or_parts : (a b : Bool) → (a || b) ≡ false → (a ≡ false) × (b ≡ false)
or_parts true b e = (e, absurd (both_ways true e refl))
or_parts false b e = (refl, e)

any_split : (test : HeldBlock → Bool) (xs ys : List HeldBlock) → list_any test (xs ++ ys) ≡ false → (list_any test xs ≡ false) × (list_any test ys ≡ false)
any_split test xs ys none = or_parts (list_any test xs) (list_any test ys) (sym (list_any-append test xs ys) ∙ none)

pub any_joined : (test : HeldBlock → Bool) (xs ys : List HeldBlock) → list_any test xs ≡ false → list_any test ys ≡ false → list_any test (xs ++ ys) ≡ false
any_joined test xs ys left right = list_any-append test xs ys ∙ ap (λ t. t || list_any test ys) left ∙ right

-- one block among others that are apart from it, and from each other
pub record IsAmong (d p : ℕ) (before after : List HeldBlock) : Type 0 where
  pub no_earlier : list_any (is_held d p) before ≡ false
  pub no_later : list_any (is_held d p) after ≡ false
  pub apart : AreApart (before ++ after)

pub among : (d p : ℕ) (before after : List HeldBlock) (held : HeldBlock) → AreApart (before ++ held ∷ after) → is_held d p held ≡ true → IsAmong d p before after
among d p [] after held apart holds =
    record {
      no_earlier = refl;
      no_later = ap (λ (t : HeldBlock → Bool). list_any t after) (sym (same_test d p held holds)) ∙ apart.0;
      apart = apart.1;
    }
among d p (b ∷ bs) after held apart holds =
    let rest = among d p bs after held apart.1 holds in
    let parts = any_split (is_held b.dataset b.part) bs (held ∷ after) apart.0 in
    let own = any_parts (is_held b.dataset b.part) held after parts.1 in
    let first : is_held d p b ≡ false = ap (λ (t : HeldBlock → Bool). t b) (sym (same_test d p held holds)) ∙ turned b held own.0 in
    record {
      no_earlier = ap (λ t. t || list_any (is_held d p) bs) first ∙ rest.no_earlier;
      no_later = rest.no_later;
      apart = (any_joined (is_held b.dataset b.part) bs after parts.0 own.1, rest.apart);
    }

-- the block is found there
pub found_among : (d p : ℕ) (before after : List HeldBlock) (held : HeldBlock) → IsAmong d p before after → is_held d p held ≡ true → held_at (before ++ held ∷ after) d p ≡ Some held
found_among d p before after held h holds =
    find-append (is_held d p) before (held ∷ after)
    ∙ ap (λ (o : Option HeldBlock). option_or o (find (is_held d p) (held ∷ after))) (find_none (is_held d p) before h.no_earlier)
    ∙ ap (λ t. cond t (Some held) (held_at after d p)) holds

-- the others are left without it
pub without_among : (d p : ℕ) (before after : List HeldBlock) (held : HeldBlock) → IsAmong d p before after → is_held d p held ≡ true → without d p (before ++ held ∷ after) ≡ before ++ after
without_among d p [] after held h holds =
    ap (λ t. cond (not t) (held ∷ without d p after) (without d p after)) holds ∙ kept_all (is_held d p) after h.no_later
without_among d p (b ∷ bs) after held h holds =
    let parts = any_parts (is_held d p) b bs h.no_earlier in
    let rest = without_among d p bs after held (record { no_earlier = parts.1; no_later = h.no_later; apart = h.apart.1 }) holds in
    ap (λ t. cond (not t) (b ∷ without d p (bs ++ held ∷ after)) (without d p (bs ++ held ∷ after))) parts.0 ∙ ap (λ (l : List HeldBlock). b ∷ l) rest

-- the others stay where it has a pin less
unpinned_none : (d p : ℕ) (blocks : List HeldBlock) → list_any (is_held d p) blocks ≡ false → map (unpinned d p) blocks ≡ blocks
unpinned_none d p [] none = refl
unpinned_none d p (b ∷ bs) none =
    let parts = any_parts (is_held d p) b bs none in
    ap (λ t. cond t (record b { pins = b.pins - 1 }) b ∷ map (unpinned d p) bs) parts.0 ∙ ap (λ (ys : List HeldBlock). b ∷ ys) (unpinned_none d p bs parts.1)

pub unpinned_among : (d p : ℕ) (before after : List HeldBlock) (held : HeldBlock) → IsAmong d p before after → is_held d p held ≡ true → map (unpinned d p) (before ++ held ∷ after) ≡ before ++ record held { pins = held.pins - 1 } ∷ after
unpinned_among d p before after held h holds =
    map-append (unpinned d p) before (held ∷ after)
    ∙ ap (λ (l : List HeldBlock). l ++ map (unpinned d p) (held ∷ after)) (unpinned_none d p before h.no_earlier)
    ∙ ap (λ t. before ++ cond t (record held { pins = held.pins - 1 }) held ∷ map (unpinned d p) after) holds
    ∙ ap (λ (l : List HeldBlock). before ++ record held { pins = held.pins - 1 } ∷ l) (unpinned_none d p after h.no_later)

-- the blocks stay apart

-- one of a new name is put behind them
pub apart_more : (blocks : List HeldBlock) (held : HeldBlock) → AreApart blocks → list_any (is_held held.dataset held.part) blocks ≡ false → AreApart (blocks ++ held ∷ [])
apart_more [] held apart none = (refl, tt)
apart_more (b ∷ bs) held apart none =
    let parts = any_parts (is_held held.dataset held.part) b bs none in
    (any_joined (is_held b.dataset b.part) bs (held ∷ []) apart.0 (ap (λ t. t || false) (turned held b parts.0)), apart_more bs held apart.1 parts.1)

-- a pin less changes no name
pub apart_unpinned : (d p : ℕ) (blocks : List HeldBlock) → AreApart blocks → AreApart (map (unpinned d p) blocks)
apart_unpinned d p [] apart = tt
apart_unpinned d p (b ∷ bs) apart = (first (is_held d p b), apart_unpinned d p bs apart.1)
  where
    same_name : (n q : ℕ) (t : Bool) (h : HeldBlock) → is_held n q (cond t (record h { pins = h.pins - 1 }) h) ≡ is_held n q h
    same_name n q true h = refl
    same_name n q false h = refl

    same_any : (n q : ℕ) (xs : List HeldBlock) → list_any (is_held n q) (map (unpinned d p) xs) ≡ list_any (is_held n q) xs
    same_any n q [] = refl
    same_any n q (x ∷ xs) =
        ap (λ t. t || list_any (is_held n q) (map (unpinned d p) xs)) (same_name n q (is_held d p x) x) ∙ ap (λ t. is_held n q x || t) (same_any n q xs)

    first : (t : Bool) → list_any (is_held (cond t (record b { pins = b.pins - 1 }) b).dataset (cond t (record b { pins = b.pins - 1 }) b).part) (map (unpinned d p) bs) ≡ false
    first true = same_any b.dataset b.part bs ∙ apart.0
    first false = same_any b.dataset b.part bs ∙ apart.0

-- one at a place, for callers

-- the block stands at this place, and no other has its name
pub record StandsAt (dataset part : ℕ) (blocks : List HeldBlock) (place : ℕ) : Type 0 where
  pub within : place < length blocks
  pub found : held_at blocks dataset part ≡ slice_get blocks place
  pub others : remove blocks place ≡ without dataset part blocks

-- a block of the name stands at the place, and no other has its name
pub stands : (d p : ℕ) (blocks : List HeldBlock) (i : ℕ) → AreApart blocks → PassesAt (is_held d p) blocks i → StandsAt d p blocks i
stands d p [] i apart found = absurd (none-some found.item found.here)
stands d p (b ∷ bs) zero apart found =
    let holds : is_held d p b ≡ true = ap (is_held d p) (same_Some b found.item found.here) ∙ found.passes in
    let none : list_any (is_held d p) bs ≡ false = ap (λ (t : HeldBlock → Bool). list_any t bs) (sym (same_test d p b holds)) ∙ apart.0 in
    record {
      within = omega arith;
      found = ap (λ t. cond t (Some b) (held_at bs d p)) holds;
      others = sym (ap (λ t. cond (not t) (b ∷ without d p bs) (without d p bs)) holds ∙ kept_all (is_held d p) bs none);
    }
stands d p (b ∷ bs) (suc i) apart found =
    let rest : StandsAt d p bs i = stands d p bs i apart.1 (record { item = found.item; here = found.here; passes = found.passes }) in
    let other : is_held d p b ≡ false =
    elim (cases_Bool (is_held d p b)) [
      | inl holds ↦ absurd (both_ways (list_any (is_held b.dataset b.part) bs) apart.0 (any_at (is_held b.dataset b.part) bs i found.item found.here (ap (λ (t : HeldBlock → Bool). t found.item) (same_test d p b holds) ∙ found.passes)))
      | inr fails ↦ fails
    ] in
    record {
      within = omega (arith, rest.within);
      found = ap (λ t. cond t (Some b) (held_at bs d p)) other ∙ rest.found;
      others = ap (λ (ys : List HeldBlock). b ∷ ys) rest.others ∙ sym (ap (λ t. cond (not t) (b ∷ without d p bs) (without d p bs)) other);
    }
