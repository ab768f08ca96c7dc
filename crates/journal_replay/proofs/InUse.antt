-- The blocks in use order: one found, added, taken out or used, no two of one name.
use Rattle.std.proofs.Common.{◌≡◌, ℕ, ◌-◌, ◌^◌, ◌<◌, Bool, true, false, not, cond, ◌&&◌, ◌||◌, ◌⊎◌, List, [], ◌∷◌, ◌++◌, take, length, Option, Some, None, refl, sym, ap, ◌∙◌, inl, inr, arith, append-nil}
use Rattle.std.specs.Prelude.{nat_eq, is_some}
use Rattle.std.specs.List.{find, filter, list_any, IsDistinct}
use Rattle.std.specs.Option.{option_map, option_map_or, option_or}
use Rattle.std.specs.Map.{keys_of, lookup, lookup_entry, remove_entry}
use Rattle.std.specs.Cmp.{IsEquivalence, nat_eq_equiv}
use Rattle.std.proofs.lemmas.Bool.{cases_Bool, eqb-true, eq-eqb, and_parts, and_from}
use Rattle.std.proofs.lemmas.List.{take_all}
use Rattle.std.proofs.lemmas.List.Elements.{filter-append}
use Rattle.std.proofs.lemmas.List.Folds.{list_any-append, find-append}
use Rattle.std.proofs.lemmas.Map.{lookup-none}
use Rattle.std.proofs.lemmas.Map.Entries.{none_past_head}
use Rattle.std.proofs.lemmas.Map.Keys.{IsDistinct-tail}
use Rattle.lru.specs.LruCache.{LruCache, promoted, put_entries}
use Rattle.pool_ledger.specs.Blocks.{Resident, is_block, only, without}
use Rattle.journal_replay.specs.declared.block_name.BlockName.{BlockName}
use Rattle.journal_replay.specs.declared.blocks.Kept.{Kept}
use Rattle.journal_replay.specs.Tables.{named, same_name, block_of, blocks_in, resident_of}

-- Names

pub its_name : (d p : ℕ) (name : BlockName) → same_name (named d p) name ≡ true → name ≡ named d p
its_name d p name holds =
    let parts = and_parts (nat_eq d name.dataset) (nat_eq p name.part) holds in
    ap (λ (x : ℕ). named x name.part) (sym (eqb-true d name.dataset parts.0)) ∙ ap (named d) (sym (eqb-true p name.part parts.1))

pub name_laws : IsEquivalence same_name
name_laws = record {
  refl = λ n. and_from (nat_eq n.dataset n.dataset) (nat_eq n.part n.part) (eq-eqb n.dataset n.dataset refl) (eq-eqb n.part n.part refl);
  symm = λ a b. ap (λ t. t && nat_eq a.part b.part) (nat_eq_equiv.symm a.dataset b.dataset) ∙ ap (λ t. nat_eq b.dataset a.dataset && t) (nat_eq_equiv.symm a.part b.part);
  congr = λ a b c holds. ap (λ (n : BlockName). same_name n c) (sym (its_name a.dataset a.part b holds));
}

-- the test of a name and that of its block are one
same_test : (d p : ℕ) (e : BlockName × Kept) → same_name (named d p) e.0 ≡ is_block d p (block_of e)
same_test d p e =
    ap (λ t. t && nat_eq p e.0.part) (nat_eq_equiv.symm d e.0.dataset) ∙ ap (λ t. nat_eq e.0.dataset d && t) (nat_eq_equiv.symm p e.0.part)

-- Whether there is one

or_true : (a : Bool) → (a || true) ≡ true
or_true true = refl
or_true false = refl

joined : (a t : Bool) (found : Option Kept) (kept : Kept) → a ≡ is_some found → (a || (t || false)) ≡ is_some (cond t (Some kept) found)
joined a true found kept same = or_true a
joined true false found kept same = same
joined false false found kept same = same

pub any_blocks : (d p : ℕ) (es : List (BlockName × Kept)) → list_any (is_block d p) (blocks_in es) ≡ is_some (lookup (same_name (named d p)) es)
any_blocks d p [] = refl
any_blocks d p (e ∷ es) =
    list_any-append (is_block d p) (blocks_in es) (block_of e ∷ [])
    ∙ joined (list_any (is_block d p) (blocks_in es)) (is_block d p (block_of e)) (lookup (same_name (named d p)) es) e.1 (any_blocks d p es)
    ∙ ap (λ t. is_some (cond t (Some e.1) (lookup (same_name (named d p)) es))) (sym (same_test d p e))

-- where none is found none passes
none_some : (found : Option Kept) → found ≡ None → is_some found ≡ false
none_some None h = refl
none_some (Some kept) h = absurd (cc h)

pub some_none : (found : Option Kept) → is_some found ≡ false → found ≡ None
some_none None h = refl
some_none (Some kept) h = absurd (cc h)

-- The first entry, and the others

-- the first entry of a list has the name, and no other does
record IsFirst (d p : ℕ) (e : BlockName × Kept) (es : List (BlockName × Kept)) : Type 0 where
  pub passes : is_block d p (block_of e) ≡ true
  pub name : e.0 ≡ named d p
  pub gone : lookup (same_name (named d p)) es ≡ None
  pub others : list_any (is_block d p) (blocks_in es) ≡ false

is_first : (d p : ℕ) (e : BlockName × Kept) (es : List (BlockName × Kept)) → IsDistinct same_name (keys_of (e ∷ es)) → same_name (named d p) e.0 ≡ true → IsFirst d p e es
is_first d p e es apart holds =
    let gone : lookup (same_name (named d p)) es ≡ None = lookup-none (same_name (named d p)) es (none_past_head name_laws (named d p) e es apart holds) in
    record {
      passes = sym (same_test d p e) ∙ holds;
      name = its_name d p e.0 holds;
      gone = gone;
      others = any_blocks d p es ∙ none_some (lookup (same_name (named d p)) es) gone;
    }

module _ (q : Resident → Bool) where
  none_found : (xs : List Resident) → list_any q xs ≡ false → find q xs ≡ None
  none_found [] none = refl
  none_found (x ∷ xs) none = by (q x) none (none_found xs)
    where
      by : (t : Bool) → (t || list_any q xs) ≡ false → (list_any q xs ≡ false → find q xs ≡ None) → cond t (Some x) (find q xs) ≡ None
      by true h more = absurd (cc h)
      by false h more = more h

  pub none_taken : (xs : List Resident) → list_any q xs ≡ false → filter (λ x. not (q x)) xs ≡ xs
  none_taken [] none = refl
  none_taken (x ∷ xs) none = by (q x) none (none_taken xs)
    where
      by : (t : Bool) → (t || list_any q xs) ≡ false → (list_any q xs ≡ false → filter (λ y. not (q y)) xs ≡ xs) → cond (not t) (x ∷ filter (λ y. not (q y)) xs) (filter (λ y. not (q y)) xs) ≡ x ∷ xs
      by true h more = absurd (cc h)
      by false h more = ap (λ (ys : List Resident). x ∷ ys) (more h)

  pub none_kept : (xs : List Resident) → list_any q xs ≡ false → filter q xs ≡ []
  none_kept [] none = refl
  none_kept (x ∷ xs) none = by (q x) none (none_kept xs)
    where
      by : (t : Bool) → (t || list_any q xs) ≡ false → (list_any q xs ≡ false → filter q xs ≡ []) → cond t (x ∷ filter q xs) (filter q xs) ≡ []
      by true h more = absurd (cc h)
      by false h more = more h

or_none : (o : Option Resident) → option_or o None ≡ o
or_none None = refl
or_none (Some x) = refl

-- One found

pub find_blocks : (d p : ℕ) (es : List (BlockName × Kept)) → IsDistinct same_name (keys_of es) → option_map (resident_of d p) (lookup (same_name (named d p)) es) ≡ find (is_block d p) (blocks_in es)
find_blocks d p [] apart = refl
find_blocks d p (e ∷ es) apart = sym (find-append (is_block d p) (blocks_in es) (block_of e ∷ []) ∙ by (find_blocks d p es (IsDistinct-tail same_name e.0 (keys_of es) apart)) (cases_Bool (same_name (named d p) e.0)))
  where
    by : option_map (resident_of d p) (lookup (same_name (named d p)) es) ≡ find (is_block d p) (blocks_in es)
        → (same_name (named d p) e.0 ≡ true) ⊎ (same_name (named d p) e.0 ≡ false)
        → option_or (find (is_block d p) (blocks_in es)) (find (is_block d p) (block_of e ∷ [])) ≡ option_map (resident_of d p) (lookup (same_name (named d p)) (e ∷ es))
    by more (inl holds) =
        let first = is_first d p e es apart holds in
        rw (none_found (is_block d p) (blocks_in es) first.others, first.passes, holds) (ap (λ (n : BlockName). Some (resident_of n.dataset n.part e.1)) first.name)
    by more (inr fails) =
        rw (sym (same_test d p e) ∙ fails, fails) (or_none (find (is_block d p) (blocks_in es)) ∙ sym more)

-- One taken out

pub without_blocks : (d p : ℕ) (es : List (BlockName × Kept)) → IsDistinct same_name (keys_of es) → blocks_in (remove_entry (same_name (named d p)) es) ≡ without d p (blocks_in es)
without_blocks d p [] apart = refl
without_blocks d p (e ∷ es) apart = sym (filter-append (λ block. not (is_block d p block)) (blocks_in es) (block_of e ∷ []) ∙ by (without_blocks d p es (IsDistinct-tail same_name e.0 (keys_of es) apart)) (cases_Bool (same_name (named d p) e.0)))
  where
    by : blocks_in (remove_entry (same_name (named d p)) es) ≡ without d p (blocks_in es)
        → (same_name (named d p) e.0 ≡ true) ⊎ (same_name (named d p) e.0 ≡ false)
        → without d p (blocks_in es) ++ without d p (block_of e ∷ []) ≡ blocks_in (remove_entry (same_name (named d p)) (e ∷ es))
    by more (inl holds) =
        let first = is_first d p e es apart holds in
        rw (none_taken (is_block d p) (blocks_in es) first.others, first.passes, holds) (append-nil (blocks_in es))
    by more (inr fails) =
        rw (sym (same_test d p e) ∙ fails, fails) (ap (λ (bs : List Resident). bs ++ block_of e ∷ []) (sym more))

-- One used

only_blocks : (d p : ℕ) (es : List (BlockName × Kept)) → IsDistinct same_name (keys_of es) → only d p (blocks_in es) ≡ option_map_or (λ e. block_of e ∷ []) (lookup_entry (same_name (named d p)) es) []
only_blocks d p [] apart = refl
only_blocks d p (e ∷ es) apart = filter-append (is_block d p) (blocks_in es) (block_of e ∷ []) ∙ by (only_blocks d p es (IsDistinct-tail same_name e.0 (keys_of es) apart)) (cases_Bool (same_name (named d p) e.0))
  where
    by : only d p (blocks_in es) ≡ option_map_or (λ f. block_of f ∷ []) (lookup_entry (same_name (named d p)) es) []
        → (same_name (named d p) e.0 ≡ true) ⊎ (same_name (named d p) e.0 ≡ false)
        → only d p (blocks_in es) ++ only d p (block_of e ∷ []) ≡ option_map_or (λ e. block_of e ∷ []) (lookup_entry (same_name (named d p)) (e ∷ es)) []
    by more (inl holds) =
        let first = is_first d p e es apart holds in
        rw (none_kept (is_block d p) (blocks_in es) first.others, first.passes, holds) refl
    by more (inr fails) =
        rw (sym (same_test d p e) ∙ fails, fails) (append-nil (only d p (blocks_in es)) ∙ more)

whole : (d p : ℕ) (es : List (BlockName × Kept)) → lookup_entry (same_name (named d p)) es ≡ None → remove_entry (same_name (named d p)) es ≡ es
whole d p [] none = refl
whole d p (e ∷ es) none = by (same_name (named d p) e.0) none (whole d p es)
  where
    by : (t : Bool) → cond t (Some e) (lookup_entry (same_name (named d p)) es) ≡ None
        → (lookup_entry (same_name (named d p)) es ≡ None → remove_entry (same_name (named d p)) es ≡ es) → cond t es (e ∷ remove_entry (same_name (named d p)) es) ≡ e ∷ es
    by true h more = absurd (cc h)
    by false h more = ap (λ (l : List (BlockName × Kept)). e ∷ l) (more h)

pub used_blocks : (d p : ℕ) (es : List (BlockName × Kept)) → IsDistinct same_name (keys_of es) → blocks_in (promoted (same_name (named d p)) es) ≡ without d p (blocks_in es) ++ only d p (blocks_in es)
used_blocks d p es apart = rw (← without_blocks d p es apart, only_blocks d p es apart) (by (lookup_entry (same_name (named d p)) es) refl)
  where
    by : (o : Option (BlockName × Kept)) → lookup_entry (same_name (named d p)) es ≡ o
        → blocks_in (option_map_or (λ e. e ∷ remove_entry (same_name (named d p)) es) o es) ≡ blocks_in (remove_entry (same_name (named d p)) es) ++ option_map_or (λ e. block_of e ∷ []) o []
    by None none = ap blocks_in (sym (whole d p es none)) ∙ sym (append-nil (blocks_in (remove_entry (same_name (named d p)) es)))
    by (Some e) there = refl

-- One added

no_entry : (d p : ℕ) (es : List (BlockName × Kept)) → lookup (same_name (named d p)) es ≡ None → lookup_entry (same_name (named d p)) es ≡ None
no_entry d p [] none = refl
no_entry d p (e ∷ es) none = by (same_name (named d p) e.0) none (no_entry d p es)
  where
    by : (t : Bool) → cond t (Some e.1) (lookup (same_name (named d p)) es) ≡ None
        → (lookup (same_name (named d p)) es ≡ None → lookup_entry (same_name (named d p)) es ≡ None) → cond t (Some e) (lookup_entry (same_name (named d p)) es) ≡ None
    by true h more = absurd (cc h)
    by false h more = more h

pub added_blocks : (cache : LruCache BlockName Kept) (name : BlockName) (kept : Kept) → list_any (is_block name.dataset name.part) (blocks_in cache.entries) ≡ false → cache.cap ≡ 2 ^ 64 - 1 → length cache.entries < 2 ^ 63 → blocks_in (put_entries same_name cache name kept) ≡ blocks_in cache.entries ++ block_of (name, kept) ∷ []
added_blocks cache name kept absent cap few =
    let gone = no_entry name.dataset name.part cache.entries (some_none (lookup (same_name name) cache.entries) (sym (any_blocks name.dataset name.part cache.entries) ∙ absent)) in
    ap (λ (o : Option (BlockName × Kept)). blocks_in (option_map_or (λ e. (e.0, kept) ∷ remove_entry (same_name name) cache.entries) o ((name, kept) ∷ take (cache.cap - 1) cache.entries))) gone
    ∙ ap (λ (es : List (BlockName × Kept)). blocks_in ((name, kept) ∷ es)) (take_all (cache.cap - 1) cache.entries (omega (arith, cap, few)))
