-- Rows stay those that a basis gives.
use Rattle.std.proofs.Common.{◌≡◌, ◌+◌, ℕ, Bool, true, false, Option, Some, None, List, [], ◌∷◌, ◌++◌, refl, sym, ap, subst, ◌∙◌, inl, inr}
use Rattle.std.specs.Prelude.{◌==◌, ◌-◌, ◌⊎◌, map, is_some}
use Rattle.std.specs.List.{find}
use Rattle.std.specs.Option.{option_map}
use Rattle.std.proofs.lemmas.Bool.{cases_Bool, eqb-true}
use Rattle.pool_ledger.specs.declared.entry.Fate.{Fate}
use Rattle.pool_ledger.specs.declared.entry.Fate.TheVariants.{Disk as ToDisk, Gone, NoMemory}
use Rattle.pool_ledger.specs.declared.entry.Level.{Level}
use Rattle.pool_ledger.specs.declared.entry.Level.TheVariants.{Memory as InMemory, Disk as OnDisk}
use Rattle.pool_ledger.specs.History.{History}
use Rattle.pool_ledger.specs.Blocks.{Resident}
use Rattle.pool_laws.specs.Evicting.{eviction_by}
use Rattle.spill_disk.specs.Files.{Files}
use Rattle.block_store.specs.declared.block.Block.{Block}
use Rattle.block_store.specs.declared.block_copy.BlockCopy.{BlockCopy}
use Rattle.block_store.specs.Stores.{HeldBlock, Rows, held_at, held_of, is_held, rows_at, unpinned, without}
use Rattle.block_store.specs.Copies.{copy_rows, has_copy}
use Rattle.block_store.specs.Evictions.{KeepsDatasets, is_name}
use Rattle.memory_core.specs.Caches.{AreGiven, Cache, FitsRows, Memory, RowsByName}
use Rattle.memory_core.specs.Changes.{Clears, ReadsAlone, RemovesInTurn, StillFits, StillFitsWith}
use Rattle.memory_core.specs.Evictions.{Drops, EvictsInTurn, KeepsStore}
use Rattle.memory_core.proofs.RowsFound.{Gone≢Disk, NoMemory≢Disk, None≢Some, and_left, and_right, gone_named, name_left, name_right, rows_others, rows_uncopied, rows_untold, same_Some}

-- ---- evictions

-- the rows that a copy has are ones that fitted before
dropped_copy : (given : RowsByName) (block : Resident) (fate : Fate) (before after : Cache) → Drops block fate before after → FitsRows given before
    → (rows : Rows) → copy_rows after.files after.copies block.dataset block.part ≡ Some rows → AreGiven given block.dataset block.part rows
dropped_copy given block fate before after drops fits rows has =
    by_level block.level refl
  where
    d : ℕ
    d = block.dataset

    p : ℕ
    p = block.part

    as_before : after.files ≡ before.files → after.copies ≡ before.copies → AreGiven given d p rows
    as_before files copies = fits.copied d p rows (ap (λ (f : Option Files). copy_rows f before.copies d p) (sym files) ∙ ap (λ (c : List BlockCopy). copy_rows after.files c d p) (sym copies) ∙ has)

    lost : (fate ≡ ToDisk → ⊥) → has_copy before.copies d p ≡ false → AreGiven given d p rows
    lost not_disk none = absurd (None≢Some (sym (rows_uncopied after.files after.copies d p (ap (λ (c : List BlockCopy). has_copy c d p) (drops.lost not_disk) ∙ none)) ∙ has))

    by_fate : (f : Fate) → fate ≡ f → has_copy before.copies d p ≡ false → AreGiven given d p rows
    by_fate ToDisk is none = elim (cases_Bool (is_some before.files)) [
      | inl tells ↦ fits.resident d p rows (sym (drops.rows is none tells) ∙ has)
      | inr silent ↦ absurd (None≢Some (sym (rows_untold after.files after.copies d p (drops.tells ∙ silent)) ∙ has))
    ]
    by_fate Gone is none = lost (λ other. Gone≢Disk (sym is ∙ other)) none
    by_fate NoMemory is none = lost (λ other. NoMemory≢Disk (sym is ∙ other)) none

    by_level : (level : Level) → block.level ≡ level → AreGiven given d p rows
    by_level InMemory is = as_before (drops.memory is).1.files (drops.memory is).1.copies
    by_level OnDisk is = elim (cases_Bool (has_copy before.copies d p)) [
      | inl there ↦ as_before (drops.copied is there).1.files (drops.copied is there).1.copies
      | inr none ↦ by_fate fate refl none
    ]

drops_fits : (block : Resident) (fate : Fate) (before after : Cache) → Drops block fate before after → StillFits before after
drops_fits block fate before after drops given fits = record {
  resident = λ d p rows has. resident d p rows (ap (λ (bs : List HeldBlock). rows_at bs d p) (sym drops.blocks) ∙ has);
  copied = copied;
  untold = λ silent. fits.untold (sym drops.tells ∙ silent);
}
  where
    resident : (d p : ℕ) (rows : Rows) → rows_at (without block.dataset block.part before.blocks) d p ≡ Some rows → AreGiven given d p rows
    resident d p rows has = elim (cases_Bool (is_name block.dataset block.part d p)) [
      | inl same ↦ absurd (None≢Some (sym (gone_named block.dataset block.part d p before.blocks same) ∙ has))
      | inr apart ↦ fits.resident d p rows (sym (rows_others block.dataset block.part d p before.blocks apart) ∙ has)
    ]

    copied : (d p : ℕ) (rows : Rows) → copy_rows after.files after.copies d p ≡ Some rows → AreGiven given d p rows
    copied d p rows has = elim (cases_Bool (is_name block.dataset block.part d p)) [
      | inl same ↦ named same
      | inr apart ↦ fits.copied d p rows (sym (drops.others d p apart).1 ∙ has)
    ]
      where
        named : is_name block.dataset block.part d p ≡ true → AreGiven given d p rows
        named same =
            let d_is = name_left block.dataset block.part d p same in
            let p_is = name_right block.dataset block.part d p same in
            subst (λ (e : ℕ). AreGiven given e p rows) (sym d_is) (subst (λ (q : ℕ). AreGiven given block.dataset q rows) (sym p_is)
            (dropped_copy given block fate before after drops fits rows (ap (λ (e : ℕ). copy_rows after.files after.copies e block.part) (sym d_is) ∙ ap (λ (q : ℕ). copy_rows after.files after.copies d q) (sym p_is) ∙ has)))

pub evicts_fits : (worker : ℕ) (blocks : List Resident) (before after : History) (had has : Cache) → EvictsInTurn worker blocks before had after has → StillFits had has
evicts_fits worker [] before after had has gone given fits = subst (λ (c : Cache). FitsRows given c) (sym gone.1) fits
evicts_fits worker (block ∷ blocks) before after had has gone given fits =
    evicts_fits worker blocks (eviction_by worker block gone.0 ∷ before) after gone.1 has gone.3 given (drops_fits block gone.0 had gone.1 gone.2 given fits)

-- ---- reads

pub reads_fits : (before after : Cache) → ReadsAlone before after → StillFits before after
reads_fits before after reads given fits = record {
  resident = λ d p rows has. fits.resident d p rows (ap (λ (bs : List HeldBlock). rows_at bs d p) (sym reads.blocks) ∙ has);
  copied = λ d p rows has. fits.copied d p rows (ap (λ (f : Option Files). copy_rows f before.copies d p) (sym reads.files) ∙ ap (λ (c : List BlockCopy). copy_rows after.files c d p) (sym reads.copies) ∙ has);
  untold = λ silent. fits.untold (ap is_some (sym reads.files) ∙ silent);
}

-- ---- removals

removed_rows : (worker dataset from end : ℕ) (gone : List Resident) (before after : History) (had has : List HeldBlock) → RemovesInTurn worker dataset from end gone before had after has
    → (d p : ℕ) (rows : Rows) → rows_at has d p ≡ Some rows → rows_at had d p ≡ Some rows
removed_rows worker dataset from end [] before after had has gone d p rows is = ap (λ (bs : List HeldBlock). rows_at bs d p) (sym gone.2) ∙ is
removed_rows worker dataset from end (block ∷ blocks) before after had has gone d p rows is =
    let rest = removed_rows worker dataset (block.part + 1) end blocks _ after (without dataset block.part had) has gone.2 d p rows is in
    elim (cases_Bool (is_name dataset block.part d p)) [
      | inl same ↦ absurd (None≢Some (sym (gone_named dataset block.part d p had same) ∙ rest))
      | inr apart ↦ sym (rows_others dataset block.part d p had apart) ∙ rest
    ]

pub clears_fits : (worker dataset : ℕ) (before after : Memory) → Clears worker dataset before after → StillFits before.cache after.cache
clears_fits worker dataset before after clears given fits = record {
  resident = λ d p rows has. fits.resident d p rows (removed_rows worker dataset 0 clears.end clears.gone before.history after.history before.cache.blocks after.cache.blocks clears.removes d p rows has);
  copied = copied;
  untold = λ silent. fits.untold (sym clears.tells ∙ silent);
}
  where
    copied : (d p : ℕ) (rows : Rows) → copy_rows after.cache.files after.cache.copies d p ≡ Some rows → AreGiven given d p rows
    copied d p rows has = elim (cases_Bool (d == dataset)) [
      | inl same ↦ absurd (None≢Some (sym (rows_uncopied after.cache.files after.cache.copies d p (ap (λ (e : ℕ). has_copy after.cache.copies e p) (eqb-true d dataset same) ∙ clears.forgotten p)) ∙ has))
      | inr apart ↦ fits.copied d p rows (sym (clears.others d p apart).1 ∙ has)
    ]

-- the same call by call: the removals write nothing, and then the copies are forgotten
pub cleared_fits : (worker dataset end : ℕ) (gone : List Resident) (before after : History) (had amid has : Cache) → RemovesInTurn worker dataset 0 end gone before had.blocks after amid.blocks
    → KeepsStore had amid → has.blocks ≡ amid.blocks → ((part : ℕ) → has_copy has.copies dataset part ≡ false)
    → KeepsDatasets dataset amid.files amid.copies has.files has.copies → is_some has.files ≡ is_some amid.files → StillFits had has
cleared_fits worker dataset end gone before after had amid has removes same blocks forgotten others tells given fits = record {
  resident = λ d p rows is. fits.resident d p rows (removed_rows worker dataset 0 end gone before after had.blocks amid.blocks removes d p rows (ap (λ (bs : List HeldBlock). rows_at bs d p) (sym blocks) ∙ is));
  copied = copied;
  untold = λ silent. fits.untold (ap is_some (sym same.files) ∙ sym tells ∙ silent);
}
  where
    copied : (d p : ℕ) (rows : Rows) → copy_rows has.files has.copies d p ≡ Some rows → AreGiven given d p rows
    copied d p rows is = elim (cases_Bool (d == dataset)) [
      | inl named ↦ absurd (None≢Some (sym (rows_uncopied has.files has.copies d p (ap (λ (e : ℕ). has_copy has.copies e p) (eqb-true d dataset named) ∙ forgotten p)) ∙ is))
      | inr apart ↦ fits.copied d p rows (ap (λ (f : Option Files). copy_rows f had.copies d p) (sym same.files) ∙ ap (λ (k : List BlockCopy). copy_rows amid.files k d p) (sym same.copies) ∙ sym (others d p apart).1 ∙ is)
    ]

-- ---- admissions and pins

-- rows behind others are those of the others, or its own
rows_behind : (blocks : List HeldBlock) (held : HeldBlock) (d p : ℕ) (rows : Rows) → rows_at (blocks ++ held ∷ []) d p ≡ Some rows
    → (rows_at blocks d p ≡ Some rows) ⊎ ((is_held d p held ≡ true) × (held.rows ≡ rows))
rows_behind [] held d p rows has = elim (cases_Bool (is_held d p held)) [
  | inl is ↦ inr (is, same_Some (sym (rw (is) refl) ∙ has))
  | inr other ↦ absurd (None≢Some (sym (rw (other) refl) ∙ has))
]
rows_behind (first ∷ blocks) held d p rows has = elim (cases_Bool (is_held d p first)) [
  | inl is ↦ inl (rw (is) (sym (rw (is) refl) ∙ has))
  | inr other ↦ rw (other) (rows_behind blocks held d p rows (sym (rw (other) refl) ∙ has))
]

pub admits_fits : (block : Block) (before after : Cache) → after ≡ record before { blocks = before.blocks ++ held_of 0 block ∷ [] } → StillFitsWith block before after
admits_fits block before after is given rows_are fits = subst (λ (c : Cache). FitsRows given c) (sym is) (record {
  resident = λ d p rows has. elim (rows_behind before.blocks (held_of 0 block) d p rows has) [
    | inl old ↦ fits.resident d p rows old
    | inr new ↦ own d p rows new.0 new.1
  ];
  copied = fits.copied;
  untold = fits.untold;
})
  where
    own : (d p : ℕ) (rows : Rows) → is_held d p (held_of 0 block) ≡ true → block.page.rows ≡ rows → AreGiven given d p rows
    own d p rows named same =
        subst (λ (e : ℕ). AreGiven given e p rows) (eqb-true block.dataset d (and_left (block.dataset == d) (block.part == p) named))
        (subst (λ (q : ℕ). AreGiven given block.dataset q rows) (eqb-true block.part p (and_right (block.dataset == d) (block.part == p) named))
        (subst (λ (r : Rows). AreGiven given block.dataset block.part r) same rows_are))

-- what is found has the name
pub found_passes : {X : Type 0} (test : X → Bool) (xs : List X) (x : X) → find test xs ≡ Some x → test x ≡ true
found_passes test [] x has = absurd (None≢Some has)
found_passes test (y ∷ ys) x has = elim (cases_Bool (test y)) [
  | inl passes ↦ ap test (sym (same_Some (sym (rw (passes) refl) ∙ has))) ∙ passes
  | inr fails ↦ found_passes test ys x (sym (rw (fails) refl) ∙ has)
]

-- blocks without one have no rows that weren't there
rows_without : (dataset part : ℕ) (blocks : List HeldBlock) (d p : ℕ) (rows : Rows) → rows_at (without dataset part blocks) d p ≡ Some rows → rows_at blocks d p ≡ Some rows
rows_without dataset part blocks d p rows has = elim (cases_Bool (is_name dataset part d p)) [
  | inl same ↦ absurd (None≢Some (sym (gone_named dataset part d p blocks same) ∙ has))
  | inr apart ↦ sym (rows_others dataset part d p blocks apart) ∙ has
]

pub pins_fits : (dataset part was now : ℕ) (block : Block) (before after : Cache) → held_at before.blocks dataset part ≡ Some (held_of was block)
    → after ≡ record before { blocks = without dataset part before.blocks ++ held_of now block ∷ [] } → StillFits before after
pins_fits dataset part was now block before after value is given fits = subst (λ (c : Cache). FitsRows given c) (sym is) (record {
  resident = λ d p rows has. fits.resident d p rows (elim (rows_behind (without dataset part before.blocks) (held_of now block) d p rows has) [
    | inl old ↦ rows_without dataset part before.blocks d p rows old
    | inr new ↦ own d p rows new.0 new.1
  ]);
  copied = fits.copied;
  untold = fits.untold;
})
  where
    found : is_held dataset part (held_of was block) ≡ true
    found = found_passes (is_held dataset part) before.blocks (held_of was block) value

    own : (d p : ℕ) (rows : Rows) → is_held d p (held_of now block) ≡ true → block.page.rows ≡ rows → rows_at before.blocks d p ≡ Some rows
    own d p rows named same =
        let d_is : d ≡ dataset = sym (eqb-true block.dataset d (and_left (block.dataset == d) (block.part == p) named)) ∙ eqb-true block.dataset dataset (and_left (block.dataset == dataset) (block.part == part) found) in
        let p_is : p ≡ part = sym (eqb-true block.part p (and_right (block.dataset == d) (block.part == p) named)) ∙ eqb-true block.part part (and_right (block.dataset == dataset) (block.part == part) found) in
        ap (λ (e : ℕ). rows_at before.blocks e p) d_is ∙ ap (λ (q : ℕ). rows_at before.blocks dataset q) p_is
        ∙ ap (option_map (λ (h : HeldBlock). h.rows)) value ∙ ap (λ (r : Rows). Some r) same

-- a pin less changes no rows
rows_unpinned : (dataset part : ℕ) (blocks : List HeldBlock) (d p : ℕ) → rows_at (map (unpinned dataset part) blocks) d p ≡ rows_at blocks d p
rows_unpinned dataset part [] d p = refl
rows_unpinned dataset part (held ∷ blocks) d p = elim (cases_Bool (is_held dataset part held)) [
  | inl is ↦ rw (is) (next (record held { pins = held.pins - 1 }) refl refl (rows_unpinned dataset part blocks d p))
  | inr other ↦ rw (other) (next held refl refl (rows_unpinned dataset part blocks d p))
]
  where
    next : (h : HeldBlock) → is_held d p h ≡ is_held d p held → h.rows ≡ held.rows → rows_at (map (unpinned dataset part) blocks) d p ≡ rows_at blocks d p
        → rows_at (h ∷ map (unpinned dataset part) blocks) d p ≡ rows_at (held ∷ blocks) d p
    next h named rows rest = elim (cases_Bool (is_held d p held)) [
      | inl here ↦ rw (named ∙ here, here) (ap (λ (r : Rows). Some r) rows)
      | inr later ↦ rw (named ∙ later, later) rest
    ]

pub unpins_fits : (dataset part : ℕ) (before after : Cache) → after ≡ record before { blocks = map (unpinned dataset part) before.blocks } → StillFits before after
unpins_fits dataset part before after is given fits = subst (λ (c : Cache). FitsRows given c) (sym is) (record {
  resident = λ d p rows has. fits.resident d p rows (sym (rows_unpinned dataset part before.blocks d p) ∙ has);
  copied = fits.copied;
  untold = fits.untold;
})

-- nothing changed, or only what doesn't matter to rows
pub same_fits : (before after : Cache) → after ≡ before → StillFits before after
same_fits before after is given fits = subst (λ (c : Cache). FitsRows given c) (sym is) fits

-- ---- what a pin hands out

None_given : (o : Option Rows) (rows wanted : Rows) → o ≡ None → o ≡ Some wanted → rows ≡ wanted
None_given o rows wanted none some = absurd (None≢Some (sym none ∙ some))

pub hit_given : (dataset part was : ℕ) (block : Block) (before : Cache) → held_at before.blocks dataset part ≡ Some (held_of was block)
    → (given : RowsByName) → FitsRows given before → AreGiven given dataset part block.page.rows
hit_given dataset part was block before value given fits = fits.resident dataset part block.page.rows (ap (option_map (λ (h : HeldBlock). h.rows)) value)

pub read_given : (dataset part : ℕ) (block : Block) (before : Cache) → (is_some before.files ≡ true → copy_rows before.files before.copies dataset part ≡ Some block.page.rows)
    → (given : RowsByName) → FitsRows given before → AreGiven given dataset part block.page.rows
read_given dataset part block before rows given fits = elim (cases_Bool (is_some before.files)) [
  | inl tells ↦ fits.copied dataset part block.page.rows (rows tells)
  | inr silent ↦ λ wanted is. None_given (given dataset part) block.page.rows wanted (fits.untold silent dataset part) is
]
