-- A block and its rows, found by name once another one is gone.
use Rattle.std.proofs.Common.{◌≡◌, ℕ, Bool, true, false, not, ◌&&◌, Option, Some, None, List, [], ◌∷◌, refl, sym, ap, ◌∙◌, inl, inr}
use Rattle.std.specs.Prelude.{◌==◌, filter, is_some, unwrap_or}
use Rattle.std.specs.List.{find}
use Rattle.std.specs.Option.{option_map}
use Rattle.std.proofs.lemmas.Bool.{cases_Bool, true≢false, eqb-true, cond-true, cond-false}
use Rattle.pool_ledger.specs.declared.entry.Fate.{Fate}
use Rattle.pool_ledger.specs.declared.entry.Fate.TheVariants.{Disk as ToDisk, Gone, NoMemory}
use Rattle.spill_disk.specs.Files.{Files}
use Rattle.block_store.specs.declared.block_copy.BlockCopy.{BlockCopy}
use Rattle.block_store.specs.Stores.{HeldBlock, is_held, rows_at, without}
use Rattle.block_store.specs.Copies.{copy_rows, has_copy, is_copy}
use Rattle.block_store.specs.Evictions.{is_name}
use Rattle.block_store.proofs.Places.{find_none, none_kept}

-- ---- finding a block among others

-- where every item that passes the test is kept, the first that passes is the same
find_filtered : {X : Type 0} (test keeps : X → Bool) (xs : List X) → ((x : X) → test x ≡ true → keeps x ≡ true) → find test (filter keeps xs) ≡ find test xs
find_filtered test keeps [] kept = refl
find_filtered test keeps (x ∷ xs) kept = elim (cases_Bool (test x)) [
  | inl passes ↦ rw (cond-true (keeps x) (x ∷ filter keeps xs) (filter keeps xs) (kept x passes), passes) refl
  | inr fails ↦ elim (cases_Bool (keeps x)) [
    | inl stays ↦ rw (cond-true (keeps x) (x ∷ filter keeps xs) (filter keeps xs) stays, fails) (find_filtered test keeps xs kept)
    | inr goes ↦ rw (cond-false (keeps x) (x ∷ filter keeps xs) (filter keeps xs) goes, fails) (find_filtered test keeps xs kept)
  ]
]

not_false : (b : Bool) → b ≡ false → not b ≡ true
not_false b is = rw (is) refl

pub and_left : (a b : Bool) → (a && b) ≡ true → a ≡ true
and_left true b e = refl
and_left false b e = e

pub and_right : (a b : Bool) → (a && b) ≡ true → b ≡ true
and_right true b e = e
and_right false b e = absurd (true≢false (sym e))

-- a block of this name isn't one of another
one_name : (dataset part d p : ℕ) (held : HeldBlock) → is_name dataset part d p ≡ false → is_held d p held ≡ true → not (is_held dataset part held) ≡ true
one_name dataset part d p held apart is =
    let d_is : held.dataset ≡ d = eqb-true held.dataset d (and_left (held.dataset == d) (held.part == p) is) in
    let p_is : held.part ≡ p = eqb-true held.part p (and_right (held.dataset == d) (held.part == p) is) in
    not_false (is_held dataset part held) (rw (d_is, p_is) (apart))

pub rows_others : (dataset part d p : ℕ) (blocks : List HeldBlock) → is_name dataset part d p ≡ false → rows_at (without dataset part blocks) d p ≡ rows_at blocks d p
rows_others dataset part d p blocks apart =
    ap (option_map (λ (h : HeldBlock). h.rows)) (find_filtered (is_held d p) (λ h. not (is_held dataset part h)) blocks (λ h is. one_name dataset part d p h apart is))

-- what one name says of two
pub name_left : (dataset part d p : ℕ) → is_name dataset part d p ≡ true → d ≡ dataset
name_left dataset part d p is = eqb-true d dataset (and_left (d == dataset) (p == part) is)

pub name_right : (dataset part d p : ℕ) → is_name dataset part d p ≡ true → p ≡ part
name_right dataset part d p is = eqb-true p part (and_right (d == dataset) (p == part) is)

pub rows_gone : (dataset part : ℕ) (blocks : List HeldBlock) → rows_at (without dataset part blocks) dataset part ≡ None
rows_gone dataset part blocks = ap (option_map (λ (h : HeldBlock). h.rows)) (find_none (is_held dataset part) (without dataset part blocks) (none_kept (is_held dataset part) blocks))

pub gone_named : (dataset part d p : ℕ) (blocks : List HeldBlock) → is_name dataset part d p ≡ true → rows_at (without dataset part blocks) d p ≡ None
gone_named dataset part d p blocks same =
    ap (λ (e : ℕ). rows_at (without dataset part blocks) e p) (name_left dataset part d p same)
    ∙ ap (λ (q : ℕ). rows_at (without dataset part blocks) dataset q) (name_right dataset part d p same) ∙ rows_gone dataset part blocks

-- a block that isn't there has no rows of a copy
pub rows_uncopied : (files : Option Files) (copies : List BlockCopy) (d p : ℕ) → has_copy copies d p ≡ false → copy_rows files copies d p ≡ None
rows_uncopied None copies d p none = refl
rows_uncopied (Some files) copies d p none = rw (find_none (is_copy d p) copies none) refl

pub rows_untold : (files : Option Files) (copies : List BlockCopy) (d p : ℕ) → is_some files ≡ false → copy_rows files copies d p ≡ None
rows_untold None copies d p none = refl
rows_untold (Some files) copies d p none = absurd (true≢false none)

pub same_Some : {X : Type 0} {x y : X} → ◌≡◌ {A = Option X} (Some x) (Some y) → x ≡ y
same_Some {x = x} e = ap (λ o. unwrap_or o x) e

abbrev is_disk : Fate → Bool
is_disk ToDisk = true
is_disk _ = false

pub None≢Some : {X : Type 0} {x : X} → ◌≡◌ {A = Option X} None (Some x) → ⊥
None≢Some e = true≢false (sym (ap is_some e))

pub Gone≢Disk : Gone ≡ ToDisk → ⊥
Gone≢Disk e = true≢false (ap is_disk (sym e))

pub NoMemory≢Disk : NoMemory ≡ ToDisk → ⊥
NoMemory≢Disk e = true≢false (ap is_disk (sym e))
