-- What readers have still to give, and what is left once an entry was taken.
-- This project's own.
use Rattle.std.specs.Prelude.{◌≡◌, ℕ, Bool, true, false, List, [], ◌∷◌, Option, Some, Result, Ok, Err, slice_index_or}
use Rattle.std.specs.List.{AllByRecursion}
use Rattle.std.specs.Ordering.{is_gt}
use Rattle.std.specs.declared.cmp.Ordering.TheVariants.{Less}
use Rattle.aggregate.specs.declared.kind.Kind.{Kind}
use Rattle.aggregate.specs.Totals.{Entry, insert_entry, key_cmp, total}
use Rattle.aggregate.specs.Rows.{Ascends, entries_of, entry_of}
use Rattle.spill_disk.specs.Files.{Files}
use Rattle.row_form.specs.declared.form.Form.TheVariants.{Entries}
use Rattle.run_file.specs.declared.run.RunFault.{RunFault}
use Rattle.run_file.specs.Readers.{ReaderView}
use Rattle.run_file.specs.Causes.{NotDamaged}
use Rattle.row_form.specs.Forms.{HasForm}
use Rattle.run_file.specs.Several.{concatenated}
use Rattle.run_merge.specs.Heads.{has_head}
use Rattle.run_merge.specs.Merging.{AreLeft, IsLeft}

-- these entries are still to come: the total of what is left of the runs, the runs in order
pub record AreComing (files : ℕ → Option Files) (begun : Bool) (kind : Kind) (readers : List ReaderView) (heads : List Bool) (entries : List Entry) : Type 0 where
  pub lists : List (List (List (List ℕ)))
  pub left : AreLeft files begun readers heads lists
  pub formed : AllByRecursion (λ rows. AllByRecursion (HasForm (Entries kind)) rows) lists
  pub ascend : AllByRecursion (λ rows. Ascends (Some kind) (entries_of rows)) lists
  pub are : entries ≡ total kind (entries_of (concatenated lists))

-- the keys of these rows are above this one
abbrev pub AllAbove : List ℕ → List (List (List ℕ)) → Type 0
AllAbove key rows = AllByRecursion (λ row. key_cmp key (entry_of row).key ≡ Less) rows

-- the keys of these rows aren't below it
abbrev pub NoneBelow : List ℕ → List (List (List ℕ)) → Type 0
NoneBelow key rows = AllByRecursion (λ row. is_gt (key_cmp key (entry_of row).key) ≡ false) rows

-- the entry was taken out, with those of its key of readers that stand at no row now; no key that is left is below its own
pub record IsTaken (files : ℕ → Option Files) (kind : Kind) (readers : List ReaderView) (heads : List Bool) (entry : Entry) (entries : List Entry) : Type 0 where
  pub lists : List (List (List (List ℕ)))
  pub left : AreLeft files false readers heads lists
  pub formed : AllByRecursion (λ rows. AllByRecursion (HasForm (Entries kind)) rows) lists
  pub ascend : AllByRecursion (λ rows. Ascends (Some kind) (entries_of rows)) lists
  pub none_below : (k : ℕ) → NoneBelow entry.key (slice_index_or lists k [])
  pub taken : (k : ℕ) → has_head heads k ≡ false → AllAbove entry.key (slice_index_or lists k [])
  pub are : entries ≡ insert_entry kind entry (total kind (entries_of (concatenated lists)))

-- the row is the first of these entries, and the others are still to come
abbrev pub Gives : (ℕ → Option Files) → Kind → List ReaderView → List Bool → List (List ℕ) → List Entry → Type 0
Gives files kind readers heads row [] = ⊥
Gives files kind readers heads row (entry ∷ entries) =
    (row ≡ entry.key ∷ (entry.value ∷ [])) × AreComing files false kind readers heads entries

-- a reader that was let on has what it had still to give, and stands at the first row of it; no damage is found
abbrev pub LetsOn : (ℕ → Option Files) → ReaderView → List (List (List ℕ)) → Result Bool RunFault → Type 0
LetsOn files after rows (Ok head) = IsLeft files after head rows × (head ≡ false → rows ≡ [])
LetsOn files after rows (Err fault) = NotDamaged {T = Bool} (Err fault)

-- the same of all readers
abbrev pub LetAllOn : (ℕ → Option Files) → List ReaderView → List Bool → List (List (List (List ℕ))) → Result (Unit {0}) RunFault → Type 0
LetAllOn files readers heads lists (Ok done) = AreLeft files true readers heads lists
LetAllOn files readers heads lists (Err fault) = NotDamaged {T = Unit {0}} (Err fault)

-- whether a reader stands at a row once it was let on, or that failed
abbrev pub head_after : Bool → Result Bool RunFault → Bool
head_after head (Ok stands) = stands
head_after head (Err fault) = head
