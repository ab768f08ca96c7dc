-- A merge between two entries: what it gave last, and what it has still to give.
-- This project's own.
use Rattle.std.specs.Prelude.{◌≡◌, ℕ, ◌+◌, ◌-◌, ◌<◌, Bool, true, false, List, [], ◌∷◌, Option, Some, Result, Ok, Err, length, map, sum_by, slice_get, ⊤}
use Rattle.std.specs.List.{AllByRecursion}
use Rattle.aggregate.specs.declared.kind.Kind.{Kind}
use Rattle.aggregate.specs.declared.kind.Kind.TheVariants.{Order}
use Rattle.aggregate.specs.Totals.{Entry, total}
use Rattle.aggregate.specs.Rows.{Ascends, entries_of}
use Rattle.spill_disk.specs.Files.{Files}
use Rattle.row_form.specs.declared.form.Form.TheVariants.{Entries}
use Rattle.run_file.specs.declared.run.Damage.{Damage}
use Rattle.run_file.specs.declared.run.Run.{Run}
use Rattle.run_file.specs.declared.run.RunFault.{RunFault}
use Rattle.run_file.specs.declared.run.RunFault.TheVariants.{DiskFault, Damaged, NoMemory}
use Rattle.run_file.specs.Readers.{ReaderView, found_of, run_of}
use Rattle.run_file.specs.Causes.{NotDamaged, damage_in}
use Rattle.row_form.specs.Forms.{HasForm, IsWellFormed}
use Rattle.run_file.specs.Reading.{IsAtRow, IsAhead, IsDamagedAhead}
use Rattle.run_file.specs.Several.{HaveEntries, concatenated}
use Rattle.run_merge.specs.declared.merge.Merge.{Merge}
use Rattle.run_merge.specs.Heads.{one_if, row_lent}

-- the runs that it merges, in their order
abbrev pub runs_of : Merge → List Run
runs_of merge = map run_of merge.readers.items

-- the kind of their entries
abbrev pub kind_of : Merge → Kind
kind_of merge = merge.kind

-- the row that it gave last
abbrev pub row_of : Merge → List (List ℕ)
row_of merge = row_lent merge.readers.items merge.given merge.row

-- how many readers it has open
abbrev pub readers_open : Merge → ℕ
readers_open merge = length merge.readers.items

-- how many bytes readers keep of their runs' files
abbrev pub kept_by : List ReaderView → ℕ
kept_by readers = sum_by (λ reader. reader.kept.count) readers

-- how many bytes it keeps of its runs' files
abbrev pub kept_of : Merge → ℕ
kept_of merge = kept_by merge.readers.items

-- how many rows of its run a reader has still ahead of it
abbrev pub rows_ahead : ReaderView → ℕ
rows_ahead reader = (run_of reader).count - found_of reader

-- how many rows are ahead of readers, and how many they stand at
abbrev pub left_by : List ReaderView → List Bool → ℕ
left_by readers heads = sum_by rows_ahead readers + sum_by one_if heads

-- how many rows of the runs it has still to give
abbrev pub left_of : Merge → ℕ
left_of merge = left_by merge.readers.items merge.heads.items

-- the rows that a reader has still to give: the one that it stands at, and those ahead
abbrev pub IsLeft : (ℕ → Option Files) → ReaderView → Bool → List (List (List ℕ)) → Type 0
IsLeft files reader true [] = ⊥
IsLeft files reader true (row ∷ rows) = IsAtRow reader row × IsAhead (files (run_of reader).disk) reader rows
IsLeft files reader false rows = IsAhead (files (run_of reader).disk) reader rows

-- the same of all readers; where each was let on (`begun`), one that stands at no row has none
abbrev pub AreLeft : (ℕ → Option Files) → Bool → List ReaderView → List Bool → List (List (List (List ℕ))) → Type 0
AreLeft files begun [] [] [] = ⊤
AreLeft files begun (reader ∷ readers) (head ∷ heads) (rows ∷ lists) =
    IsLeft files reader head rows × (begun ≡ true → head ≡ false → rows ≡ []) × AreLeft files begun readers heads lists
AreLeft files begun readers heads lists = ⊥

-- the entries that it has still to give: the total of what is left of the runs, the runs in order
pub record IsToCome (files : ℕ → Option Files) (merge : Merge) (entries : List Entry) : Type 0 where
  pub lists : List (List (List (List ℕ)))
  pub left : AreLeft files false merge.readers.items merge.heads.items lists
  pub formed : AllByRecursion (λ rows. AllByRecursion (HasForm (Entries merge.kind)) rows) lists
  pub ascend : AllByRecursion (λ rows. Ascends (Some merge.kind) (entries_of rows)) lists
  pub are : entries ≡ total merge.kind (entries_of (concatenated lists))

-- it begins with the runs' first entries
abbrev pub Begins : Merge → Type 0
Begins merge =
    (files : ℕ → Option Files) (lists : List (List Entry)) → HaveEntries files (kind_of merge) (runs_of merge) lists
    → IsToCome files merge (total (kind_of merge) (concatenated lists))

-- it goes on to the first of these entries, or says that there is none; and it finds no damage
abbrev pub ReadsOn : (ℕ → Option Files) → Merge → List Entry → Result Bool RunFault → Type 0
ReadsOn files after [] (Ok true) = ⊥
ReadsOn files after [] (Ok false) = ⊤
ReadsOn files after (entry ∷ entries) (Ok true) = (row_of after ≡ entry.key ∷ (entry.value ∷ [])) × IsToCome files after entries
ReadsOn files after (entry ∷ entries) (Ok false) = ⊥
ReadsOn files after entries (Err fault) = NotDamaged {T = Bool} (Err fault)

-- what it gives is an entry of the kind, and costs no more than so many bytes in a run
abbrev pub GivesFormed : ℕ → Merge → Result Bool RunFault → Type 0
GivesFormed greatest after (Ok true) = IsWellFormed (Entries (kind_of after)) greatest (row_of after)
GivesFormed greatest after (Ok false) = ⊤
GivesFormed greatest after (Err fault) = ⊤

-- fewer rows are left where it gave an entry, and one fewer where each row is one; none is left at the end
abbrev pub Falls : Merge → Merge → Result Bool RunFault → Type 0
Falls before after (Ok true) = (left_of after < left_of before) × (kind_of before ≡ Order → left_of after + 1 ≡ left_of before)
Falls before after (Ok false) = left_of after ≡ 0
Falls before after (Err fault) = ⊤

-- damage is told of a run of these readers: the row behind those that were found isn't well formed
pub record IsDamage (readers : List ReaderView) (damage : Damage) : Type 0 where
  pub place : ℕ
  pub within : place < length readers
  pub reader : ReaderView
  pub there : slice_get readers place ≡ Some reader
  pub told : damage ≡ damage_in (run_of reader) (found_of reader)
  pub fewer : found_of reader < (run_of reader).count
  pub damaged : IsDamagedAhead reader

-- where a call says that a run is damaged, it is one of these readers', and what it says of it is so
abbrev pub TellsDamageIn : {T : Type 0} → List ReaderView → Result T RunFault → Type 0
TellsDamageIn readers (Ok more) = ⊤
TellsDamageIn readers (Err (DiskFault disk)) = ⊤
TellsDamageIn readers (Err (Damaged damage)) = IsDamage readers damage
TellsDamageIn readers (Err NoMemory) = ⊤

-- the same of a merge, by its readers after the call
abbrev pub TellsDamage : Merge → Result Bool RunFault → Type 0
TellsDamage after result = TellsDamageIn after.readers.items result
