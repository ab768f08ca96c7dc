-- A reader between two rows: the row that it stands at, and the rows that are ahead.
-- This project's own.
use Rattle.std.specs.Prelude.{◌≡◌, ◌<◌, ℕ, ◌+◌, List, [], ◌∷◌, length, Option, Some, None, IfSome, Result, Ok, Err, true, false, ⊤}
use Rattle.std.specs.Prelude.{Bool}
use Rattle.std.specs.List.{AllByRecursion}
use Rattle.row_page.specs.Grammar.{IsPieceThen, IsRow, IsPage}
use Rattle.row_page.specs.Reading.{fields_of}
use Rattle.row_page.specs.Views.{fields_in}
use Rattle.row_page.specs.declared.row_view.RowView.{RowView}
use Rattle.spill_disk.specs.Files.{Files}
use Rattle.row_form.specs.declared.form.Form.{Form}
use Rattle.run_file.specs.declared.run.RunFault.{RunFault}
use Rattle.run_file.specs.declared.run.RunFault.TheVariants.{DiskFault, Damaged, NoMemory}
use Rattle.run_file.specs.Readers.{ReaderView, known_ahead, rest_of}
use Rattle.run_file.specs.Runs.{Stands}
use Rattle.row_form.specs.Forms.{IsWellFormed}
use Rattle.run_file.specs.Causes.{NotDamaged, damage_in}

-- it stands at this row
abbrev pub IsAtRow : ReaderView → List (List ℕ) → Type 0
IsAtRow reader row = IsRow reader.kept.row row

-- the row that it stands at, where it stands at one
abbrev pub row_at : ReaderView → List (List ℕ)
row_at reader = fields_of reader.kept.row

-- the known bytes are these rows
abbrev pub ArePage : Option (List ℕ) → List (List (List ℕ)) → Type 0
ArePage None rows = ⊥
ArePage (Some bytes) rows = IsPage bytes rows

-- these rows are ahead, all well formed for its form
pub record IsAhead (files : Option Files) (reader : ReaderView) (rows : List (List (List ℕ))) : Type 0 where
  pub count : reader.found + length rows ≡ reader.run.count
  pub formed : AllByRecursion (IsWellFormed reader.form reader.run.greatest) rows
  pub bytes : ArePage (known_ahead files reader) rows

-- it begins at its run's first row: the rows of a run that stands are ahead, where they are well formed
abbrev pub Begins : ReaderView → Type 0
Begins reader =
    (files : Option Files) (rows : List (List (List ℕ))) → Stands files reader.run rows
    → AllByRecursion (IsWellFormed reader.form reader.run.greatest) rows → IsAhead files reader rows

-- it goes on to the first of these rows, or says that there is none; and it finds no damage
abbrev pub ReadsOn : Option Files → ReaderView → List (List (List ℕ)) → Result Bool RunFault → Type 0
ReadsOn files after [] (Ok true) = ⊥
ReadsOn files after [] (Ok false) = ⊤
ReadsOn files after [] (Err fault) = ⊥
ReadsOn files after (row ∷ rows) (Ok true) = IsAtRow after row × IsAhead files after rows
ReadsOn files after (row ∷ rows) (Ok false) = ⊥
ReadsOn files after (row ∷ rows) (Err fault) = NotDamaged {T = Bool} (Err fault)

-- what a call changed: a row that it took is one more, the end changes nothing, and after an `Err` only
-- what is kept is another
abbrev pub Moves : ReaderView → ReaderView → Result Bool RunFault → Type 0
Moves before after (Ok true) = after ≡ record before { found = before.found + 1; kept = after.kept }
Moves before after (Ok false) = after ≡ before
Moves before after (Err fault) = after ≡ record before { kept = after.kept }

-- an `Err` passes no row: those that were ahead still are
abbrev pub StaysAhead : Option Files → Option Files → ReaderView → ReaderView → Result Bool RunFault → Type 0
StaysAhead old new before after (Ok more) = ⊤
StaysAhead old new before after (Err fault) = known_ahead new after ≡ known_ahead old before

-- these bytes don't begin with a row that is well formed for the form, its cost at most the greatest
abbrev pub BeginsDamaged : Form → ℕ → List ℕ → Type 0
BeginsDamaged form greatest bytes =
    (row : List (List ℕ)) (piece behind : List ℕ) → IsPieceThen bytes piece behind → IsRow piece row
    → IsWellFormed form greatest row → ⊥

-- the row that is next isn't well formed
abbrev pub IsDamagedAhead : ReaderView → Type 0
IsDamagedAhead reader = BeginsDamaged reader.form reader.run.greatest (rest_of reader)

-- damage is told with the run's place, its count and what was found, where the next row isn't well formed
abbrev pub TellsDamage : ReaderView → ReaderView → Result Bool RunFault → Type 0
TellsDamage before after (Ok more) = ⊤
TellsDamage before after (Err (DiskFault disk)) = ⊤
TellsDamage before after (Err (Damaged damage)) =
    (damage ≡ damage_in before.run before.found) × (before.found < before.run.count) × IsDamagedAhead after
TellsDamage before after (Err NoMemory) = ⊤

-- damage is told with the run's place, its count, and how many rows were given, which are fewer
abbrev pub TellsPlace : {T : Type 0} → ReaderView → Result T RunFault → Type 0
TellsPlace before (Ok x) = ⊤
TellsPlace before (Err (DiskFault disk)) = ⊤
TellsPlace before (Err (Damaged damage)) =
    (damage ≡ damage_in before.run before.found) × (before.found < before.run.count)
TellsPlace before (Err NoMemory) = ⊤

-- damage is told where the bytes that are ahead, if they are known, don't begin with a well-formed row
abbrev pub ExplainsDamage : {T : Type 0} → Option Files → ReaderView → Result T RunFault → Type 0
ExplainsDamage files before (Ok x) = ⊤
ExplainsDamage files before (Err (DiskFault disk)) = ⊤
ExplainsDamage files before (Err (Damaged damage)) =
    IfSome (known_ahead files before) (BeginsDamaged before.form before.run.greatest)
ExplainsDamage files before (Err NoMemory) = ⊤

-- the row that it took is well formed
abbrev pub TakesRow : ReaderView → Result Bool RunFault → Type 0
TakesRow after (Ok true) = (row : List (List ℕ)) × IsAtRow after row × IsWellFormed after.form after.run.greatest row
TakesRow after (Ok false) = ⊤
TakesRow after (Err fault) = ⊤

-- it lends the first of these rows, or says that there is none; and it finds no damage
abbrev pub GivesFirst : List (List (List ℕ)) → Result (Option RowView) RunFault → Type 0
GivesFirst [] (Ok None) = ⊤
GivesFirst [] (Ok (Some given)) = ⊥
GivesFirst [] (Err fault) = ⊥
GivesFirst (row ∷ rows) (Ok None) = ⊥
GivesFirst (row ∷ rows) (Ok (Some given)) = fields_in given ≡ row
GivesFirst (row ∷ rows) (Err fault) = NotDamaged {T = Bool} (Err fault)

-- the row that it lends is well formed
abbrev pub GivesFormed : ReaderView → Result (Option RowView) RunFault → Type 0
GivesFormed before (Ok None) = ⊤
GivesFormed before (Ok (Some given)) = IsWellFormed before.form before.run.greatest (fields_in given)
GivesFormed before (Err fault) = ⊤
