-- Entries that are read from a run one after the other: the one that the reader stands at, and those that are ahead.
-- This project's own.
use Rattle.std.specs.Prelude.{◌≡◌, ℕ, ◌+◌, ◌<◌, ◌≤◌, Bool, true, false, List, [], ◌∷◌, Option, Result, Ok, Err, ⊤}
use Rattle.aggregate.specs.declared.kind.Kind.{Kind}
use Rattle.aggregate.specs.Rows.{entries_of}
use Rattle.aggregate.specs.Totals.{Entry}
use Rattle.spill_disk.specs.Files.{Files}
use Rattle.run_file.specs.AtEntries.{IsAtEntry, entry_at}
use Rattle.run_file.specs.Causes.{NotDamaged}
use Rattle.run_file.specs.Readers.{ReaderView, form_of}
use Rattle.run_file.specs.Reading.{IsAhead}
use Rattle.run_file.specs.Several.{HasEntries}
use Rattle.row_form.specs.declared.form.Form.TheVariants.{Entries}
use Rattle.run_file.specs.declared.run.Run.{Run}
use Rattle.run_file.specs.declared.run.RunFault.{RunFault}

-- it reads this run, of which so many entries are ahead
pub record HasAhead (reader : ReaderView) (run : Run) (ahead : ℕ) : Type 0 where
  pub of_run : reader.run ≡ run
  pub counts : reader.found + ahead ≡ run.count

-- it reads entries of this kind
abbrev pub IsOfKind : Kind → ReaderView → Type 0
IsOfKind kind reader = form_of reader ≡ Entries kind

-- these entries are ahead of it
pub record AreAhead (files : Option Files) (reader : ReaderView) (entries : List Entry) : Type 0 where
  pub rows : List (List (List ℕ))
  pub ahead : IsAhead files reader rows
  pub are : entries ≡ entries_of rows

-- it begins with the entries of its run
abbrev pub BeginsWith : Kind → Run → ReaderView → Type 0
BeginsWith kind run reader =
    (files : Option Files) (entries : List Entry) → HasEntries files kind run entries → AreAhead files reader entries

-- it goes on to the first of these entries, or says that there is none; and it finds no damage
abbrev pub GoesTo : Option Files → ReaderView → List Entry → Result Bool RunFault → Type 0
GoesTo files after [] (Ok true) = ⊥
GoesTo files after [] (Ok false) = ⊤
GoesTo files after [] (Err fault) = ⊥
GoesTo files after (entry ∷ entries) (Ok true) = (entry_at after ≡ entry) × AreAhead files after entries
GoesTo files after (entry ∷ entries) (Ok false) = ⊥
GoesTo files after (entry ∷ entries) (Err fault) = NotDamaged {T = Bool} (Err fault)

-- an entry that it took is of the kind, and is one more that it gave, of those that its run has; where it took none, it
-- is as it was, and gave them all
abbrev pub TakesEntry : ReaderView → ReaderView → Result Bool RunFault → Type 0
TakesEntry before after (Ok true) =
    ((kind : Kind) → IsOfKind kind before → IsAtEntry kind after)
    × (after.found ≡ before.found + 1) × (after.found ≤ before.run.count)
TakesEntry before after (Ok false) = (after ≡ before) × (after.found ≡ before.run.count)
TakesEntry before after (Err fault) = ⊤

-- it gave more entries than before, of those that its run has
abbrev pub ReadsOn : ReaderView → ReaderView → Type 0
ReadsOn before after = (before.found < after.found) × (after.found ≤ before.run.count)
