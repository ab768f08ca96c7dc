-- Where a reader stands once the row that it lent is no longer borrowed.
-- This project's own.
use Rattle.std.specs.Prelude.{ℕ, List, Option, Some, None, Result, Ok, Err, Bool, true, false, ⊤}
use Rattle.row_page.specs.Views.{fields_in}
use Rattle.row_page.specs.declared.row_view.RowView.{RowView}
use Rattle.spill_disk.specs.Files.{Files}
use Rattle.run_file.specs.declared.run.RunFault.{RunFault}
use Rattle.run_file.specs.Readers.{ReaderView}
use Rattle.run_file.specs.Reading.{IsAtRow, IsAhead, ReadsOn, Moves, StaysAhead, TellsDamage}

-- whether a row was lent, or why not
abbrev pub has_lent : Result (Option RowView) RunFault → Result Bool RunFault
has_lent (Ok None) = Ok false
has_lent (Ok (Some given)) = Ok true
has_lent (Err fault) = Err fault

-- it stands at the row that it lent
abbrev pub IsAtLent : ReaderView → Result (Option RowView) RunFault → Type 0
IsAtLent after (Ok None) = ⊤
IsAtLent after (Ok (Some given)) = IsAtRow after (fields_in given)
IsAtLent after (Err fault) = ⊤

-- it stands where it went on to: at the row that it lent, and the rows behind that one are ahead
pub record StandsAfter (old new : Option Files) (before : ReaderView) (result : Result (Option RowView) RunFault) (after : ReaderView) : Type 0 where
  pub gives : (rows : List (List (List ℕ))) → IsAhead old before rows → ReadsOn new after rows (has_lent result)
  pub stays : StaysAhead old new before after (has_lent result)
  pub damaged : TellsDamage before after (has_lent result)
  pub lent : IsAtLent after result
  pub moved : Moves before after (has_lent result)
