-- Where a merge stands once the row that it lent is no longer borrowed.
-- This project's own.
use Rattle.std.specs.Prelude.{◌≡◌, ℕ, List, [], ◌∷◌, Option, Some, None, Result, Ok, Err, Bool, ⊤}
use Rattle.aggregate.specs.declared.kind.Kind.{Kind}
use Rattle.aggregate.specs.Totals.{Entry}
use Rattle.row_page.specs.Views.{fields_in}
use Rattle.row_page.specs.declared.row_view.RowView.{RowView}
use Rattle.spill_disk.specs.Files.{Files}
use Rattle.row_form.specs.declared.form.Form.TheVariants.{Entries}
use Rattle.run_file.specs.declared.run.RunFault.{RunFault}
use Rattle.run_file.specs.Causes.{NotDamaged}
use Rattle.row_form.specs.Forms.{IsWellFormed}
use Rattle.run_file.specs.Lending.{has_lent}
use Rattle.run_merge.specs.declared.merge.Merge.{Merge}
use Rattle.run_merge.specs.Merging.{runs_of, kind_of, row_of, IsToCome, ReadsOn, Falls, TellsDamage}

-- it lends the first of these entries as a row, or says that there is none; and it finds no damage
abbrev pub LendsFirst : List Entry → Result (Option RowView) RunFault → Type 0
LendsFirst [] (Ok None) = ⊤
LendsFirst [] (Ok (Some given)) = ⊥
LendsFirst (entry ∷ entries) (Ok None) = ⊥
LendsFirst (entry ∷ entries) (Ok (Some given)) = fields_in given ≡ entry.key ∷ (entry.value ∷ [])
LendsFirst entries (Err fault) = NotDamaged {T = Bool} (Err fault)

-- the row that it lends is an entry of the kind, and costs no more than so many bytes in a run
abbrev pub LendsFormed : Kind → ℕ → Result (Option RowView) RunFault → Type 0
LendsFormed kind greatest (Ok None) = ⊤
LendsFormed kind greatest (Ok (Some given)) = IsWellFormed (Entries kind) greatest (fields_in given)
LendsFormed kind greatest (Err fault) = ⊤

-- it stands at the row that it lent
abbrev pub IsAtLent : Merge → Result (Option RowView) RunFault → Type 0
IsAtLent after (Ok None) = ⊤
IsAtLent after (Ok (Some given)) = fields_in given ≡ row_of after
IsAtLent after (Err fault) = ⊤

-- it stands where it went on to: at the row that it lent, and the entries behind that one are still to come
pub record StandsAfter (old new : ℕ → Option Files) (before : Merge) (result : Result (Option RowView) RunFault) (after : Merge) : Type 0 where
  pub gives : (entries : List Entry) → IsToCome old before entries → ReadsOn new after entries (has_lent result)
  pub falls : Falls before after (has_lent result)
  pub damaged : TellsDamage after (has_lent result)
  pub lent : IsAtLent after result
  pub runs : runs_of after ≡ runs_of before
  pub kind : kind_of after ≡ kind_of before
