-- The row that a merge lends is the one at which it stands.
use Rattle.std.proofs.Common.{◌≡◌, ℕ, List, [], ◌∷◌, Bool, true, false, Option, None, Some, Result, Ok, Err, ◌↔◌, refl, ap, subst, ◌∙◌}
use Rattle.aggregate.specs.Totals.{Entry}
use Rattle.row_page.specs.Views.{fields_in}
use Rattle.row_page.specs.declared.row_view.RowView.{RowView}
use Rattle.spill_disk.specs.Files.{Files}
use Rattle.run_file.specs.declared.run.Run.{Run}
use Rattle.run_file.specs.declared.run.RunFault.{RunFault}
use Rattle.run_file.specs.declared.run.RunFault.TheVariants.{DiskFault, Damaged, NoMemory}
use Rattle.run_file.specs.Several.{greatest_of}
use Rattle.run_merge.specs.declared.merge.Merge.{Merge}
use Rattle.run_merge.specs.Causes.{HasCauseAmong, IsDamageIn}
use Rattle.run_merge.specs.Lending.{LendsFirst, LendsFormed}
use Rattle.run_merge.specs.Merging.{runs_of, kind_of, row_of, GivesFormed, ReadsOn, TellsDamage}
use Rattle.run_merge.proofs.Damage.{damage_of_runs}

pub lent_first : (files : ℕ → Option Files) (after : Merge) (entries : List Entry) (given : RowView) → fields_in given ≡ row_of after → ReadsOn files after entries (Ok true) → LendsFirst entries (Ok (Some given))
lent_first files after [] given at went = absurd went
lent_first files after (entry ∷ entries) given at went = at ∙ went.0

pub none_first : (files : ℕ → Option Files) (after : Merge) (entries : List Entry) → ReadsOn files after entries (Ok false) → LendsFirst entries (Ok None)
none_first files after [] went = tt
none_first files after (entry ∷ entries) went = absurd went

pub fault_first : (files : ℕ → Option Files) (after : Merge) (entries : List Entry) (fault : RunFault) → ReadsOn files after entries (Err fault) → LendsFirst entries (Err fault)
fault_first files after [] fault went = went
fault_first files after (entry ∷ entries) fault went = went

pub lent_formed : (before after : Merge) (given : RowView) → fields_in given ≡ row_of after → runs_of after ≡ runs_of before → kind_of after ≡ kind_of before → GivesFormed (greatest_of (runs_of after)) after (Ok true) → LendsFormed (kind_of before) (greatest_of (runs_of before)) (Ok (Some given))
lent_formed before after given at runs kind formed = rw (at, ← runs, ← kind) formed

pub lent_damage : (before after : Merge) (fault : RunFault) → runs_of after ≡ runs_of before → TellsDamage after (Err fault) → IsDamageIn {T = Option RowView} (runs_of before) (Err fault)
lent_damage before after fault runs told =
    let own : IsDamageIn {T = Option RowView} (runs_of after) (Err fault) = damage_of_runs Bool (Option RowView) after.readers.items fault told in
    subst (λ (all : List Run). IsDamageIn {T = Option RowView} all (Err fault)) runs own

pub same_cause : (before now : ℕ → ℕ) (fault : RunFault) → HasCauseAmong {T = Bool} before now (Err fault) → HasCauseAmong {T = Option RowView} before now (Err fault)
same_cause before now (DiskFault disk) h = h
same_cause before now (Damaged damage) h = tt
same_cause before now NoMemory h = tt

abbrev Advanced : Type 0
Advanced = Result Bool RunFault

abbrev Lent : Type 0
Lent = Result (Option RowView) RunFault

-- none is lent exactly where it didn't go on
pub end_lent : (left : ℕ) (more : Bool) (given : RowView) → more ≡ true → (let advanced : Advanced = Ok more in (advanced ≡ Ok false) ↔ (left ≡ 0)) → (let lent : Lent = Ok (Some given) in (lent ≡ Ok None) ↔ (left ≡ 0))
end_lent left more given is end =
    (λ e. absurd cc, λ none. absurd (not_end more is (end.1 none)))
  where
    not_end : (more : Bool) → more ≡ true → (let advanced : Advanced = Ok more in advanced ≡ Ok false) → ⊥
    not_end true is e = cc
    not_end false is e = cc

pub end_none : (left : ℕ) (more : Bool) → more ≡ false → (let advanced : Advanced = Ok more in (advanced ≡ Ok false) ↔ (left ≡ 0)) → (let lent : Lent = Ok None in (lent ≡ Ok None) ↔ (left ≡ 0))
end_none left more is end = (λ e. end.0 (ap Ok is), λ none. refl)

pub end_fault : (left : ℕ) (fault : RunFault) → (let advanced : Advanced = Err fault in (advanced ≡ Ok false) ↔ (left ≡ 0)) → (let lent : Lent = Err fault in (lent ≡ Ok None) ↔ (left ≡ 0))
end_fault left fault end = (λ e. absurd cc, λ none. absurd (let no = end.1 none in cc))
