-- What a table's fault tells, and results on disks whose files stay.
use Rattle.std.proofs.Common.{◌≡◌, ℕ, List, Option, Some, None, Result, Err, refl, sym, subst}
use Rattle.std.specs.Prelude.{option_map}
use Rattle.aggregate.specs.Totals.{Entry}
use Rattle.aggregate.specs.declared.kind.Kind.{Kind}
use Rattle.spill_disk.specs.Files.{Files}
use Rattle.run_file.specs.declared.run.Run.{Run}
use Rattle.run_file.specs.Several.{HasEntries}
use Rattle.result_table.specs.Results.{FindsNoDamage, HasResult}
use Rattle.result_table.specs.declared.print_fault.PrintFault.{PrintFault}
use Rattle.result_table.specs.declared.print_fault.PrintFault.TheVariants.{WriteFault, DiskFault, Damaged, NoMemory}
use Rattle.job_plan.specs.Plans.{kind_at}
use Rattle.job_plan.specs.declared.query_plan.Plan.{Plan}
use Rattle.task_runner.specs.Workers.{answer_at}
use Rattle.csv_program.specs.QueryResults.{HaveResults}
use Rattle.job_ending.specs.Statuses.{IsOutside, IsUnprinted}
use Rattle.run_file.specs.Causes.{NotDamaged}
use Rattle.run_file.specs.declared.run.RunFault.{RunFault}
use Rattle.run_file.specs.declared.run.RunFault.TheVariants as run_fault
use Rattle.job_ending.specs.Telling.{status_of_print, status_of_run}
use Rattle.job_ending.specs.declared.status.Status.{Status}

outside_print : (fault : PrintFault) → FindsNoDamage (Err fault) → IsOutside (status_of_print fault)
outside_print WriteFault none = _
outside_print (DiskFault disk) none = _
outside_print (Damaged damage) none = absurd none
outside_print NoMemory none = _

-- a table that could not be printed, though its entries can be told, tells a fault of the outside
pub fault_outside : (result : Result (Unit {0}) PrintFault) (fault : PrintFault) (status : Status) → result ≡ Err fault → FindsNoDamage result → status ≡ status_of_print fault → IsOutside status
fault_outside result fault status is none tells = subst IsOutside (sym tells) (outside_print fault (subst FindsNoDamage is none))

unprinted_fault : (T : Type 0) (fault : RunFault) → NotDamaged {T = T} (Err fault) → IsUnprinted (status_of_run fault)
unprinted_fault T (run_fault.DiskFault disk) none = _
unprinted_fault T (run_fault.Damaged damage) none = absurd none
unprinted_fault T run_fault.NoMemory none = _

-- a search for a wide sum that failed, though the result stands, tells what may come before anything is printed
pub unprinted_run : {T : Type 0} (result : Result T RunFault) (fault : RunFault) (ended : Status) → result ≡ Err fault → NotDamaged result → ended ≡ status_of_run fault → IsUnprinted ended
unprinted_run {T = T} result fault ended is none tells = subst IsUnprinted (sym tells) (unprinted_fault T fault (subst (λ (r : Result T RunFault). NotDamaged r) is none))

-- a result stays where the files do
pub result_kept : (before after : ℕ → Option Files) (kind : Kind) (answer : Option Run) (entries : List Entry) → ((disk : ℕ) → after disk ≡ before disk) → HasResult before kind answer entries → HasResult after kind answer entries
result_kept before after kind None entries same has = has
result_kept before after kind (Some run) entries same has = subst (λ (files : Option Files). HasEntries files kind run entries) (sym (same run.disk)) has

-- so do the results of all queries
pub results_kept : (before after : ℕ → Option Files) (plan : Plan) (answers : List (Option Run)) (totals : ℕ → List Entry) → ((disk : ℕ) → after disk ≡ before disk) → HaveResults before plan totals answers → HaveResults after plan totals answers
results_kept before after plan answers totals same have query below = result_kept before after (kind_at plan query) (answer_at answers query) (totals query) same (have query below)

-- what has no image isn't there
pub none_there : {A B : Type 0} (f : A → B) (o : Option A) → None ≡ option_map f o → o ≡ None
none_there f None same = refl
none_there f (Some a) same = absurd (some_none (sym same))
  where
    some_none : {B : Type 0} {b : B} → Some b ≡ None → ⊥
    some_none same = cc same
