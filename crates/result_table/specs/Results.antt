-- The result of a query as a run of entries, and the table that they tell.
-- This project's own.
use Rattle.std.specs.Prelude.{ℕ, ◌<◌, ◌≡◌, All, List, [], ◌∷◌, Option, Some, None, Result, Ok, Err, length, map, option_map, ⊤}
use Rattle.std.specs.List.{find}
use Rattle.fault_count.specs.Faults.{Rose}
use Rattle.aggregate.specs.Totals.{Entry}
use Rattle.aggregate.specs.declared.kind.Kind.{Kind}
use Rattle.spill_disk.specs.Files.{Files}
use Rattle.run_file.specs.declared.run.Run.{Run}
use Rattle.run_file.specs.declared.run.RunFault.{RunFault}
use Rattle.run_file.specs.Causes.{HasCauseOn, NoDiskFault, NotDamaged}
use Rattle.run_file.specs.Several.{HasEntries}
use Rattle.run_file.specs.Whole.{TellsDamageOf}
use Rattle.job_plan.specs.Plans.{heading_at, kept_at}
use Rattle.job_plan.specs.Telling.{IsTold, is_wide, row_of}
use Rattle.job_plan.specs.declared.query_plan.Plan.{Plan}
use Rattle.job_text.specs.declared.job.Shape.{Shape}
use Rattle.result_table.specs.Faults.{TellsRun}
use Rattle.result_table.specs.Table.{table}
use Rattle.result_table.specs.Told.{IsUntoldBehind}
use Rattle.result_table.specs.declared.print_fault.PrintFault.{PrintFault}
use Rattle.result_table.specs.declared.print_fault.PrintFault.TheVariants.{WriteFault, DiskFault, Damaged, NoMemory}

-- the result has these entries: those of its run on its disk, or none where there is no run
abbrev pub HasResult : (ℕ → Option Files) → Kind → Option Run → List Entry → Type 0
HasResult files kind None entries = entries ≡ []
HasResult files kind (Some run) entries = HasEntries (files run.disk) kind run entries

-- how many entries the result has; none where there is no run
abbrev pub count_in : Option Run → ℕ
count_in None = 0
count_in (Some run) = run.count

-- the bytes of a query's table: its heading, then a row for each entry
abbrev pub table_of : Plan → ℕ → List Entry → List ℕ
table_of plan query entries = table (heading_at plan query ∷ map (row_of (kept_at plan query)) entries)

-- the key of the first of these entries with a number outside `i64`, of so many
abbrev pub wide_key : ℕ → List Entry → Option (List ℕ)
wide_key count entries = option_map (λ entry. entry.key) (find (is_wide count) entries)

-- damage is told of entries the first of which were found and can be told, but the next one can't
abbrev pub StopsAmong : Shape → List Entry → Result (Unit {0}) PrintFault → Type 0
StopsAmong shape entries (Err (Damaged damage)) =
    (told : List Entry) × (length told ≡ damage.found) × All (IsTold shape) told × IsUntoldBehind shape told entries
StopsAmong shape entries _ = ⊤

-- ---- causes

-- nothing was found damaged
abbrev pub FindsNoDamage : Result (Unit {0}) PrintFault → Type 0
FindsNoDamage (Err (Damaged damage)) = ⊥
FindsNoDamage _ = ⊤

-- damage is told of the answer's run; without one there is none
abbrev pub IsDamageOfResult : {T : Type 0} → Option Run → Result T RunFault → Type 0
IsDamageOfResult None result = NotDamaged result
IsDamageOfResult (Some run) result = TellsDamageOf run result

-- a fault of a disk is one of the answer's run's disk, whose count rose; without a run there is none
abbrev pub HasCauseOfResult : {T : Type 0} → Option Run → (before now : ℕ → ℕ) → Result T RunFault → Type 0
HasCauseOfResult None before now result = NoDiskFault result
HasCauseOfResult (Some run) before now result = HasCauseOn run.disk (before run.disk) (now run.disk) result

-- the same of a table that was printed
abbrev pub TellsAnswer : Option Run → Result (Unit {0}) PrintFault → Type 0
TellsAnswer None result = FindsNoDamage result
TellsAnswer (Some run) result = TellsRun run result

-- a fault of a disk or of the output is told only where its count rose, and damage where fewer entries were found than
-- kept
abbrev pub HasCauseIn : (before now : ℕ → ℕ) → (written_before written_now : ℕ) → Result (Unit {0}) PrintFault → Type 0
HasCauseIn before now written_before written_now (Ok done) = ⊤
HasCauseIn before now written_before written_now (Err WriteFault) = Rose written_before written_now
HasCauseIn before now written_before written_now (Err (DiskFault disk)) = Rose (before disk) (now disk)
HasCauseIn before now written_before written_now (Err (Damaged damage)) = damage.found < damage.kept
HasCauseIn before now written_before written_now (Err NoMemory) = ⊤
