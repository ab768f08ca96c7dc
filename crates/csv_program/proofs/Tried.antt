-- How the run of a trial ends: its input is good, and no sum of it is too wide.
use Rattle.std.proofs.Common.{◌≡◌, ◌∙◌, ℕ, List, Option, Some, None, sym, ap, subst, refl, inl, inr, arith}
use Rattle.std.specs.Prelude.{IfSome}
use Rattle.byte_io.specs.Rows.{rows_of}
use Rattle.fault_count.specs.Faults.{Rose}
use Rattle.job_answer.specs.Output.{output, too_wide}
use Rattle.job_text.specs.declared.job.Job.{Job}
use Rattle.landing.specs.Checks.{Rows, checked}
use Rattle.landing.specs.Landed.{IsOfInput}
use Rattle.landing.specs.declared.fault.LandFault.{LandFault}
use Rattle.landing.specs.declared.fault.LandFault.TheVariants as fault
use Rattle.pool_ledger.specs.declared.entry.Entry.{Entry}
use Rattle.trial_input.specs.FixedJob.{trial_job}
use Rattle.trial_input.specs.Generator.{heading, trial_rows, trial_text}
use Rattle.trial_input.specs.Laws.{TrialsAreGood, TrialsFit}
use Rattle.trial_input.specs.Lines.{trial_output}
use Rattle.csv_program.specs.Cached.{HasTasks}
use Rattle.job_ending.specs.Endings.{Ending, MayEndAs, Prints, Refuses, checked_for, ending_of, ending_of_checked, ending_with, status_of}
use Rattle.job_ending.specs.Statuses.{IsJudged}
use Rattle.csv_program.specs.Trials.{IsOfTrial, IsOfTrialRun, IsSoundEnd, IsTrial}
use Rattle.job_ending.specs.declared.call.RunCall.{RunCall}
use Rattle.job_ending.specs.declared.status.Status.{Status}
use Rattle.job_ending.specs.declared.status.Status.TheVariants as status

-- its job takes the text as it is
pub trial_checked : (asked : RunCall) (bytes : List ℕ) → IsTrial asked → bytes ≡ trial_text asked.max_rows → TrialsAreGood → checked_for asked bytes ≡ Rows heading (trial_rows asked.max_rows)
trial_checked asked bytes trial is good =
    ap (λ (job : Job). checked job asked.max_rows (rows_of bytes)) trial.job
    ∙ ap (λ (text : List ℕ). checked trial_job asked.max_rows (rows_of text)) is
    ∙ good asked.max_rows asked.max_rows trial.some trial.few (omega arith)

-- it prints the tables
pub trial_ending : (asked : RunCall) (bytes : List ℕ) → IsTrial asked → bytes ≡ trial_text asked.max_rows → TrialsAreGood → TrialsFit → ending_of asked bytes ≡ Prints (trial_output asked.max_rows)
trial_ending asked bytes trial is good fits =
    let rows = trial_rows asked.max_rows in
    ap (ending_of_checked asked.job) (trial_checked asked bytes trial is good)
    ∙ ap (λ (job : Job). ending_with (output job heading rows) (too_wide job heading rows)) trial.job
    ∙ ap (ending_with (output trial_job heading rows)) (fits asked.max_rows trial.few)

-- ---- statuses

never_rose : Rose 0 0 → ⊥
never_rose rose = absurd (omega (arith, rose))

refuses_none : (ending : Ending) (text : List ℕ) (why : LandFault) → ending ≡ Prints text → ending ≡ Refuses why → ⊥
refuses_none ending text why prints refuses = let both : Prints text ≡ Refuses why = sym prints ∙ refuses in cc both

-- where the input is refused for nothing, and neither the source nor a sink fails
pub of_trial_run : (ending : Ending) (text : List ℕ) (ended : Status) → ending ≡ Prints text → IsJudged ended
    → ((why : LandFault) → IsOfInput why → ended ≡ status_of why → ending ≡ Refuses why)
    → (ended ≡ status.ReadFault → Rose 0 0) → (ended ≡ status.WriteFault → Rose 0 0) → (ended ≡ status.JournalFault → Rose 0 0) → IsOfTrialRun ended
of_trial_run ending text status.NoHeader prints judged called read write recorded = absurd (refuses_none ending text fault.NoHeader prints (called fault.NoHeader _ refl))
of_trial_run ending text (status.NoColumn column) prints judged called read write recorded = absurd (refuses_none ending text (fault.NoColumn column) prints (called (fault.NoColumn column) _ refl))
of_trial_run ending text (status.Ragged row) prints judged called read write recorded = absurd (refuses_none ending text (fault.Ragged row) prints (called (fault.Ragged row) _ refl))
of_trial_run ending text (status.RowTooLong row) prints judged called read write recorded = absurd (refuses_none ending text (fault.RowTooLong row) prints (called (fault.RowTooLong row) _ refl))
of_trial_run ending text (status.BadNumber row column) prints judged called read write recorded = absurd (refuses_none ending text (fault.BadNumber row column) prints (called (fault.BadNumber row column) _ refl))
of_trial_run ending text status.TooManyRows prints judged called read write recorded = absurd (refuses_none ending text fault.TooManyRows prints (called fault.TooManyRows _ refl))
of_trial_run ending text status.ReadFault prints judged called read write recorded = absurd (never_rose (read refl))
of_trial_run ending text status.WriteFault prints judged called read write recorded = absurd (never_rose (write refl))
of_trial_run ending text status.JournalFault prints judged called read write recorded = absurd (never_rose (recorded refl))
of_trial_run ending text status.BadWords prints judged called read write recorded = absurd judged
of_trial_run ending text (status.BadJob place) prints judged called read write recorded = absurd judged
of_trial_run ending text status.HeapTooSmall prints judged called read write recorded = absurd judged
of_trial_run ending text _ prints judged called read write recorded = _

prints_sound : (text : List ℕ) (ended : Status) → MayEndAs (Prints text) ended → IsSoundEnd ended
prints_sound text (status.SumTooWide query key) (inl before) = before
prints_sound text (status.SumTooWide query key) (inr is) = let done : status.SumTooWide query key ≡ status.Done = is in absurd (cc done)
prints_sound text (status.Damaged post file kept found) (inl before) = before
prints_sound text (status.Damaged post file kept found) (inr is) = let done : status.Damaged post file kept found ≡ status.Done = is in absurd (cc done)
prints_sound text _ may = _

-- tables that are printed have no sum that is too wide, and nothing is damaged
pub ends_sound : (ending : Ending) (text : List ℕ) (ended : Status) → ending ≡ Prints text → MayEndAs ending ended → IsSoundEnd ended
ends_sound ending text ended prints may = prints_sound text ended (subst (λ (e : Ending). MayEndAs e ended) prints may)

-- the statuses of the run are those of the trial
pub run_of_trial : (ended : Status) → IsOfTrialRun ended → IsOfTrial ended × IsJudged ended
run_of_trial status.Done is = (_, _)
run_of_trial (status.SumTooWide query key) is = (_, _)
run_of_trial (status.NoRoom asked held floor) is = (_, _)
run_of_trial (status.DiskFault post) is = (_, _)
run_of_trial (status.Damaged post file kept found) is = (_, _)
run_of_trial status.NoMemory is = (_, _)
run_of_trial _ is = absurd is

-- ---- the tasks of a run that ends otherwise

-- what holds of the tasks whatever the status is
cut_of : {A : Type 0} (setup : Option A) (workers : ℕ) (job : Job) (ended other : Status) (journal : List Entry) (count : ℕ) → (other ≡ status.Done → ⊥)
    → IfSome setup (λ made. (partitions : ℕ) × HasTasks workers partitions job ended journal × (partitions ≡ count)) → IfSome setup (λ made. (partitions : ℕ) × HasTasks workers partitions job other journal × (partitions ≡ count))
cut_of None workers job ended other journal count not told = _
cut_of (Some made) workers job ended other journal count not told =
    (told.0, record { follows = told.1.follows; all = λ done. absurd (not done); cached = λ done. absurd (not done) }, told.2)

-- the same of an outcome that has this pool and this journal
pub tasks_cut : {A : Type 0} (setup setup' : Option A) (workers : ℕ) (job : Job) (ended other : Status) (journal journal' : List Entry) (count : ℕ) → setup' ≡ setup → journal' ≡ journal → (other ≡ status.Done → ⊥)
    → IfSome setup (λ made. (partitions : ℕ) × HasTasks workers partitions job ended journal × (partitions ≡ count)) → IfSome setup' (λ made. (partitions : ℕ) × HasTasks workers partitions job other journal' × (partitions ≡ count))
tasks_cut {A = A} setup setup' workers job ended other journal journal' count has is not told =
    subst (λ (entries : List Entry). IfSome setup' (λ made. (partitions : ℕ) × HasTasks workers partitions job other entries × (partitions ≡ count))) (sym is)
    (subst (λ (o : Option A). IfSome o (λ made. (partitions : ℕ) × HasTasks workers partitions job other journal × (partitions ≡ count))) (sym has)
    (cut_of setup workers job ended other journal count not told))

pub write_not_done : status.WriteFault ≡ status.Done → ⊥
write_not_done is = cc is

pub want_not_done : status.NoMemory ≡ status.Done → ⊥
want_not_done is = cc is
