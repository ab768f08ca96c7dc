-- What a call of `plan` is for, and what it prints.
-- This project's own.
use Rattle.std.specs.Prelude.{◌≡◌, ◌⊎◌, ℕ, List, [], ◌++◌, Option, Some, None, Result, Ok, Err, IfSome, codes, length, map, option_and_then, slice_index_or, ⊤}
use Rattle.std.specs.Io.KnownBytes.{Appends, Keeps}
use Rattle.std.specs.List.{flat_map, range_with_len}
use Rattle.byte_io.specs.Sinks.{AppendsPrefix}
use Rattle.job_plan.specs.Columns.{Fields, kept}
use Rattle.job_plan.specs.Passes.{pass_datasets, queries_over, removed_after}
use Rattle.job_plan.specs.PlanText.{columns_line, pass_line, removal_line}
use Rattle.job_plan.specs.Plans.{datasets_of}
use Rattle.job_plan.specs.Columns.{linked}
use Rattle.job_text.specs.Text.{read_of}
use Rattle.job_text.specs.declared.job.Job.{Job}
use Rattle.landing.specs.Checks.{Rows}
use Rattle.landing.specs.Headers.{checked_header}
use Rattle.landing.specs.declared.fault.LandFault.{LandFault}
use Rattle.words.specs.Calls.{behind_first}
use Rattle.words.specs.Programs.{plan_words}
use Rattle.job_ending.specs.Endings.{status_of}
use Rattle.job_ending.specs.declared.status.Status.{Status}
use Rattle.job_ending.specs.declared.status.Status.TheVariants as status

-- a call without words that `plan` takes; one whose text is refused at a place; or one of a job
pub data PlanCall : Type 0 where
  NoPlan : PlanCall
  NoText : (place : ℕ) → PlanCall
  Plans : (job : Job) → PlanCall

-- the call of what was read of the text
abbrev pub plan_with : Result Job ℕ → PlanCall
plan_with (Err place) = NoText place
plan_with (Ok job) = Plans job

-- the call of a job's text
abbrev pub plan_by : Option (List ℕ) → PlanCall
plan_by None = NoPlan
plan_by (Some text) = plan_with (read_of text)

-- the call of words: the first one is `plan`
abbrev pub plan_asked : List (List ℕ) → PlanCall
plan_asked words = plan_by (option_and_then plan_words (behind_first (codes "plan") words))

-- where it is of a job, P of that
abbrev pub ForPlan : PlanCall → (Job → Type 0) → Type 0
ForPlan NoPlan P = ⊤
ForPlan (NoText place) P = ⊤
ForPlan (Plans job) P = P job

-- where it is of no job, P
abbrev pub ForNoPlan : PlanCall → Type 0 → Type 0
ForNoPlan NoPlan P = P
ForNoPlan (NoText place) P = P
ForNoPlan (Plans job) P = ⊤

-- how the call of a job may end: with its plan, with what may be told of a header, which is row 0, or with a failed write
abbrev pub IsOfPlan : Status → Type 0
IsOfPlan status.Done = ⊤
IsOfPlan status.NoHeader = ⊤
IsOfPlan (status.NoColumn column) = ⊤
IsOfPlan (status.RowTooLong row) = row ≡ 0
IsOfPlan status.ReadFault = ⊤
IsOfPlan status.WriteFault = ⊤
IsOfPlan status.NoMemory = ⊤
IsOfPlan _ = ⊥

-- the status tells what the call is for, or want of memory; that of a job ends as its plan may
abbrev pub TellsPlan : PlanCall → Status → Type 0
TellsPlan NoPlan s = (s ≡ status.BadWords) ⊎ (s ≡ status.NoMemory)
TellsPlan (NoText place) s = (s ≡ status.BadJob place) ⊎ (s ≡ status.NoMemory)
TellsPlan (Plans job) s = IsOfPlan s

-- why there is no job: what the call is for, or want of memory
abbrev pub IsWhyNoPlan : PlanCall → Status → Type 0
IsWhyNoPlan (Plans job) s = s ≡ status.NoMemory
IsWhyNoPlan call s = TellsPlan call s

-- a failed read of the input, or want of memory: what may come before its header is known
abbrev pub IsUnread : Status → Type 0
IsUnread status.ReadFault = ⊤
IsUnread status.NoMemory = ⊤
IsUnread _ = ⊥

-- a refused header ends with its refusal, or with what may come before it is known
abbrev pub TellsRefusal : LandFault → Status → Type 0
TellsRefusal why s = IsUnread s ⊎ (s ≡ status_of why)

-- how the writing of a plan may end
abbrev pub IsOfPrint : Status → Type 0
IsOfPrint status.Done = ⊤
IsOfPrint status.WriteFault = ⊤
IsOfPrint status.NoMemory = ⊤
IsOfPrint _ = ⊥

-- nothing was printed of a plan or of a trial's lines: a part may be after a fault of the output and want of memory, and all is after `Done`
abbrev pub PrintsNothing : Status → Type 0
PrintsNothing status.Done = ⊥
PrintsNothing status.WriteFault = ⊥
PrintsNothing status.NoMemory = ⊥
PrintsNothing _ = ⊤

-- ---- the text

-- a pass of a job over a header, and what is removed after it
abbrev pub pass_over : Job → Fields → ℕ → List ℕ
pass_over job header pass =
    pass_line (map (λ dataset. dataset.name) job.datasets) pass (slice_index_or (pass_datasets (datasets_of job)) pass 0)
    (slice_index_or (map (queries_over (datasets_of job)) (pass_datasets (datasets_of job))) pass [])
    ++ flat_map (removal_line (map (λ dataset. dataset.name) job.datasets) pass)
    (slice_index_or (map (removed_after (linked job header) (pass_datasets (datasets_of job))) (range_with_len 0 (length (pass_datasets (datasets_of job))))) pass [])

-- the plan of a job over a header
abbrev pub text_over : Job → Fields → List ℕ
text_over job header =
    columns_line (map (λ p. slice_index_or header p []) (kept job.names header))
    ++ flat_map (pass_over job header) (range_with_len 0 (length (pass_datasets (datasets_of job))))

-- what was written grew by the plan of the job over a header: that of the input, where it is known
pub record PrintsPlan (job : Job) (records : Option (List Fields)) (before after : Option (List ℕ)) : Type 0 where
  pub header : Fields
  pub known : IfSome records (λ records. checked_header job records ≡ Rows header [])
  pub printed : Appends before after (text_over job header)

-- the same of a part of it, from the front
pub record PrintsPart (job : Job) (records : Option (List Fields)) (before after : Option (List ℕ)) : Type 0 where
  pub header : Fields
  pub known : IfSome records (λ records. checked_header job records ≡ Rows header [])
  pub printed : AppendsPrefix before after (text_over job header)

-- such a part, or nothing
abbrev pub MayPrint : Job → Option (List Fields) → Option (List ℕ) → Option (List ℕ) → Type 0
MayPrint job records before after = Keeps before after ⊎ PrintsPart job records before after
