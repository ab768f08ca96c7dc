-- A trial: the words of `trial`, the run that they ask for, and how it ends.
-- This project's own.
use Rattle.std.specs.Prelude.{◌≡◌, ℕ, ◌≤◌, false, List, Option, Some, None, codes, nat_lt, option_and_then, if◌then◌else◌, ⊤}
use Rattle.pool_ledger.specs.Sizes.{smallest_heap}
use Rattle.trial_input.specs.FixedJob.{trial_job}
use Rattle.words.specs.Calls.{behind_first}
use Rattle.words.specs.Programs.{TrialReading, trial_words}
use Rattle.job_ending.specs.Calls.{Call, NoCall, NoHeap, Runs, pool_of}
use Rattle.job_ending.specs.declared.call.RunCall.{RunCall}
use Rattle.job_ending.specs.declared.status.Status.{Status}
use Rattle.job_ending.specs.declared.status.Status.TheVariants as status

-- the run of a trial of so many rows: no other rows are there, and its journal isn't written
abbrev pub trial_run : TrialReading → RunCall
trial_run words = record {
  pool = pool_of words.options;
  job = trial_job;
  max_rows = words.rows;
  part_rows = words.options.part_rows;
  journal = false;
}

-- the call of these words, by their heap
abbrev pub trial_in : TrialReading → Call
trial_in words =
    if nat_lt words.options.heap (smallest_heap words.options.reserved) then NoHeap else Runs (trial_run words)

-- the same with so many posts
abbrev pub trial_by : ℕ → Option TrialReading → Call
trial_by posts None = NoCall
trial_by posts (Some words) = if nat_lt posts words.options.workers then NoCall else trial_in words

-- the call of words, with so many posts: the first one is `trial`
abbrev pub trial_of : ℕ → List (List ℕ) → Call
trial_of posts words = trial_by posts (option_and_then trial_words (behind_first (codes "trial") words))

-- a run of a trial: the fixed job over at least one row, and at most 1,000,000
pub record IsTrial (asked : RunCall) : Type 0 where
  pub job : asked.job ≡ trial_job
  pub some : 1 ≤ asked.max_rows
  pub few : asked.max_rows ≤ 1000000

-- the statuses of a trial
abbrev pub IsOfTrial : Status → Type 0
IsOfTrial status.Done = ⊤
IsOfTrial status.BadWords = ⊤
IsOfTrial status.HeapTooSmall = ⊤
IsOfTrial (status.SumTooWide query key) = ⊤
IsOfTrial (status.NoRoom asked held floor) = ⊤
IsOfTrial status.WriteFault = ⊤
IsOfTrial (status.DiskFault post) = ⊤
IsOfTrial (status.Damaged post file kept found) = ⊤
IsOfTrial status.NoMemory = ⊤
IsOfTrial _ = ⊥

-- those of the run in it
abbrev pub IsOfTrialRun : Status → Type 0
IsOfTrialRun status.Done = ⊤
IsOfTrialRun (status.SumTooWide query key) = ⊤
IsOfTrialRun (status.NoRoom asked held floor) = ⊤
IsOfTrialRun (status.DiskFault post) = ⊤
IsOfTrialRun (status.Damaged post file kept found) = ⊤
IsOfTrialRun status.NoMemory = ⊤
IsOfTrialRun _ = ⊥

-- no sum is too wide, and nothing is damaged
abbrev pub IsSoundEnd : Status → Type 0
IsSoundEnd (status.SumTooWide query key) = ⊥
IsSoundEnd (status.Damaged post file kept found) = ⊥
IsSoundEnd _ = ⊤
