-- What a call of `run` is for: its words, its job's text, its heap, and whether each worker has a post.
-- This project's own.
use Rattle.std.specs.Prelude.{◌≡◌, ℕ, ◌≤◌, ◌⊎◌, Bool, not, is_some, List, Option, Some, None, Result, Ok, Err, nat_lt, if◌then◌else◌, ⊤}
use Rattle.std.specs.List.{list_all}
use Rattle.pool_ledger.specs.Sizes.{Sizes, sizes_of, smallest_heap}
use Rattle.job_text.specs.Jobs.{IsJob}
use Rattle.job_text.specs.Text.{read_of}
use Rattle.job_text.specs.declared.job.Job.{Job}
use Rattle.words.specs.Calls.{run_call}
use Rattle.words.specs.Options.{WorkReading}
use Rattle.words.specs.Programs.{RunReading}
use Rattle.job_ending.specs.Statuses.{IsJudged}
use Rattle.job_ending.specs.declared.call.RunCall.{RunCall}
use Rattle.job_ending.specs.declared.status.Status.{Status}
use Rattle.job_ending.specs.declared.status.Status.TheVariants as status

-- whether none of a job's datasets has a level
abbrev pub keeps_none : Job → Bool
keeps_none job = list_all (λ dataset. not (is_some dataset.level)) job.datasets

-- the sizes of the pool that options make (Spark: the reserved memory, spark.memory.fraction, spark.memory.storageFraction)
abbrev pub pool_of : WorkReading → Sizes
pool_of options = sizes_of options.heap options.reserved options.fraction options.storage options.workers

-- the run that words ask for, of this job
abbrev pub run_of : RunReading → Job → RunCall
run_of words job = record {
  pool = pool_of words.options;
  job = job;
  max_rows = words.max_rows;
  part_rows = words.options.part_rows;
  journal = words.journal;
}

-- a call without words that `run` takes, or with fewer posts than workers; one whose text is refused at a place; one whose heap is
-- too small for the reserve; or one of a run
pub data Call : Type 0 where
  NoCall : Call
  NoJob : (place : ℕ) → Call
  NoHeap : Call
  Runs : (asked : RunCall) → Call

-- the call of a job, by its heap
abbrev pub call_in : RunReading → Job → Call
call_in words job =
    if nat_lt words.options.heap (smallest_heap words.options.reserved) then NoHeap else Runs (run_of words job)

-- the call of what was read of the text
abbrev pub call_with : RunReading → Result Job ℕ → Call
call_with words (Err place) = NoJob place
call_with words (Ok job) = call_in words job

-- the call of words, with so many posts
abbrev pub call_by : ℕ → Option RunReading → Call
call_by posts None = NoCall
call_by posts (Some words) =
    if nat_lt posts words.options.workers then NoCall else call_with words (read_of words.job)

-- the same by the words as they stand
abbrev pub call_of : ℕ → List (List ℕ) → Call
call_of posts words = call_by posts (run_call words)

-- a run of a job, in partitions of at least one row
pub record IsRun (asked : RunCall) : Type 0 where
  pub job : IsJob asked.job
  pub some : 1 ≤ asked.pool.workers
  pub few : asked.max_rows ≤ 10000000
  pub parts : 1 ≤ asked.part_rows

-- where it is of a run, P of that
abbrev pub ForRun : Call → (RunCall → Type 0) → Type 0
ForRun NoCall P = ⊤
ForRun (NoJob place) P = ⊤
ForRun NoHeap P = ⊤
ForRun (Runs asked) P = P asked

-- where it is of no run, P
abbrev pub ForNoRun : Call → Type 0 → Type 0
ForNoRun NoCall P = P
ForNoRun (NoJob place) P = P
ForNoRun NoHeap P = P
ForNoRun (Runs asked) P = ⊤

-- the status tells what the call is for, or want of memory; that of a run tells neither its words, its text nor its heap
abbrev pub TellsCall : Call → Status → Type 0
TellsCall NoCall s = (s ≡ status.BadWords) ⊎ (s ≡ status.NoMemory)
TellsCall (NoJob place) s = (s ≡ status.BadJob place) ⊎ (s ≡ status.NoMemory)
TellsCall NoHeap s = (s ≡ status.HeapTooSmall) ⊎ (s ≡ status.NoMemory)
TellsCall (Runs asked) s = IsJudged s

-- why there is no run: what the call is for, or want of memory
abbrev pub IsWhyNot : Call → Status → Type 0
IsWhyNot (Runs asked) s = s ≡ status.NoMemory
IsWhyNot call s = TellsCall call s
