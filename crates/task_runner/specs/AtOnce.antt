-- The workers of a pass at the same time: what each may do at its post, what it did there, and what all of them answered.
-- This project's own.
use Rattle.std.specs.Prelude.{◌≡◌, ℕ, ◌%◌, ◌<◌, ◌⊎◌, List, Option, Some, None, Result, Ok, Err, false, length, slice_get, slice_index_or, ⊤}
use Rattle.std.specs.Global.{Vec}
use Rattle.consumer_trait.specs.States.{State}
use Rattle.pool_ledger.specs.History.{was_begun}
use Rattle.pool_ledger.specs.Sizes.{Sizes}
use Rattle.spill_disk.specs.Files.{Files}
use Rattle.run_file.specs.declared.run.Run.{Run}
use Rattle.memory_core.specs.Caches.{RowsByName}
use Rattle.turn_lock.specs.Passes.{LockId, WorkerView}
use Rattle.memory_lock.specs.Workers.{HasNoPin, IsFree, own_of}
use Rattle.task_runner.specs.AllWorkers.{answers_of, bench_at}
use Rattle.task_runner.specs.Answers.{NamesPost}
use Rattle.task_runner.specs.OneWorker.{MayRunBench, RanBench}
use Rattle.task_runner.specs.PassViews.{PassView, parts_of, task_for}
use Rattle.task_runner.specs.Workers.{DoesAll}
use Rattle.task_runner.specs.declared.post.Post.{Post}
use Rattle.task_runner.specs.declared.work_fault.WorkFault.{WorkFault}
use Rattle.task_runner.specs.declared.work_fault.WorkFault.TheVariants.{NoMemory}

-- ---- one worker at its post

-- the worker of this place may do its tasks at this post
abbrev pub MayRun : {D C : Type 0} → (C → State) → (D → Option Files) → (D → ℕ) → LockId → (ℕ → Option ℕ) → ℕ → RowsByName → PassView → ℕ → WorkerView → Post D C → Type 0
MayRun state files faults lock owner workers given pass place worker post =
    MayRunBench lock owner given pass workers place (bench_at state files faults worker (Some post))

-- what the worker of this place leaves there, and what it answers; a fault of the disk names the place
pub record Ran {D C : Type 0} (state : C → State) (files : D → Option Files) (faults : D → ℕ) (sizes : Sizes) (workers : ℕ) (given : RowsByName) (pass : PassView) (place : ℕ) (before after : WorkerView) (post post' : Post D C) (answer : Result (Vec (Option Run)) WorkFault) : Type 0 where
  pub ran : RanBench sizes given pass workers place (bench_at state files faults before (Some post)) (bench_at state files faults after (Some post')) answer
  pub names : NamesPost place answer
  pub rests : after.base ≡ None

-- ---- all of them

-- the worker of a partition: of `n` workers the one at the place `part % n`
abbrev pub worker_for : List WorkerView → ℕ → WorkerView → WorkerView
worker_for workers part any = slice_index_or workers (part % length workers) any

-- the workers are of this lock and rest, have no task and no pin, own those of their partitions, and began none of them
pub record MayDoAll (lock : LockId) (owner : ℕ → Option ℕ) (pass : PassView) (workers : List WorkerView) : Type 0 where
  pub locks : (place : ℕ) (any : WorkerView) → place < length workers → (slice_index_or workers place any).lock ≡ lock
  pub rests : (place : ℕ) (any : WorkerView) → place < length workers → (slice_index_or workers place any).base ≡ None
  pub free : (place : ℕ) (any : WorkerView) → place < length workers → IsFree (slice_index_or workers place any)
  pub unpinned : (place : ℕ) (any : WorkerView) → place < length workers → HasNoPin (slice_index_or workers place any)
  pub owns : (part : ℕ) (any : WorkerView) → part < parts_of pass
      → owner (task_for pass part) ≡ Some (worker_for workers part any).number
  pub fresh : (part : ℕ) (any : WorkerView) → part < parts_of pass
      → was_begun (own_of (worker_for workers part any)) (task_for pass part) ≡ false

-- the worker of each place may do its tasks there
abbrev pub AllMayRun : {D C : Type 0} → (C → State) → (D → Option Files) → (D → ℕ) → LockId → (ℕ → Option ℕ) → ℕ → RowsByName → PassView → List WorkerView → List (Post D C) → Type 0
AllMayRun {D = D} {C = C} state files faults lock owner count given pass workers posts =
    (place : ℕ) (worker : WorkerView) (post : Post D C) → place < length workers
    → MayRun state files faults lock owner count given pass place (slice_index_or workers place worker) (slice_index_or posts place post)

-- each worker answered its list of these
pub record AreAnswers (told : List (Result (Vec (Option Run)) WorkFault)) (all : List (List (Option Run))) : Type 0 where
  pub count : length all ≡ length told
  pub each : (k : ℕ) → k < length told → (answers : Vec (Option Run)) × (slice_get told k ≡ Some (Ok answers)) × (answers_of all k ≡ answers.items)

-- the fault of the first worker that failed
pub record IsFirstFault (told : List (Result (Vec (Option Run)) WorkFault)) (fault : WorkFault) : Type 0 where
  pub place : ℕ
  pub within : place < length told
  pub is : slice_get told place ≡ Some (Err fault)
  pub before : (k : ℕ) → k < place → (answers : Vec (Option Run)) × (slice_get told k ≡ Some (Ok answers))

-- what is told of all is told by the first that failed, unless memory was wanting for the list of all
abbrev pub TellsFirstFault : {T : Type 0} → List (Result (Vec (Option Run)) WorkFault) → Result T WorkFault → Type 0
TellsFirstFault told (Ok all) = ⊤
TellsFirstFault told (Err fault) = (fault ≡ NoMemory) ⊎ IsFirstFault told fault

-- ---- whose fault is told

-- the fault names the place of a worker, and those at the places below it did all of their tasks
pub record IsLowestFault (pass : PassView) (count : ℕ) (olds news : List WorkerView) (fault : WorkFault) : Type 0 where
  pub place : ℕ
  pub within : place < count
  pub names : NamesPost {T = Vec (Option Run)} place (Err fault)
  pub below : (w : ℕ) (any : WorkerView) → w < place
      → DoesAll pass.first count w (parts_of pass) (slice_index_or olds w any) (slice_index_or news w any)

-- what is told is the fault of the lowest place whose worker failed, or want of memory
abbrev pub TellsLowest : {T : Type 0} → PassView → ℕ → List WorkerView → List WorkerView → Result T WorkFault → Type 0
TellsLowest pass count olds news (Ok all) = ⊤
TellsLowest pass count olds news (Err fault) = (fault ≡ NoMemory) ⊎ IsLowestFault pass count olds news fault
