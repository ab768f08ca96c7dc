-- How far a worker has come with its tasks in a pass.
-- This project's own.
use Rattle.std.specs.Prelude.{◌≡◌, ℕ, ◌*◌, ◌<◌, ◌^◌, List, ◌++◌, Option, Some, Result, IfOk, false, length, ⊤}
use Rattle.std.specs.Global.{Vec}
use Rattle.spill_disk.specs.Files.{Files}
use Rattle.run_file.specs.declared.run.Run.{Run}
use Rattle.memory_core.specs.Caches.{RowsByName}
use Rattle.turn_lock.specs.Passes.{WorkerView}
use Rattle.memory_lock.specs.Workers.{IsFree, KeepsPin, SeesMore, own_of}
use Rattle.consumer_trait.specs.States.{State}
use Rattle.task_memory.specs.Disks.{LeavesDisk}
use Rattle.task_runner.specs.Consumers.{KeepsConsumers}
use Rattle.task_runner.specs.FedParts.{FeedsFirst, FeedsPart}
use Rattle.task_runner.specs.Blocks.{TellsTask}
use Rattle.task_runner.specs.Charging.{IsPartCharged}
use Rattle.task_runner.specs.PartAnswers.{AnswerParts, HoldsOwn, HoldsPart}
use Rattle.task_runner.specs.PassViews.{PassView, parts_of, queries_of, rows_over, task_for}
use Rattle.task_runner.specs.Queries.{HaveAnswers, made_in}
use Rattle.task_runner.specs.Workers.{AreMade, DoesSome, DoesTasks, IfSound, IsCount, LeavesOnlyAnswers, part_at}
use Rattle.task_runner.specs.Works.{IfNoRoom, ShowsNoRoom, Works}
use Rattle.task_runner.specs.Answers.{HasCauseAmong}
use Rattle.task_runner.specs.declared.work_fault.WorkFault.{WorkFault}
use Rattle.turn_lock.specs.Passes.{LockId}
use Rattle.pool_ledger.specs.History.{was_begun}
use Rattle.pool_ledger.specs.Sizes.{Sizes}
use Rattle.memory_lock.specs.Workers.{HasNoPin}
use Rattle.task_runner.specs.Consumers.{HasConsumers}
use Rattle.task_runner.specs.PartAnswers.{SaysOwn}
use Rattle.task_runner.specs.Queries.{IsPass}

-- a worker, the consumers of its post, and the files and the count of faults of its post's disk
pub record WorkerScene : Type 0 where
  pub worker : WorkerView
  pub states : List State
  pub files : Option Files
  pub faults : ℕ

-- these together
abbrev pub scene_by : WorkerView → List State → Option Files → ℕ → WorkerScene
scene_by worker states files faults = record { worker = worker; states = states; files = files; faults = faults }

-- what holds after tasks, whether or not they were all done
pub record StaysAfter (before after : WorkerScene) : Type 0 where
  pub consumers : KeepsConsumers before.states after.states
  pub free : IsFree after.worker
  pub pin : KeepsPin before.worker after.worker
  pub sees : SeesMore before.worker after.worker
  pub disk : LeavesDisk before.files after.files before.faults after.faults

-- one task was done, of this partition: its answers are one for each query
pub record DoesOne (given : RowsByName) (pass : PassView) (part : ℕ) (before after : WorkerScene) (found : List (Option Run)) : Type 0 where
  pub stays : StaysAfter before after
  pub count : length found ≡ queries_of pass
  pub tells : (rows : List (List (List ℕ))) → HoldsPart before.files given pass part rows
      → HaveAnswers after.files pass.plan pass.queries (made_in pass.plan pass.queries (rows_over pass rows)) found
  pub made : AreMade before.files found
  pub only : LeavesOnlyAnswers before.files after.files found
  pub fed : FeedsPart before.states after.states before.files given pass part
  pub works : Works (task_for pass part) before.worker after.worker
  pub told : TellsTask pass part after.worker
  pub charged : IsPartCharged before.states before.files given pass part (own_of after.worker)

-- one task was done, and its answers stand behind the others
abbrev pub AddsOne : RowsByName → PassView → ℕ → WorkerScene → WorkerScene → List (Option Run) → List (Option Run) → Type 0
AddsOne given pass part before after answers answers' =
    (found : List (Option Run)) × DoesOne given pass part before after found × (answers' ≡ answers ++ found)

-- the worker at a place did so many tasks, with these answers
pub record DoesFirst (given : RowsByName) (pass : PassView) (workers place : ℕ) (start now : WorkerScene) (tasks : ℕ) (answers : List (Option Run)) : Type 0 where
  pub stays : StaysAfter start now
  pub many : length answers ≡ tasks * queries_of pass
  pub within : (k : ℕ) → k < tasks → part_at workers place k < parts_of pass
  pub tells : (rows : ℕ → List (List (List ℕ))) → HoldsOwn start.files given pass workers place rows
      → AnswerParts now.files pass workers place rows answers
  pub made : AreMade start.files answers
  pub only : LeavesOnlyAnswers start.files now.files answers
  pub fed : FeedsFirst start.states now.states start.files given pass workers place tasks
  pub works : DoesTasks pass.first workers place tasks start.worker now.worker
  pub told : (k : ℕ) → k < tasks → TellsTask pass (part_at workers place k) now.worker
  pub charged : (k : ℕ) → k < tasks → IsPartCharged start.states start.files given pass (part_at workers place k) (own_of now.worker)

-- ---- a worker at its post, in a pass

-- it may do its tasks there: it is of this lock, has no task and no pin, owns those of its partitions, and began none of them
pub record MayRunBench (lock : LockId) (owner : ℕ → Option ℕ) (given : RowsByName) (pass : PassView) (workers place : ℕ) (bench : WorkerScene) : Type 0 where
  pub lock_is : bench.worker.lock ≡ lock
  pub known : place < workers
  pub narrow : place < 2 ^ 32
  pub free : IsFree bench.worker
  pub unpinned : HasNoPin bench.worker
  pub owns : (k : ℕ) → part_at workers place k < parts_of pass
      → owner (task_for pass (part_at workers place k)) ≡ Some bench.worker.number
  pub fresh : (k : ℕ) → part_at workers place k < parts_of pass
      → was_begun (own_of bench.worker) (task_for pass (part_at workers place k)) ≡ false
  pub consumers : HasConsumers bench.states
  pub says : SaysOwn bench.files given pass workers place
  pub pass_is : IsPass pass

-- it did all of them, with these answers
pub record FinishesBench (given : RowsByName) (pass : PassView) (workers place : ℕ) (before after : WorkerScene) (answers : List (Option Run)) : Type 0 where
  pub tasks : ℕ
  pub count : IsCount workers place (parts_of pass) tasks
  pub many : length answers ≡ tasks * queries_of pass
  pub feeds : FeedsFirst before.states after.states before.files given pass workers place tasks
  pub does : DoesTasks pass.first workers place tasks before.worker after.worker
  pub told : (k : ℕ) → k < tasks → TellsTask pass (part_at workers place k) after.worker
  pub charged : (k : ℕ) → k < tasks → IsPartCharged before.states before.files given pass (part_at workers place k) (own_of after.worker)
  pub made : AreMade before.files answers
  pub only : LeavesOnlyAnswers before.files after.files answers
  pub tells : (rows : ℕ → List (List (List ℕ))) → HoldsOwn before.files given pass workers place rows
      → AnswerParts after.files pass workers place rows answers

-- what it leaves, whether it did all of them or not
pub record LeavesBench (pass : PassView) (workers place : ℕ) (before after : WorkerScene) : Type 0 where
  pub may_work : DoesSome pass.first workers place (parts_of pass) before.worker after.worker
  pub free : IsFree after.worker
  pub pin : KeepsPin before.worker after.worker
  pub sees : SeesMore before.worker after.worker
  pub consumers : KeepsConsumers before.states after.states
  pub disk : LeavesDisk before.files after.files before.faults after.faults

-- what it leaves, and what it answers
pub record RanBench (sizes : Sizes) (given : RowsByName) (pass : PassView) (workers place : ℕ) (before after : WorkerScene) (answer : Result (Vec (Option Run)) WorkFault) : Type 0 where
  pub finishes : IfOk answer (λ answers. FinishesBench given pass workers place before after answers.items)
  pub leaves : LeavesBench pass workers place before after
  pub sound : (rows : ℕ → List (List (List ℕ))) → HoldsOwn before.files given pass workers place rows → IfSound (λ _. ⊤) answer
  pub no_room : IfNoRoom answer (λ asked held floor. (task : ℕ) × ShowsNoRoom sizes (own_of after.worker) task asked held floor)
  pub cause : HasCauseAmong (λ _. before.faults) (λ _. after.faults) answer
