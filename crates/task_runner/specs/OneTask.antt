-- The task of a partition, done by a worker at its post.
-- This project's own.
use Rattle.std.specs.Prelude.{◌≡◌, ℕ, ◌<◌, List, Option, Some, Result, IfOk, OnOk, false, length, map, ⊤}
use Rattle.std.specs.Global.{Vec}
use Rattle.spill_disk.specs.Files.{Files}
use Rattle.pool_ledger.specs.History.{held, was_begun}
use Rattle.pool_ledger.specs.Sizes.{Sizes, floor_of}
use Rattle.run_file.specs.declared.run.Run.{Run}
use Rattle.memory_core.specs.Caches.{RowsByName}
use Rattle.turn_lock.specs.Passes.{LockId, WorkerView}
use Rattle.memory_lock.specs.Workers.{HasNoPin, IsFree, own_of}
use Rattle.task_pool.specs.Workers.{IsOpen}
use Rattle.task_account.specs.Attempts.{held_by}
use Rattle.task_memory.specs.Disks.{LeavesDisk}
use Rattle.job_plan.specs.Plans.{chain_in}
use Rattle.lineage.specs.Telling.{TellsNearest}
use Rattle.consumer_trait.specs.States.{State}
use Rattle.task_runner.specs.Answers.{HasCauseAmong}
use Rattle.task_runner.specs.Charging.{IsChargedFor}
use Rattle.task_runner.specs.Consumers.{HasConsumers, KeepsConsumers}
use Rattle.task_runner.specs.FedParts.{FeedsPart}
use Rattle.task_runner.specs.OneWorker.{AddsOne, DoesOne, StaysAfter, WorkerScene, scene_by}
use Rattle.task_runner.specs.PartAnswers.{HoldsPart, SaysPart}
use Rattle.task_runner.specs.PassViews.{PassView, parts_of, queries_of, rows_over, task_for}
use Rattle.task_runner.specs.Queries.{AnswerTotals, IsPass, made_in}
use Rattle.task_runner.specs.Workers.{AreMade, IfSound, LeavesOnlyAnswers}
use Rattle.task_runner.specs.Works.{GoesOnInTask, IfNoRoom, IsRefused, MayWork, ShowsNoRoom}
use Rattle.task_runner.specs.declared.post.Post.{Post}
use Rattle.task_runner.specs.declared.work_fault.WorkFault.{WorkFault}

-- a worker at its post
abbrev pub bench_by : {D C : Type 0} → (C → State) → (D → Option Files) → (D → ℕ) → WorkerView → Post D C → WorkerScene
bench_by state files faults worker post = scene_by worker (map state post.consumers.items) (files post.disk) (faults post.disk)

-- it may do the task: it is of this lock, owns the task and never began it, and has no task and no pin
pub record MayRunPart (lock : LockId) (owner : ℕ → Option ℕ) (given : RowsByName) (pass : PassView) (part : ℕ) (bench : WorkerScene) : Type 0 where
  pub lock_is : bench.worker.lock ≡ lock
  pub within : part < parts_of pass
  pub owns : owner (task_for pass part) ≡ Some bench.worker.number
  pub free : IsFree bench.worker
  pub unpinned : HasNoPin bench.worker
  pub fresh : was_begun (own_of bench.worker) (task_for pass part) ≡ false
  pub consumers : HasConsumers bench.states
  pub says : SaysPart bench.files given pass part
  pub pass_is : IsPass pass

-- what it leaves, and what it answers: what this says where the task was done
pub record RanPart {T : Type 0} (sizes : Sizes) (given : RowsByName) (pass : PassView) (part : ℕ) (before after : WorkerScene) (says : T → Type 0) (answer : Result T WorkFault) : Type 0 where
  pub does : IfOk answer says
  pub stays : StaysAfter before after
  pub may_work : MayWork (task_for pass part) before.worker after.worker
  pub sound : (rows : List (List (List ℕ))) → HoldsPart before.files given pass part rows → IfSound (λ _. ⊤) answer
  pub no_room : IfNoRoom answer (λ asked held floor. ShowsNoRoom sizes (own_of after.worker) (task_for pass part) asked held floor)
  pub cause : HasCauseAmong (λ _. before.faults) (λ _. after.faults) answer

-- the task's own answers are told
abbrev pub RanTask : Sizes → RowsByName → PassView → ℕ → WorkerScene → WorkerScene → Result (Vec (Option Run)) WorkFault → Type 0
RanTask sizes given pass part before after answer =
    RanPart sizes given pass part before after (λ answers. DoesOne given pass part before after answers.items) answer

-- they are put behind others
abbrev pub RanNext : Sizes → RowsByName → PassView → ℕ → WorkerScene → WorkerScene → List (Option Run) → List (Option Run) → Result (Unit {0}) WorkFault → Type 0
RanNext sizes given pass part before after answers answers' answer =
    RanPart sizes given pass part before after (λ _. AddsOne given pass part before after answers answers') answer

-- ---- between its begin and its end

-- it began the task, and may serve it: it holds nothing yet, and has no pin
pub record MayServePart (lock : LockId) (given : RowsByName) (pass : PassView) (part task : ℕ) (bench : WorkerScene) : Type 0 where
  pub lock_is : bench.worker.lock ≡ lock
  pub within : part < parts_of pass
  pub its_task : IsOpen bench.worker task
  pub nothing : held (own_of bench.worker) task ≡ 0
  pub unpinned : HasNoPin bench.worker
  pub consumers : HasConsumers bench.states
  pub says : SaysPart bench.files given pass part
  pub pass_is : IsPass pass

-- what it leaves then, and what it answers
pub record ServedPart (sizes : Sizes) (given : RowsByName) (pass : PassView) (part task : ℕ) (before after : WorkerScene) (answer : Result (Vec (Option Run)) WorkFault) : Type 0 where
  pub count : IfOk answer (λ found. length found.items ≡ queries_of pass)
  pub totals : (rows : List (List (List ℕ))) → HoldsPart before.files given pass part rows
      → AnswerTotals after.files pass.plan pass.queries (made_in pass.plan pass.queries (rows_over pass rows)) answer
  pub made : IfOk answer (λ found. AreMade before.files found.items)
  pub only : IfOk answer (λ found. LeavesOnlyAnswers before.files after.files found.items)
  pub fed : OnOk answer (FeedsPart before.states after.states before.files given pass part)
  pub charged : OnOk answer ((rows : List (List (List ℕ))) → HoldsPart before.files given pass part rows
      → IsChargedFor before.states pass (rows_over pass rows) task (own_of after.worker))
  pub consumers : KeepsConsumers before.states after.states
  pub disk : LeavesDisk before.files after.files before.faults after.faults
  pub cause : HasCauseAmong (λ _. before.faults) (λ _. after.faults) answer
  pub goes : GoesOnInTask task before.worker after.worker
  pub unpinned : HasNoPin after.worker
  pub told : OnOk answer (TellsNearest (chain_in pass.plan) pass.dataset part before.worker after.worker)
  pub refused : IfNoRoom answer (λ asked held floor. IsRefused (held_by (floor_of sizes) task after.worker) asked floor)
