-- What a worker leaves of a task, and what it answers, by what is told of it.
use Rattle.std.proofs.Common.{◌≡◌, ℕ, List, Option, Result, Ok, Err, length}
use Rattle.std.specs.Prelude.{IfOk, OnOk}
use Rattle.std.specs.Global.{Vec}
use Rattle.pool_ledger.specs.Sizes.{Sizes}
use Rattle.run_file.specs.declared.run.Run.{Run}
use Rattle.memory_core.specs.Caches.{RowsByName}
use Rattle.memory_lock.specs.Workers.{own_of}
use Rattle.task_runner.specs.Answers.{HasCauseAmong}
use Rattle.task_runner.specs.Blocks.{TellsTask}
use Rattle.task_runner.specs.Charging.{IsPartCharged}
use Rattle.task_runner.specs.FedParts.{FeedsPart}
use Rattle.task_runner.specs.Merging.{told_with}
use Rattle.task_runner.specs.OneTask.{RanNext, RanTask}
use Rattle.task_runner.specs.OneWorker.{StaysAfter, WorkerScene}
use Rattle.task_runner.specs.PartAnswers.{HoldsPart}
use Rattle.task_runner.specs.PassViews.{PassView, queries_of, rows_over, task_for}
use Rattle.task_runner.specs.Queries.{AnswerTotals, made_in}
use Rattle.task_runner.specs.Workers.{AreMade, LeavesOnlyAnswers}
use Rattle.task_runner.specs.Works.{IfNoRoom, MayWork, ShowsNoRoom, Works}
use Rattle.task_runner.specs.declared.work_fault.WorkFault.{WorkFault}
use Rattle.task_runner.specs.declared.work_fault.WorkFault.TheVariants.{NoRoom, DiskFault, Damaged, NoMemory}

module _ (sizes : Sizes) (given : RowsByName) (pass : PassView) (part : ℕ) (before after : WorkerScene) where
  -- what holds of the answers of a task that was done
  pub record Tells (answer : Result (Vec (Option Run)) WorkFault) : Type 0 where
    pub count : IfOk answer (λ found. length found.items ≡ queries_of pass)
    pub totals : (rows : List (List (List ℕ))) → HoldsPart before.files given pass part rows
        → AnswerTotals after.files pass.plan pass.queries (made_in pass.plan pass.queries (rows_over pass rows)) answer
    pub made : IfOk answer (λ found. AreMade before.files found.items)
    pub only : IfOk answer (λ found. LeavesOnlyAnswers before.files after.files found.items)
    pub fed : OnOk answer (FeedsPart before.states after.states before.files given pass part)
    pub told : OnOk answer (TellsTask pass part after.worker)
    pub charged : OnOk answer (IsPartCharged before.states before.files given pass part (own_of after.worker))
    pub cause : HasCauseAmong (λ _. before.faults) (λ _. after.faults) answer

  -- the same answer was told, but for what a refusal for want of room says that the task held
  pub ran_told : (answer : Result (Vec (Option Run)) WorkFault) (held : ℕ) → StaysAfter before after → Works (task_for pass part) before.worker after.worker → MayWork (task_for pass part) before.worker after.worker
      → Tells answer → IfNoRoom (told_with answer held) (λ asked was floor. ShowsNoRoom sizes (own_of after.worker) (task_for pass part) asked was floor)
      → RanTask sizes given pass part before after (told_with answer held)
  ran_told (Ok found) held stays works may tells room = record {
    does = record {
      stays = stays;
      count = tells.count;
      tells = tells.totals;
      made = tells.made;
      only = tells.only;
      fed = tells.fed;
      works = works;
      told = tells.told;
      charged = tells.charged;
    };
    stays = stays;
    may_work = may;
    sound = λ rows holds. tt;
    no_room = tt;
    cause = tt;
  }
  ran_told (Err (NoRoom asked was floor)) held stays works may tells room = record {
    does = tt;
    stays = stays;
    may_work = may;
    sound = λ rows holds. tt;
    no_room = room;
    cause = tt;
  }
  ran_told (Err (DiskFault post)) held stays works may tells room = record {
    does = tt;
    stays = stays;
    may_work = may;
    sound = λ rows holds. tt;
    no_room = tt;
    cause = tells.cause;
  }
  ran_told (Err (Damaged damage)) held stays works may tells room = record {
    does = tt;
    stays = stays;
    may_work = may;
    sound = tells.totals;
    no_room = tt;
    cause = tells.cause;
  }
  ran_told (Err NoMemory) held stays works may tells room = record {
    does = tt;
    stays = stays;
    may_work = may;
    sound = λ rows holds. tt;
    no_room = tt;
    cause = tt;
  }

  -- a fault of the task is handed up, whatever was to come of its answers
  pub ran_fault_next : (answers answers' : List (Option Run)) (fault : WorkFault) → RanTask sizes given pass part before after (Err fault) → RanNext sizes given pass part before after answers answers' (Err fault)
  ran_fault_next answers answers' (NoRoom asked held floor) ran = record { does = tt; stays = ran.stays; may_work = ran.may_work; sound = λ rows holds. tt; no_room = ran.no_room; cause = tt }
  ran_fault_next answers answers' (DiskFault post) ran = record { does = tt; stays = ran.stays; may_work = ran.may_work; sound = λ rows holds. tt; no_room = tt; cause = ran.cause }
  ran_fault_next answers answers' (Damaged damage) ran = record { does = tt; stays = ran.stays; may_work = ran.may_work; sound = ran.sound; no_room = tt; cause = ran.cause }
  ran_fault_next answers answers' NoMemory ran = record { does = tt; stays = ran.stays; may_work = ran.may_work; sound = λ rows holds. tt; no_room = tt; cause = tt }
