-- What a worker leaves of a pass, and what it answers, by what its tasks so far did.
use Rattle.std.proofs.Common.{ℕ, ◌<◌, List, Option, Ok, Err, arith}
use Rattle.std.specs.Prelude.{⊤}
use Rattle.std.specs.Global.{Vec}
use Rattle.pool_ledger.specs.Sizes.{Sizes}
use Rattle.run_file.specs.declared.run.Run.{Run}
use Rattle.memory_core.specs.Caches.{RowsByName}
use Rattle.memory_lock.specs.Workers.{own_of}
use Rattle.task_runner.specs.Answers.{HasCauseAmong}
use Rattle.task_runner.specs.OneWorker.{DoesFirst, RanBench, StaysAfter, WorkerScene}
use Rattle.task_runner.specs.PartAnswers.{HoldsPart}
use Rattle.task_runner.specs.PassViews.{PassView, parts_of}
use Rattle.task_runner.specs.Workers.{DoesSome, IfSound, IsCount, part_at}
use Rattle.task_runner.specs.Works.{IfNoRoom, ShowsNoRoom}
use Rattle.task_runner.specs.declared.work_fault.WorkFault.{WorkFault}
use Rattle.task_runner.specs.declared.work_fault.WorkFault.TheVariants.{NoRoom, DiskFault, Damaged, NoMemory}
use Rattle.task_runner.proofs.KeptRuns.{part_kept}

-- all of its tasks were done
pub ran_all : (sizes : Sizes) (given : RowsByName) (pass : PassView) (workers place : ℕ) (start now : WorkerScene) (tasks : ℕ) (answers : Vec (Option Run))
    → DoesFirst given pass workers place start now tasks answers.items → IsCount workers place (parts_of pass) tasks → RanBench sizes given pass workers place start now (Ok answers)
ran_all sizes given pass workers place start now tasks answers first count = record {
  finishes = record {
    tasks = tasks;
    count = count;
    many = first.many;
    feeds = first.fed;
    does = first.works;
    told = first.told;
    charged = first.charged;
    made = first.made;
    only = first.only;
    tells = first.tells;
  };
  leaves = record {
    may_work = record { count = tasks; within = first.within; does = first.works };
    free = first.stays.free;
    pin = first.stays.pin;
    sees = first.stays.sees;
    consumers = first.stays.consumers;
    disk = first.stays.disk;
  };
  sound = λ rows holds. tt;
  no_room = tt;
  cause = tt;
}

-- a task failed behind some that were done
pub ran_fault : (sizes : Sizes) (given : RowsByName) (pass : PassView) (workers place : ℕ) (start now after : WorkerScene) (tasks : ℕ) (answers : List (Option Run)) (fault : WorkFault)
    → DoesFirst given pass workers place start now tasks answers → StaysAfter start after → DoesSome pass.first workers place (parts_of pass) start.worker after.worker
    → part_at workers place tasks < parts_of pass
    → ((rows : List (List (List ℕ))) → HoldsPart now.files given pass (part_at workers place tasks) rows → IfSound {T = Unit {0}} (λ _. ⊤) (Err fault))
    → (task : ℕ) → IfNoRoom {T = Unit {0}} (Err fault) (λ asked held floor. ShowsNoRoom sizes (own_of after.worker) task asked held floor)
    → HasCauseAmong {T = Unit {0}} (λ _. now.faults) (λ _. after.faults) (Err fault)
    → RanBench sizes given pass workers place start after (Err fault)
ran_fault sizes given pass workers place start now after tasks answers (NoRoom asked held floor) first stays some below sound task shows cause = record {
  finishes = tt;
  leaves = record { may_work = some; free = stays.free; pin = stays.pin; sees = stays.sees; consumers = stays.consumers; disk = stays.disk };
  sound = λ rows holds. tt;
  no_room = (task, shows);
  cause = tt;
}
ran_fault sizes given pass workers place start now after tasks answers (DiskFault post) first stays some below sound task shows cause = record {
  finishes = tt;
  leaves = record { may_work = some; free = stays.free; pin = stays.pin; sees = stays.sees; consumers = stays.consumers; disk = stays.disk };
  sound = λ rows holds. tt;
  no_room = tt;
  cause = let rise = first.stays.disk.later in omega (arith, cause, rise);
}
ran_fault sizes given pass workers place start now after tasks answers (Damaged damage) first stays some below sound task shows cause = record {
  finishes = tt;
  leaves = record { may_work = some; free = stays.free; pin = stays.pin; sees = stays.sees; consumers = stays.consumers; disk = stays.disk };
  sound = λ rows holds. sound (rows (part_at workers place tasks))
      (part_kept start.files now.files given pass (part_at workers place tasks) (rows (part_at workers place tasks)) first.stays.disk.kept (holds tasks below));
  no_room = tt;
  cause = cause;
}
ran_fault sizes given pass workers place start now after tasks answers NoMemory first stays some below sound task shows cause = record {
  finishes = tt;
  leaves = record { may_work = some; free = stays.free; pin = stays.pin; sees = stays.sees; consumers = stays.consumers; disk = stays.disk };
  sound = λ rows holds. tt;
  no_room = tt;
  cause = tt;
}
