-- What one worker did at its post, as all of them are told of.
use Rattle.std.proofs.Common.{ℕ, List, Option, Some, map}
use Rattle.spill_disk.specs.Files.{Files}
use Rattle.run_file.specs.declared.run.Run.{Run}
use Rattle.memory_core.specs.Caches.{RowsByName}
use Rattle.turn_lock.specs.Passes.{WorkerView}
use Rattle.consumer_trait.specs.States.{State}
use Rattle.task_runner.specs.AllWorkers.{Finishes, Leaves}
use Rattle.task_runner.specs.OneWorker.{DoesFirst, StaysAfter, scene_by}
use Rattle.task_runner.specs.PassViews.{PassView, parts_of}
use Rattle.task_runner.specs.Workers.{DoesSome, IsCount}
use Rattle.task_runner.specs.declared.post.Post.{Post}

pub finishes_of : {D C : Type 0} (state : C → State) (files : D → Option Files) (faults : D → ℕ) (workers place : ℕ) (given : RowsByName) (pass : PassView) (before after : WorkerView) (post post' : Post D C) (tasks : ℕ) (answers : List (Option Run))
    → DoesFirst given pass workers place (scene_by before (map state post.consumers.items) (files post.disk) (faults post.disk)) (scene_by after (map state post'.consumers.items) (files post'.disk) (faults post'.disk)) tasks answers
    → IsCount workers place (parts_of pass) tasks → Finishes state files faults workers place given pass before after (Some post) (Some post') answers
finishes_of state files faults workers place given pass before after post post' tasks answers first count = record {
  tasks = tasks;
  count = count;
  many = first.many;
  feeds = first.fed;
  does = first.works;
  made = first.made;
  only = first.only;
  tells = first.tells;
  told = first.told;
  charged = first.charged;
}

pub leaves_of : {D C : Type 0} (state : C → State) (files : D → Option Files) (faults : D → ℕ) (workers place : ℕ) (pass : PassView) (before after : WorkerView) (post post' : Post D C)
    → StaysAfter (scene_by before (map state post.consumers.items) (files post.disk) (faults post.disk)) (scene_by after (map state post'.consumers.items) (files post'.disk) (faults post'.disk))
    → DoesSome pass.first workers place (parts_of pass) before after → Leaves state files faults workers place pass before after (Some post) (Some post')
leaves_of state files faults workers place pass before after post post' stays does = record {
  may_work = does;
  free = stays.free;
  pin = stays.pin;
  sees = stays.sees;
  consumers = stays.consumers;
  disk = stays.disk;
}
