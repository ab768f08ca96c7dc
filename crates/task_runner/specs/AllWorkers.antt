-- What the workers of a pass make of their posts and of their own entries, worker by worker.
-- This project's own.
use Rattle.std.specs.Prelude.{◌≡◌, ℕ, ◌<◌, ◌≤◌, List, [], Option, length, map, slice_get, slice_index_or}
use Rattle.std.specs.Option.{option_and_then, option_map, option_map_or}
use Rattle.spill_disk.specs.Files.{Files}
use Rattle.run_file.specs.declared.run.Run.{Run}
use Rattle.memory_core.specs.Caches.{RowsByName}
use Rattle.turn_lock.specs.Passes.{WorkerView}
use Rattle.consumer_trait.specs.States.{State}
use Rattle.task_runner.specs.OneWorker.{FinishesBench, LeavesBench, WorkerScene, scene_by}
use Rattle.task_runner.specs.PassViews.{PassView}
use Rattle.task_runner.specs.declared.post.Post.{Post}
use Rattle.task_runner.specs.declared.work_fault.WorkFault.{WorkFault}
use Rattle.task_runner.specs.declared.work_fault.WorkFault.TheVariants.{NoRoom, DiskFault, Damaged, NoMemory}

-- the same fault, of the disk of this post
abbrev pub named_as : ℕ → WorkFault → WorkFault
named_as number (NoRoom asked held floor) = NoRoom asked held floor
named_as number (DiskFault post) = DiskFault number
named_as number (Damaged damage) = Damaged (record damage { disk = number })
named_as number NoMemory = NoMemory

-- ---- a post that may be there

-- its consumers; none where there is no post
abbrev pub states_of : {D C : Type 0} → (C → State) → Option (Post D C) → List State
states_of state post = option_map_or (λ post. map state post.consumers.items) post []

-- the files of its disk, where it tells
abbrev pub files_of : {D C : Type 0} → (D → Option Files) → Option (Post D C) → Option Files
files_of files post = option_and_then files (option_map (λ post. post.disk) post)

-- the count of faults of its disk
abbrev pub faults_of : {D C : Type 0} → (D → ℕ) → Option (Post D C) → ℕ
faults_of faults post = option_map_or faults (option_map (λ post. post.disk) post) 0

-- ---- one worker

-- a worker and the post at its place
abbrev pub bench_at : {D C : Type 0} → (C → State) → (D → Option Files) → (D → ℕ) → WorkerView → Option (Post D C) → WorkerScene
bench_at state files faults worker post = scene_by worker (states_of state post) (files_of files post) (faults_of faults post)

-- what the worker at a place leaves, whether it did all of its tasks or not
abbrev pub Leaves : {D C : Type 0} → (C → State) → (D → Option Files) → (D → ℕ) → ℕ → ℕ → PassView → WorkerView → WorkerView → Option (Post D C) → Option (Post D C) → Type 0
Leaves state files faults workers place pass before after post post' =
    LeavesBench pass workers place (bench_at state files faults before post) (bench_at state files faults after post')

-- the worker at a place did all of its tasks, with these answers
abbrev pub Finishes : {D C : Type 0} → (C → State) → (D → Option Files) → (D → ℕ) → ℕ → ℕ → RowsByName → PassView → WorkerView → WorkerView → Option (Post D C) → Option (Post D C) → List (Option Run) → Type 0
Finishes state files faults workers place given pass before after post post' answers =
    FinishesBench given pass workers place (bench_at state files faults before post) (bench_at state files faults after post') answers

-- ---- all workers

-- the workers at the places below `n` left their posts and entries; the others are as they were
pub record Reached {D C : Type 0} (state : C → State) (files : D → Option Files) (faults : D → ℕ) (workers n : ℕ) (pass : PassView) (olds news : List WorkerView) (posts posts' : List (Post D C)) : Type 0 where
  pub each : (w : ℕ) (any : WorkerView) → w < n
      → Leaves state files faults workers w pass (slice_index_or olds w any) (slice_index_or news w any) (slice_get posts w) (slice_get posts' w)
  pub still : (w : ℕ) (any : WorkerView) → n ≤ w → slice_index_or news w any ≡ slice_index_or olds w any
  pub others : (place : ℕ) → n ≤ place → slice_get posts' place ≡ slice_get posts place
  pub count : length posts' ≡ length posts

-- the answers of a worker
abbrev pub answers_of : List (List (Option Run)) → ℕ → List (Option Run)
answers_of all worker = slice_index_or all worker []

-- the workers at the places below `n` did all of their tasks, with these answers, a list for each worker
pub record Finished {D C : Type 0} (state : C → State) (files : D → Option Files) (faults : D → ℕ) (workers n : ℕ) (given : RowsByName) (pass : PassView) (olds news : List WorkerView) (posts posts' : List (Post D C)) (all : List (List (Option Run))) : Type 0 where
  pub count : length all ≡ n
  pub each : (w : ℕ) (any : WorkerView) → w < n
      → Finishes state files faults workers w given pass (slice_index_or olds w any) (slice_index_or news w any) (slice_get posts w) (slice_get posts' w) (answers_of all w)
