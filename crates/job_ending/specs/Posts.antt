-- Which disks of a run's posts tell.
-- This project's own.
use Rattle.std.specs.Prelude.{◌≡◌, ℕ, ◌<◌, false, Option, IsSome}
use Rattle.spill_disk.specs.Files.{Files}
use Rattle.job_ending.specs.Calls.{keeps_none}
use Rattle.job_ending.specs.declared.call.RunCall.{RunCall}

-- the disks of the workers' posts tell, and so does the store disk, where the job keeps a dataset
pub record AllTell (asked : RunCall) (files : ℕ → Option Files) (store : Option Files) : Type 0 where
  pub posts : (place : ℕ) → place < asked.pool.workers → IsSome (files place)
  pub keeps : keeps_none asked.job ≡ false → IsSome store
