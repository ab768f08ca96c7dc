-- The posts of a run, and their disks.
-- This project's own.
use Rattle.std.specs.Prelude.{◌≡◌, ℕ, Option, Some, None, Result, Ok, Err, ⊤}
use Rattle.std.specs.Global.{Vec}
use Rattle.spill_disk.specs.Files.{Files}
use Rattle.spill_disk.specs.Shelves.{disk_at}
use Rattle.run_file.specs.declared.run.Run.{Run}
use Rattle.run_file.specs.Shelved.{faults_on, files_on}
use Rattle.task_runner.specs.declared.post.Post.{Post}
use Rattle.task_runner.specs.declared.work_fault.WorkFault.{WorkFault}
use Rattle.task_runner.specs.declared.work_fault.WorkFault.TheVariants.{NoRoom, DiskFault, Damaged, NoMemory}

-- the files of a post's disk, where it tells
abbrev pub post_files : {D C : Type 0} → (D → Option Files) → Vec (Post D C) → ℕ → Option Files
post_files files posts place = files_on (disk_at (λ post. post.disk)) files posts place

-- the count of faults of a post's disk
abbrev pub post_faults : {D C : Type 0} → (D → ℕ) → Vec (Post D C) → ℕ → ℕ
post_faults faults posts place = faults_on (disk_at (λ post. post.disk)) faults posts place

-- this is the disk of the answer's run
abbrev pub IsDiskOf : Option Run → ℕ → Type 0
IsDiskOf None disk = ⊥
IsDiskOf (Some run) disk = disk ≡ run.disk

-- where tasks end with damage, P of the post on whose disk it was found
abbrev pub DamagedOn : {T : Type 0} → Result T WorkFault → (ℕ → Type 0) → Type 0
DamagedOn (Ok x) P = ⊤
DamagedOn (Err (NoRoom asked held floor)) P = ⊤
DamagedOn (Err (DiskFault post)) P = ⊤
DamagedOn (Err (Damaged damage)) P = P damage.disk
DamagedOn (Err NoMemory) P = ⊤
