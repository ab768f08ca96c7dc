-- Which post damage of tasks names.
use Rattle.std.proofs.Common.{◌≡◌, ℕ, zero, suc, ◌<◌, ◌⊎◌, List, [], ◌∷◌, Option, Ok, Err, true, false, inl, inr, sym, ap, subst, arith}
use Rattle.std.specs.Prelude.{All, Result}
use Rattle.std.proofs.lemmas.Bool.{false≢true}
use Rattle.std.proofs.lemmas.List.{get_or_past}
use Rattle.spill_disk.specs.Files.{Files}
use Rattle.run_file.specs.declared.run.Run.{Run}
use Rattle.run_merge.specs.Causes.{is_run_in}
use Rattle.run_merge.proofs.Damage.{in_cases, in_or_not, one_is}
use Rattle.task_memory.specs.RunLists.{runs_at}
use Rattle.task_runner.specs.Finals.{NamesRunOfLists}
use Rattle.task_runner.specs.RunsApart.{AllOfLists}
use Rattle.task_runner.specs.declared.work_fault.WorkFault.{WorkFault}
use Rattle.task_runner.specs.declared.work_fault.WorkFault.TheVariants.{NoRoom, DiskFault, Damaged, NoMemory}
use Rattle.csv_program.specs.Posts.{DamagedOn}

in_on : (count : ℕ) (runs : List Run) (disk file rows : ℕ) → All (λ run. run.disk < count) runs → is_run_in runs disk file rows ≡ true → disk < count
in_on count [] disk file rows on is = absurd (false≢true is)
in_on count (run ∷ runs) disk file rows on is = elim (in_cases (run ∷ []) runs disk file rows is) [
  | inl one ↦ subst (λ (d : ℕ). d < count) (one_is run disk file rows one) (on 0 run (omega arith))
  | inr rest ↦ in_on count runs disk file rows (λ k any below. on (suc k) any (omega (arith, below))) rest
]

both_none : (runs : List Run) (lists : List (List Run)) (disk file rows : ℕ) → is_run_in runs disk file rows ≡ false → ((i : ℕ) → is_run_in (runs_at lists i) disk file rows ≡ false)
    → (i : ℕ) → is_run_in (runs_at (runs ∷ lists) i) disk file rows ≡ false
both_none runs lists disk file rows none more zero = none
both_none runs lists disk file rows none more (suc i) = more i

-- one of the lists has the run, or none of them
in_one : (lists : List (List Run)) (disk file rows : ℕ) → ((i : ℕ) × (is_run_in (runs_at lists i) disk file rows ≡ true)) ⊎ ((i : ℕ) → is_run_in (runs_at lists i) disk file rows ≡ false)
in_one [] disk file rows = inr (λ i. ap (λ (runs : List Run). is_run_in runs disk file rows) (get_or_past [] i [] (omega arith)))
in_one (runs ∷ lists) disk file rows = elim (in_or_not runs disk file rows) [
  | inl is ↦ inl (0, is)
  | inr none ↦ elim (in_one lists disk file rows) [
    | inl found ↦ inl (suc found.0, found.1)
    | inr no_more ↦ inr (both_none runs lists disk file rows none no_more)
  ]
]

-- damage of the final task names a disk of the runs that it merges, or the first
pub final_named : (T : Type 0) (named : ℕ → ℕ) (before : ℕ → Option Files) (lists : List (List Run)) (result : Result T WorkFault) → NamesRunOfLists named before lists result → (count : ℕ) → 0 < count
    → AllOfLists (λ run. run.disk < count) lists → DamagedOn result (λ post. post < count)
final_named T named before lists (Ok x) told count some on = tt
final_named T named before lists (Err (NoRoom asked held floor)) told count some on = tt
final_named T named before lists (Err (DiskFault post)) told count some on = tt
final_named T named before lists (Err (Damaged damage)) told count some on = elim (in_one lists damage.disk damage.file damage.kept) [
  | inl found ↦ in_on count (runs_at lists found.0) damage.disk damage.file damage.kept (on found.0) found.1
  | inr none ↦ subst (λ (d : ℕ). d < count) (sym (told.0 none)) some
]
final_named T named before lists (Err NoMemory) told count some on = tt
