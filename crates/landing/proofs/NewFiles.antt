-- Runs in new files of their own.
use Rattle.std.proofs.Common.{◌≡◌, ℕ, ◌%◌, ◌<◌, ◌∷◌, ◌++◌, ◌∙◌, [], List, Option, Some, None, refl, sym, ap, subst, inl, inr, arith, length, length-append}
use Rattle.std.specs.Prelude.{IsSome, is_some}
use Rattle.std.specs.FinMap as map
use Rattle.std.proofs.lemmas.Bool.{cases_lt}
use Rattle.std.proofs.lemmas.List.{get_or_append_left, get_or_at}
use Rattle.spill_disk.specs.Files.{Files}
use Rattle.run_file.specs.declared.run.Run.{Run}
use Rattle.run_file.specs.Runs.{Stands}
use Rattle.run_file.specs.Several.{IsFileAmong, KeepsFile, no_run, run_at, KeepsAll}
use Rattle.run_file.specs.Shelved.{IsNotThere, IsNotThereOn}
use Rattle.run_file.proofs.Among.{among_one, apart_join, apart_one}
use Rattle.job_plan.specs.Columns.{Fields}
use Rattle.landing.specs.Landed.{AreLanded, AreMade}

-- a file that stays where it is there, and isn't there afterwards, wasn't there
gone_by : (was is : Option (List ℕ)) → (IsSome was → is ≡ was) → is ≡ None → was ≡ None
gone_by None is kept gone = refl
gone_by (Some bytes) is kept gone = let same = kept refl in cc (same, gone)

gone_before : (before after : Option Files) (file : ℕ) → KeepsFile before after file → IsNotThere after file → IsNotThere before file
gone_before None after file kept gone = tt
gone_before (Some b) None file kept gone = absurd kept
gone_before (Some b) (Some a) file kept gone = gone_by (map.get b file) (map.get a file) kept gone

-- the file of a run that stands is there
stands_there : (files : Option Files) (run : Run) (rows : List Fields) → Stands files run rows → IsNotThere files run.file → ⊥
stands_there None run rows stands gone = stands
stands_there (Some files) run rows stands gone = let there = stands.0 in let no = rw gone at there in cc no

-- the new run's file is none of those that stand
apart_new : (named : ℕ → ℕ) (start now : ℕ → Option Files) (part_rows workers : ℕ) (parts : List Run) (rows : List Fields) (run : Run)
    → ((j : ℕ) → is_some (now j) ≡ is_some (start j)) → AreLanded now part_rows workers parts rows → IsNotThereOn named now run.disk run.file
    → ((part : ℕ) → part < length parts → IsSome (start (run_at parts part).disk))
    → (disk file : ℕ) → IsFileAmong named parts disk file → IsFileAmong named (run ∷ []) disk file → ⊥
apart_new named start now part_rows workers parts rows run tells landed gone told disk file (part, within, on, is) last =
    let one = among_one named run disk file last in
    let at : (run_at parts part).disk ≡ part % workers = landed.disks part within in
    let tells_now : IsSome (now (run_at parts part).disk) = tells (run_at parts part).disk ∙ told part within in
    let stands = landed.stand part within (subst (λ (n : ℕ). IsSome (now n)) at tells_now) in
    let none : IsNotThere (now (run_at parts part).disk) run.file = gone (run_at parts part).disk (on ∙ sym one.0) in
    let same : run.file ≡ (run_at parts part).file = one.1 ∙ sym is in
    stands_there (now (part % workers)) (run_at parts part) _ stands (subst (λ (n : ℕ). IsNotThere (now n) (run_at parts part).file) at (subst (λ (f : ℕ). IsNotThere (now (run_at parts part).disk) f) same none))

pub made_none : (named : ℕ → ℕ) (start : ℕ → Option Files) → AreMade named start []
made_none named start = record {
  fresh = λ part within. absurd (omega (arith, within));
  apart = λ told i j within other on is. absurd (omega (arith, within));
}

pub made_more : (named named' : ℕ → ℕ) (start now : ℕ → Option Files) (part_rows workers : ℕ) (parts : List Run) (rows : List Fields) (run : Run) (to : ℕ)
    → ((j : ℕ) → named' j ≡ named j) → ((j : ℕ) → is_some (now j) ≡ is_some (start j)) → KeepsAll start now → AreLanded now part_rows workers parts rows
    → run.disk ≡ to → IsNotThereOn named' now to run.file → AreMade named start parts → AreMade named start (parts ++ run ∷ [])
made_more named named' start now part_rows workers parts rows run to each tells kept landed on gone made =
    let several = length-append parts (run ∷ []) in
    let gone_now : IsNotThereOn named now run.disk run.file = λ j same. gone j (each j ∙ same ∙ ap named on ∙ sym (each to)) in
    record {
      fresh = λ part within. elim (cases_lt part (length parts)) [
        | inl below ↦ rw (get_or_append_left parts (run ∷ []) no_run part below) (made.fresh part below)
        | inr from ↦
            let at : length parts ≡ part = omega (arith, several) in
            rw (get_or_at parts run [] no_run part at) (λ j same. gone_before (start j) (now j) run.file (kept j run.file) (gone_now j same))
      ];
      apart = λ told.
          let told_old : (part : ℕ) → part < length parts → IsSome (start (run_at parts part).disk) =
          λ part below. subst (λ (r : Run). IsSome (start r.disk)) (get_or_append_left parts (run ∷ []) no_run part below) (told part (omega (arith, several))) in
          apart_join named parts (run ∷ []) (made.apart told_old) (apart_one named run) (apart_new named start now part_rows workers parts rows run tells landed gone_now told_old);
    }
