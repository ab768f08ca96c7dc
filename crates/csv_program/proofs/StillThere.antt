-- Files that were there, through the calls of a run.
use Rattle.std.proofs.Common.{◌≡◌, ◌∙◌, ℕ, List, Option, Some, None, refl, sym, ap, subst}
use Rattle.std.specs.Prelude.{All, IsSome, is_some}
use Rattle.std.specs.FinMap as map
use Rattle.spill_disk.specs.Files.{Files}
use Rattle.run_file.specs.declared.run.Run.{Run}
use Rattle.run_file.specs.Several.{IsFileAmong, KeepsFile, no_run, run_at, KeepsAll}
use Rattle.task_memory.specs.RunLists.{runs_at}
use Rattle.run_file.specs.Shelved.{IsNotThere}
use Rattle.task_runner.specs.Finals.{KeepsOtherFiles}
use Rattle.task_runner.specs.Pass.{AreInNewFiles}

keeps_itself : (files : Option Files) (file : ℕ) → KeepsFile files files file
keeps_itself None file = tt
keeps_itself (Some files) file = λ there. refl

-- disks on which all files are the same
pub keeps_alike : (before after : ℕ → Option Files) → ((place : ℕ) → after place ≡ before place) → KeepsAll before after
keeps_alike before after same disk file = subst (λ (files : Option Files). KeepsFile (before disk) files file) (sym (same disk)) (keeps_itself (before disk) file)

keeps_both : (a b c : Option Files) (file : ℕ) → KeepsFile a b file → KeepsFile b c file → KeepsFile a c file
keeps_both None None None file first second = tt
keeps_both None None (Some c) file first second = second
keeps_both None (Some b) c file first second = absurd first
keeps_both (Some a) None c file first second = absurd first
keeps_both (Some a) (Some b) None file first second = second
keeps_both (Some a) (Some b) (Some c) file first second = λ there. second (subst IsSome (sym (first there)) there) ∙ first there

-- one call behind another
pub keeps_then : (before mid after : ℕ → Option Files) → KeepsAll before mid → KeepsAll mid after → KeepsAll before after
keeps_then before mid after first second disk file = keeps_both (before disk) (mid disk) (after disk) file (first disk file) (second disk file)

-- the same in words of disks that are alike
pub keeps_around : (before taken given after : ℕ → Option Files) → ((place : ℕ) → taken place ≡ before place) → ((place : ℕ) → after place ≡ given place) → KeepsAll taken given → KeepsAll before after
keeps_around before taken given after first last kept disk file =
    subst (λ (files : Option Files). KeepsFile files (after disk) file) (first disk)
    (subst (λ (files : Option Files). KeepsFile (taken disk) files file) (sym (last disk)) (kept disk file))

-- those but some runs' files, in words of disks that are alike
pub others_around : (before taken given after : ℕ → Option Files) (lists : List (List Run)) → ((place : ℕ) → taken place ≡ before place) → ((place : ℕ) → after place ≡ given place) → KeepsOtherFiles (λ disk. disk) taken given lists
    → KeepsOtherFiles (λ disk. disk) before after lists
others_around before taken given after lists first last kept disk file apart =
    subst (λ (files : Option Files). KeepsFile files (after disk) file) (first disk)
    (subst (λ (files : Option Files). KeepsFile (taken disk) files file) (sym (last disk)) (kept disk file apart))

pub tells_around : (before taken given after : ℕ → Option Files) → ((place : ℕ) → taken place ≡ before place) → ((place : ℕ) → after place ≡ given place) → ((place : ℕ) → is_some (given place) ≡ is_some (taken place))
    → (place : ℕ) → is_some (after place) ≡ is_some (before place)
tells_around before taken given after first last same place =
    ap (λ (files : Option Files). is_some files) (last place) ∙ same place ∙ ap (λ (files : Option Files). is_some files) (first place)

-- ---- runs in new files are no files that were there

missing : (files : Files) (file : ℕ) → IsSome (map.get files file) → map.get files file ≡ None → ⊥
missing files file there none = cc (there, none)

not_among : (before : ℕ → Option Files) (files : Files) (runs : List Run) (disk file : ℕ) → before disk ≡ Some files → All (λ run. IsNotThere (before run.disk) run.file) runs → IsSome (map.get files file) → IsFileAmong (λ disk. disk) runs disk file → ⊥
not_among before files runs disk file is new there among =
    let one = new among.0 no_run among.1 in
    let there_not : IsNotThere (before disk) file = subst (λ (n : ℕ). IsNotThere (before disk) n) among.3 (subst (λ (d : ℕ). IsNotThere (before d) (run_at runs among.0).file) among.2 one) in
    missing files file there (subst (λ (f : Option Files). IsNotThere f file) is there_not)

still : (before mid after : Option Files) (file : ℕ) → KeepsFile before mid file → is_some after ≡ is_some mid → ((files : Files) → before ≡ Some files → IsSome (map.get files file) → KeepsFile mid after file) → KeepsFile before after file
still None None None file first tells then = tt
still None None (Some c) file first tells then = absurd (cc tells)
still None (Some b) after file first tells then = absurd first
still (Some a) None after file first tells then = absurd first
still (Some a) (Some b) None file first tells then = absurd (cc tells)
still (Some a) (Some b) (Some c) file first tells then = λ there. keeps_both (Some a) (Some b) (Some c) file first (then a refl there) there

-- a call that keeps all but the files of some runs keeps what was there before the files of those were made
pub others_kept : (before mid after : ℕ → Option Files) (lists : List (List Run)) → KeepsAll before mid → AreInNewFiles before lists → ((place : ℕ) → is_some (after place) ≡ is_some (mid place))
    → KeepsOtherFiles (λ disk. disk) mid after lists → KeepsAll before after
others_kept before mid after lists first new tells second disk file =
    still (before disk) (mid disk) (after disk) file (first disk file) (tells disk)
    (λ files is there. second disk file (λ among. not_among before files (runs_at lists among.0) disk file is (new among.0) there among.1))
