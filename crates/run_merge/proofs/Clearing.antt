-- Files of runs that are taken away, one by one, and a new file beside them.
use Rattle.std.proofs.Common.{◌≡◌, ℕ, ◌+◌, ◌<◌, ◌≤◌, List, [], ◌∷◌, ◌++◌, Option, length, take, sym, subst, ◌∙◌, inl, inr}
use Rattle.std.specs.Prelude.{◌⊎◌, is_some}
use Rattle.std.proofs.lemmas.Bool.Decides.{eqb_tells}
use Rattle.std.proofs.lemmas.List.{take_all, take_more}
use Rattle.spill_disk.specs.Files.{Files}
use Rattle.run_file.specs.declared.run.Run.{Run}
use Rattle.run_file.specs.Several.{SameOthers, IsFileAmong, KeepsOthers, no_run, run_at}
use Rattle.run_file.specs.Shelved.{IsNotThere, file_in, IsNotThereOn, SameBut}
use Rattle.run_file.proofs.Among.{among_cases, among_left, among_one, among_right, is_among_one}
use Rattle.run_merge.specs.Becoming.{AreGone}
use Rattle.run_merge.proofs.Becoming.{keep_gone, keep_same, same_functions, same_gone}

-- two numbers of disks and files are of one file, or they aren't
pub same_or_not : (named : ℕ → ℕ) (disk file disk' file' : ℕ) → ((named disk ≡ named disk') × (file ≡ file')) ⊎ ((named disk ≡ named disk') × (file ≡ file') → ⊥)
same_or_not named disk file disk' file' = elim (eqb_tells (named disk) (named disk')) [
  | inl on ↦ elim (eqb_tells file file') [
    | inl is ↦ inl (on.1, is.1)
    | inr apart ↦ inr (λ same. apart.1 same.1)
  ]
  | inr apart ↦ inr (λ same. apart.1 same.0)
]

-- the same under equal names
pub renamed_same : (named named' : ℕ → ℕ) (before after : ℕ → Option Files) (disk file : ℕ) → ((j : ℕ) → named' j ≡ named j) → SameBut named' before after disk file → SameBut named before after disk file
renamed_same named named' before after disk file each same = subst (λ (f : ℕ → ℕ). SameBut f before after disk file) (same_functions named' named each) same

renamed_gone_on : (named named' : ℕ → ℕ) (files : ℕ → Option Files) (disk file : ℕ) → ((j : ℕ) → named' j ≡ named j) → IsNotThereOn named' files disk file → IsNotThereOn named files disk file
renamed_gone_on named named' files disk file each gone = subst (λ (f : ℕ → ℕ). IsNotThereOn f files disk file) (same_functions named' named each) gone

pub renamed_gone : (named named' : ℕ → ℕ) (files : ℕ → Option Files) (runs : List Run) → ((j : ℕ) → named' j ≡ named j) → AreGone named' files runs → AreGone named files runs
renamed_gone named named' files runs each gone = subst (λ (f : ℕ → ℕ). AreGone f files runs) (same_functions named' named each) gone

pub renamed_same_others : (named named' : ℕ → ℕ) (before after : ℕ → Option Files) (runs : List Run) → ((j : ℕ) → named' j ≡ named j) → SameOthers named' before after runs → SameOthers named before after runs
renamed_same_others named named' before after runs each same = subst (λ (f : ℕ → ℕ). SameOthers f before after runs) (same_functions named' named each) same

-- these runs' files are gone, and all others are as before
pub record IsCleared (named : ℕ → ℕ) (start now : ℕ → Option Files) (runs : List Run) : Type 0 where
  pub gone : AreGone named now runs
  pub others : SameOthers named start now runs

cleared_push : (named : ℕ → ℕ) (start now after : ℕ → Option Files) (runs : List Run) (run : Run) → IsNotThereOn named after run.disk run.file → SameBut named now after run.disk run.file → IsCleared named start now runs → IsCleared named start after (runs ++ run ∷ [])
cleared_push named start now after runs run gone same before = record {
  gone = λ disk file here. elim (same_or_not named disk file run.disk run.file) [
    | inl this ↦ subst (λ (f : ℕ). IsNotThere (after disk) f) (sym this.1) (gone disk this.0)
    | inr other ↦ elim (among_cases named runs (run ∷ []) disk file here) [
      | inl old ↦ same_gone (now disk) (after disk) file (same disk file other) (before.gone disk file old)
      | inr new ↦ let is = among_one named run disk file new in absurd (other (sym is.0, sym is.1))
    ]
  ];
  others = λ disk file apart.
      same disk file (λ this. apart (among_right named runs (run ∷ []) disk file (is_among_one named run disk file (sym this.0) (sym this.1))))
      ∙ before.others disk file (λ old. apart (among_left named runs (run ∷ []) disk file old));
}

pub cleared_more : (named named' : ℕ → ℕ) (start now after : ℕ → Option Files) (runs : List Run) (i : ℕ) → i < length runs → ((j : ℕ) → named' j ≡ named j) → IsNotThereOn named' after (run_at runs i).disk (run_at runs i).file → SameBut named' now after (run_at runs i).disk (run_at runs i).file
    → IsCleared named start now (take i runs) → IsCleared named start after (take (i + 1) runs)
cleared_more named named' start now after runs i within each gone same before =
    let run = run_at runs i in
    subst (λ (all : List Run). IsCleared named start after all) (sym (take_more runs i no_run within))
    (cleared_push named start now after (take i runs) run (renamed_gone_on named named' after run.disk run.file each gone) (renamed_same named named' now after run.disk run.file each same) before)

pub gone_all : (named : ℕ → ℕ) (now : ℕ → Option Files) (runs : List Run) (n : ℕ) → length runs ≤ n → AreGone named now (take n runs) → AreGone named now runs
gone_all named now runs n whole gone = subst (λ (all : List Run). AreGone named now all) (take_all n runs whole) gone

-- a new file beside the runs: it was begun and written, and then the runs' files may have been taken away
pub others_kept : (named : ℕ → ℕ) (before after : ℕ → Option Files) (runs : List Run) (disk file : ℕ) → ((j : ℕ) → is_some (after j) ≡ is_some (before j)) → IsNotThereOn named before disk file
    → ((j g : ℕ) → (IsFileAmong named runs j g → ⊥) → ((named j ≡ named disk) × (g ≡ file) → ⊥) → file_in (after j) g ≡ file_in (before j) g) → KeepsOthers named before after runs
others_kept named before after runs disk file tells fresh same j g apart = elim (same_or_not named j g disk file) [
  | inl new ↦ keep_gone (before j) (after j) g (tells j) (subst (λ (f : ℕ). IsNotThere (before j) f) (sym new.1) (fresh j new.0))
  | inr other ↦ keep_same (before j) (after j) g (tells j) (same j g apart other)
]
