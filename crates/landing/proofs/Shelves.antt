-- Calls on a shelf one after another: what they keep, and why they gave up.
use Rattle.std.proofs.Common.{◌≡◌, ℕ, ◌≤◌, ◌<◌, ◌++◌, ◌∷◌, [], List, Option, Some, None, refl, sym, ap, subst, ◌∙◌, inl, inr, arith}
use Rattle.std.specs.Prelude.{true, Result, is_some, if◌then◌else◌}
use Rattle.std.specs.Result.{is_ok}
use Rattle.std.proofs.lemmas.Bool.Decides.{eqb_tells}
use Rattle.fault_count.specs.Faults.{Rose}
use Rattle.spill_disk.specs.Files.{Files}
use Rattle.run_file.specs.declared.run.Run.{Run}
use Rattle.run_file.specs.Several.{KeepsFile, SameOthers, KeepsAll}
use Rattle.run_file.specs.Shelved.{file_in, IsNotThere, IsNotThereOn, SameBut}
use Rattle.run_file.proofs.Among.{among_left, among_right, is_among_one}
use Rattle.landing.specs.Explaining.{Explains, FailsAmong, FailsOn}
use Rattle.landing.specs.declared.fault.LandFault.{LandFault}
use Rattle.landing.specs.declared.fault.LandFault.TheVariants.{NoHeader, NoColumn, Ragged, RowTooLong, BadNumber, TooManyRows, ReadFault, DiskFault, NoMemory}

-- runs' files are changed, one after another
pub others_more : (named named' : ℕ → ℕ) (before now after : ℕ → Option Files) (parts : List Run) (run : Run) (to : ℕ) → ((j : ℕ) → named' j ≡ named j) → run.disk ≡ to → SameOthers named before now parts → SameBut named' now after to run.file → SameOthers named before after (parts ++ run ∷ [])
others_more named named' before now after parts run to each on first next disk file apart =
    let is_last = λ (here : (named' disk ≡ named' to) × (file ≡ run.file)).
    apart (among_right named parts (run ∷ []) disk file (is_among_one named run disk file (ap named on ∙ sym (each to) ∙ sym here.0 ∙ each disk) (sym here.1))) in
    next disk file is_last ∙ first disk file (λ among. apart (among_left named parts (run ∷ []) disk file among))

-- ---- files that were there

told_same : (before after : Option Files) (file : ℕ) → is_some after ≡ is_some before → file_in after file ≡ file_in before file → KeepsFile before after file
told_same None None file tells same = tt
told_same None (Some a) file tells same = cc tells
told_same (Some b) None file tells same = cc tells
told_same (Some b) (Some a) file tells same = λ there. cc same

not_there : (before after : Option Files) (file : ℕ) → is_some after ≡ is_some before → IsNotThere before file → KeepsFile before after file
not_there None None file tells gone = tt
not_there None (Some a) file tells gone = cc tells
not_there (Some b) None file tells gone = cc tells
not_there (Some b) (Some a) file tells gone = λ there. absurd (let no = rw gone at there in cc no)

-- a call that changes a new file alone keeps all that were there
pub files_kept : (named : ℕ → ℕ) (before after : ℕ → Option Files) (disk file : ℕ) → ((j : ℕ) → is_some (after j) ≡ is_some (before j)) → IsNotThereOn named before disk file → SameBut named before after disk file → KeepsAll before after
files_kept named before after disk file tells gone same j g = elim (eqb_tells (named j) (named disk)) [
  | inl on ↦ elim (eqb_tells g file) [
    | inl is ↦ subst (λ (f : ℕ). KeepsFile (before j) (after j) f) (sym is.1) (not_there (before j) (after j) file (tells j) (gone j on.1))
    | inr apart ↦ told_same (before j) (after j) g (tells j) (same j g (λ both. apart.1 both.1))
  ]
  | inr apart ↦ told_same (before j) (after j) g (tells j) (same j g (λ both. apart.1 both.0))
]

pub files_same : (before after : ℕ → Option Files) → ((j : ℕ) → after j ≡ before j) → KeepsAll before after
files_same before after each j g = told_same (before j) (after j) g (ap is_some (each j)) (ap (λ (files : Option Files). file_in files g) (each j))

kept_trans : (a b c : Option Files) (file : ℕ) → KeepsFile a b file → KeepsFile b c file → KeepsFile a c file
kept_trans None None None file f g = tt
kept_trans None None (Some c) file f g = absurd g
kept_trans None (Some b) c file f g = absurd f
kept_trans (Some a) None c file f g = absurd f
kept_trans (Some a) (Some b) None file f g = absurd g
kept_trans (Some a) (Some b) (Some c) file f g = λ there. g (ap is_some (f there) ∙ there) ∙ f there

pub files_trans : (a b c : ℕ → Option Files) → KeepsAll a b → KeepsAll b c → KeepsAll a c
files_trans a b c f g j file = kept_trans (a j) (b j) (c j) file (f j file) (g j file)

-- ---- why they gave up

-- what explains a fault explains it in other words
pub explains_more : (R R' : LandFault → Type 0) (Q Q' : Type 0) (D D' : ℕ → Type 0) → ((why : LandFault) → R why → R' why) → (Q → Q') → ((disk : ℕ) → D disk → D' disk)
    → (why : LandFault) → Explains R Q D why → Explains R' Q' D' why
explains_more R R' Q Q' D D' refused read called NoHeader h = refused NoHeader h
explains_more R R' Q Q' D D' refused read called (NoColumn column) h = refused (NoColumn column) h
explains_more R R' Q Q' D D' refused read called (Ragged row) h = refused (Ragged row) h
explains_more R R' Q Q' D D' refused read called (RowTooLong row) h = refused (RowTooLong row) h
explains_more R R' Q Q' D D' refused read called (BadNumber row column) h = refused (BadNumber row column) h
explains_more R R' Q Q' D D' refused read called TooManyRows h = refused TooManyRows h
explains_more R R' Q Q' D D' refused read called ReadFault h = read h
explains_more R R' Q Q' D D' refused read called (DiskFault disk) h = called disk h
explains_more R R' Q Q' D D' refused read called NoMemory h = tt

rose_later : (before middle now : ℕ) → before ≤ middle → Rose middle now → Rose before now
rose_later before middle now later rose = omega arith

pub fails_later : (to : ℕ) (before middle now : ℕ → ℕ) (disk : ℕ) → ((j : ℕ) → before j ≤ middle j) → FailsOn to middle now disk → FailsOn to before now disk
fails_later to before middle now disk later h = (h.0, rose_later (before disk) (middle disk) (now disk) (later disk) h.1)

-- what a call left, where it succeeded
pub if_ok : {T E X : Type 0} (r : Result T E) (left some none : X) → left ≡ (if is_ok r then some else none) → is_ok r ≡ true → left ≡ some
if_ok r left some none is ok = is ∙ rw ok refl

pub fails_among : (to workers : ℕ) (before middle now : ℕ → ℕ) (disk : ℕ) → to < workers → ((j : ℕ) → before j ≤ middle j) → FailsOn to middle now disk → FailsAmong workers before now disk
fails_among to workers before middle now disk within later h =
    (omega (arith, h.0), rose_later (before disk) (middle disk) (now disk) (later disk) h.1)
