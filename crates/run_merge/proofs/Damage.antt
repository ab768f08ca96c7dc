-- The runs that damage is told of: which file of which disk is one of several runs.
use Rattle.std.proofs.Common.{◌≡◌, ◌==◌, ℕ, zero, suc, Bool, true, false, List, [], ◌∷◌, ◌++◌, map, Option, Some, Err, refl, sym, ap, ◌∙◌, inl, inr}
use Rattle.std.specs.Prelude.{◌⊎◌, ◌&&◌, ◌||◌, slice_get}
use Rattle.std.proofs.lemmas.Bool.{false≢true, or_left, or_parts, or_right}
use Rattle.std.proofs.lemmas.Bool.Decides.{eqb_tells}
use Rattle.spill_disk.specs.Files.{Files}
use Rattle.run_file.specs.declared.run.Run.{Run}
use Rattle.run_file.specs.declared.run.RunFault.{RunFault}
use Rattle.run_file.specs.declared.run.RunFault.TheVariants.{DiskFault, Damaged, NoMemory}
use Rattle.run_file.specs.Readers.{ReaderView, run_of}
use Rattle.run_file.specs.Several.{IsFileAmong}
use Rattle.run_file.specs.Shelved.{IsNotThere}
use Rattle.run_file.proofs.Among.{among_left, among_right, is_among_one}
use Rattle.run_merge.specs.Causes.{IsDamageAmong, IsDamageIn, is_run, is_run_in}
use Rattle.run_merge.specs.Merging.{TellsDamageIn}

both_true : (a b : Bool) → (a && b) ≡ true → (a ≡ true) × (b ≡ true)
both_true true b h = (refl, h)
both_true false b h = absurd (false≢true h)

one_true : (a b : Bool) → (a || b) ≡ true → (a ≡ true) ⊎ (b ≡ true)
one_true true b h = inl refl
one_true false b h = inr h

or_or : (a b c : Bool) → (a || (b || c)) ≡ ((a || b) || c)
or_or true b c = refl
or_or false b c = refl

same_numbers : (m n : ℕ) → (m == n) ≡ true → m ≡ n
same_numbers m n is = elim (eqb_tells m n) [ inl same ↦ same.1 | inr apart ↦ absurd (false≢true (sym apart.0 ∙ is)) ]

-- it is that file of that disk
pub run_is : (run : Run) (disk file rows : ℕ) → is_run run disk file rows ≡ true → (run.disk ≡ disk) × (run.file ≡ file)
run_is run disk file rows is =
    let first = both_true (run.disk == disk && run.file == file) (run.count == rows) is in
    let next = both_true (run.disk == disk) (run.file == file) first.0 in
    (same_numbers run.disk disk next.0, same_numbers run.file file next.1)

pub one_is : (run : Run) (disk file rows : ℕ) → is_run_in (run ∷ []) disk file rows ≡ true → run.disk ≡ disk
one_is run disk file rows is = elim (one_true (is_run run disk file rows) false is) [ inl here ↦ (run_is run disk file rows here).0 | inr none ↦ absurd (false≢true none) ]

itself : (n : ℕ) → (n == n) ≡ true
itself n = elim (eqb_tells n n) [ inl same ↦ same.0 | inr apart ↦ absurd (apart.1 refl) ]

pub is_itself : (run : Run) → is_run run run.disk run.file run.count ≡ true
is_itself run = rw (itself run.disk, itself run.file, itself run.count) refl

-- runs behind others
pub run_in-append : (xs ys : List Run) (disk file rows : ℕ) → is_run_in (xs ++ ys) disk file rows ≡ (is_run_in xs disk file rows || is_run_in ys disk file rows)
run_in-append [] ys disk file rows = refl
run_in-append (x ∷ xs) ys disk file rows =
    ap (λ (b : Bool). is_run x disk file rows || b) (run_in-append xs ys disk file rows) ∙ or_or (is_run x disk file rows) (is_run_in xs disk file rows) (is_run_in ys disk file rows)

pub in_cases : (xs ys : List Run) (disk file rows : ℕ) → is_run_in (xs ++ ys) disk file rows ≡ true → (is_run_in xs disk file rows ≡ true) ⊎ (is_run_in ys disk file rows ≡ true)
in_cases xs ys disk file rows is = one_true (is_run_in xs disk file rows) (is_run_in ys disk file rows) (sym (run_in-append xs ys disk file rows) ∙ is)

pub in_none : (xs ys : List Run) (disk file rows : ℕ) → is_run_in (xs ++ ys) disk file rows ≡ false → (is_run_in xs disk file rows ≡ false) × (is_run_in ys disk file rows ≡ false)
in_none xs ys disk file rows none = or_parts (is_run_in xs disk file rows) (is_run_in ys disk file rows) (sym (run_in-append xs ys disk file rows) ∙ none)

pub in_front : (xs ys : List Run) (disk file rows : ℕ) → is_run_in xs disk file rows ≡ true → is_run_in (xs ++ ys) disk file rows ≡ true
in_front xs ys disk file rows is = run_in-append xs ys disk file rows ∙ or_left (is_run_in xs disk file rows) (is_run_in ys disk file rows) is

pub in_back : (xs ys : List Run) (disk file rows : ℕ) → is_run_in ys disk file rows ≡ true → is_run_in (xs ++ ys) disk file rows ≡ true
in_back xs ys disk file rows is = run_in-append xs ys disk file rows ∙ or_right (is_run_in xs disk file rows) (is_run_in ys disk file rows) is

-- a run that is one of several is in one of their files
pub in_among : (named : ℕ → ℕ) (runs : List Run) (disk file rows : ℕ) → is_run_in runs disk file rows ≡ true → IsFileAmong named runs disk file
in_among named [] disk file rows is = absurd (false≢true is)
in_among named (run ∷ runs) disk file rows is = elim (one_true (is_run run disk file rows) (is_run_in runs disk file rows) is) [
  | inl here ↦
      let at = run_is run disk file rows here in
      among_left named (run ∷ []) runs disk file (is_among_one named run disk file (ap named at.0) at.1)
  | inr rest ↦ among_right named (run ∷ []) runs disk file (in_among named runs disk file rows rest)
]

-- whether it is one or not
pub in_or_not : (runs : List Run) (disk file rows : ℕ) → (is_run_in runs disk file rows ≡ true) ⊎ (is_run_in runs disk file rows ≡ false)
in_or_not runs disk file rows = by (is_run_in runs disk file rows)
  where
    by : (b : Bool) → (b ≡ true) ⊎ (b ≡ false)
    by true = inl refl
    by false = inr refl

-- the run of a reader is one of theirs
pub reader_in : (readers : List ReaderView) (place : ℕ) (reader : ReaderView) → slice_get readers place ≡ Some reader → is_run_in (map run_of readers) (run_of reader).disk (run_of reader).file (run_of reader).count ≡ true
reader_in [] place reader is = absurd cc
reader_in (first ∷ readers) zero reader is =
    let same : first ≡ reader = cc is in
    rw same (or_left (is_run (run_of reader) (run_of reader).disk (run_of reader).file (run_of reader).count) (is_run_in (map run_of readers) (run_of reader).disk (run_of reader).file (run_of reader).count) (is_itself (run_of reader)))
reader_in (first ∷ readers) (suc place) reader is =
    or_right (is_run (run_of first) (run_of reader).disk (run_of reader).file (run_of reader).count) (is_run_in (map run_of readers) (run_of reader).disk (run_of reader).file (run_of reader).count) (reader_in readers place reader is)

-- ---- damage that is told

-- damage of a reader is damage of its run
pub damage_of_runs : (T U : Type 0) (readers : List ReaderView) (fault : RunFault) → TellsDamageIn {T = T} readers (Err fault) → IsDamageIn {T = U} (map run_of readers) (Err fault)
damage_of_runs T U readers (DiskFault disk) told = tt
damage_of_runs T U readers (Damaged damage) told = rw told.told (reader_in readers told.place told.reader told.there, told.fewer)
damage_of_runs T U readers NoMemory told = tt

-- the same of more runs, and of other answers
pub damage_more : (T U : Type 0) (runs all : List Run) (fault : RunFault) → ((disk file rows : ℕ) → is_run_in runs disk file rows ≡ true → is_run_in all disk file rows ≡ true) → IsDamageIn {T = T} runs (Err fault) → IsDamageIn {T = U} all (Err fault)
damage_more T U runs all (DiskFault disk) more told = tt
damage_more T U runs all (Damaged damage) more told = (more damage.disk damage.file damage.kept told.0, told.1)
damage_more T U runs all NoMemory more told = tt

-- damage of the runs themselves
pub damage_first : (T U : Type 0) (named : ℕ → ℕ) (before : ℕ → Option Files) (runs : List Run) (to : ℕ) (fault : RunFault) → IsDamageIn {T = T} runs (Err fault) → IsDamageAmong {T = U} named before runs to (Err fault)
damage_first T U named before runs to (DiskFault disk) told = tt
damage_first T U named before runs to (Damaged damage) told = (
  λ none. absurd (false≢true (sym none ∙ told.0)),
  λ apart. absurd (apart (in_among named runs damage.disk damage.file damage.kept told.0)),
  told.1,
)
damage_first T U named before runs to NoMemory told = tt

-- damage of runs that were made of them
pub damage_made : (T U : Type 0) (named : ℕ → ℕ) (before : ℕ → Option Files) (runs made : List Run) (to : ℕ) (fault : RunFault) → ((disk file rows : ℕ) → is_run_in made disk file rows ≡ true → is_run_in runs disk file rows ≡ false → disk ≡ to)
    → ((disk file : ℕ) → IsFileAmong named made disk file → (IsFileAmong named runs disk file → ⊥) → IsNotThere (before disk) file) → IsDamageIn {T = T} made (Err fault) → IsDamageAmong {T = U} named before runs to (Err fault)
damage_made T U named before runs made to (DiskFault disk) placed fresh told = tt
damage_made T U named before runs made to (Damaged damage) placed fresh told = (
  λ none. placed damage.disk damage.file damage.kept told.0 none,
  λ apart. fresh damage.disk damage.file (in_among named made damage.disk damage.file damage.kept told.0) apart,
  told.1,
)
damage_made T U named before runs made to NoMemory placed fresh told = tt
