-- The files of runs: which are among them, and that no two are one.
use Rattle.std.proofs.Common.{◌≡◌, ℕ, zero, suc, ◌+◌, ◌-◌, ◌<◌, List, [], ◌∷◌, ◌++◌, length, refl, sym, ap, ◌∙◌, inl, inr, arith}
use Rattle.std.specs.Prelude.{◌⊎◌}
use Rattle.std.specs.List.{AllByRecursion}
use Rattle.std.proofs.lemmas.Bool.{cases_lt}
use Rattle.std.proofs.lemmas.Bool.Decides.{eqb_tells}
use Rattle.std.proofs.lemmas.List.{get_or_append_left, get_or-append-add, get_or-append_right, length-append}
use Rattle.run_file.specs.declared.run.Run.{Run}
use Rattle.run_file.specs.Several.{AreApart, IsFileAmong, no_run, run_at}

pub among_left : (named : ℕ → ℕ) (xs ys : List Run) (disk file : ℕ) → IsFileAmong named xs disk file → IsFileAmong named (xs ++ ys) disk file
among_left named xs ys disk file (i, within, on, is) =
    let same : run_at (xs ++ ys) i ≡ run_at xs i = get_or_append_left xs ys no_run i within in
    (i, omega (arith, length-append xs ys), ap (λ (run : Run). named run.disk) same ∙ on, ap (λ (run : Run). run.file) same ∙ is)

pub among_right : (named : ℕ → ℕ) (xs ys : List Run) (disk file : ℕ) → IsFileAmong named ys disk file → IsFileAmong named (xs ++ ys) disk file
among_right named xs ys disk file (i, within, on, is) =
    let same : run_at (xs ++ ys) (length xs + i) ≡ run_at ys i = get_or-append-add xs ys i no_run in
    (length xs + i, omega (arith, length-append xs ys), ap (λ (run : Run). named run.disk) same ∙ on, ap (λ (run : Run). run.file) same ∙ is)

pub among_cases : (named : ℕ → ℕ) (xs ys : List Run) (disk file : ℕ) → IsFileAmong named (xs ++ ys) disk file → IsFileAmong named xs disk file ⊎ IsFileAmong named ys disk file
among_cases named xs ys disk file (i, within, on, is) = elim (cases_lt i (length xs)) [
  | inl low ↦
      let same : run_at (xs ++ ys) i ≡ run_at xs i = get_or_append_left xs ys no_run i low in
      inl (i, low, sym (ap (λ (run : Run). named run.disk) same) ∙ on, sym (ap (λ (run : Run). run.file) same) ∙ is)
  | inr high ↦
      let same : run_at (xs ++ ys) i ≡ run_at ys (i - length xs) = get_or-append_right xs ys (length xs) i no_run refl high in
      inr (i - length xs, omega (arith, length-append xs ys), sym (ap (λ (run : Run). named run.disk) same) ∙ on, sym (ap (λ (run : Run). run.file) same) ∙ is)
]

pub among_none : (named : ℕ → ℕ) (disk file : ℕ) → IsFileAmong named [] disk file → ⊥
among_none named disk file (i, within, on, is) = omega arith

pub among_one : (named : ℕ → ℕ) (run : Run) (disk file : ℕ) → IsFileAmong named (run ∷ []) disk file → (named run.disk ≡ named disk) × (run.file ≡ file)
among_one named run disk file (zero, within, on, is) = (on, is)
among_one named run disk file (suc i, within, on, is) = absurd (omega arith)

pub is_among_one : (named : ℕ → ℕ) (run : Run) (disk file : ℕ) → named run.disk ≡ named disk → run.file ≡ file → IsFileAmong named (run ∷ []) disk file
is_among_one named run disk file on is = (zero, omega arith, on, is)

-- a file is among runs, or it isn't
pub among_or_not : (named : ℕ → ℕ) (runs : List Run) (disk file : ℕ) → IsFileAmong named runs disk file ⊎ (IsFileAmong named runs disk file → ⊥)
among_or_not named [] disk file = inr (among_none named disk file)
among_or_not named (run ∷ runs) disk file = elim (among_or_not named runs disk file) [
  | inl h ↦ inl (among_right named (run ∷ []) runs disk file h)
  | inr none ↦ elim (eqb_tells (named run.disk) (named disk)) [
    | inl on ↦ elim (eqb_tells run.file file) [
      | inl is ↦ inl (among_left named (run ∷ []) runs disk file (is_among_one named run disk file on.1 is.1))
      | inr apart ↦ inr (λ h. elim (among_cases named (run ∷ []) runs disk file h) [ inl one ↦ apart.1 (among_one named run disk file one).1 | inr rest ↦ none rest ])
    ]
    | inr apart ↦ inr (λ h. elim (among_cases named (run ∷ []) runs disk file h) [ inl one ↦ apart.1 (among_one named run disk file one).0 | inr rest ↦ none rest ])
  ]
]

-- the run at a place is among them
pub among_at : (named : ℕ → ℕ) (runs : List Run) (i : ℕ) → i < length runs → IsFileAmong named runs (run_at runs i).disk (run_at runs i).file
among_at named runs i within = (i, within, refl, refl)

-- the same under equal names
pub among_renamed : (named named' : ℕ → ℕ) (runs : List Run) (disk file : ℕ) → ((j : ℕ) → named' j ≡ named j) → IsFileAmong named' runs disk file → IsFileAmong named runs disk file
among_renamed named named' runs disk file each (i, within, on, is) = (i, within, sym (each (run_at runs i).disk) ∙ on ∙ each disk, is)

-- ---- no two runs are one file

pub apart_left : (named : ℕ → ℕ) (xs ys : List Run) → AreApart named (xs ++ ys) → AreApart named xs
apart_left named xs ys apart i j low high on is =
    let more = length-append xs ys in
    let first : run_at (xs ++ ys) i ≡ run_at xs i = get_or_append_left xs ys no_run i low in
    let other : run_at (xs ++ ys) j ≡ run_at xs j = get_or_append_left xs ys no_run j high in
    apart i j (omega arith) (omega arith)
    (ap (λ (run : Run). named run.disk) first ∙ on ∙ sym (ap (λ (run : Run). named run.disk) other))
    (ap (λ (run : Run). run.file) first ∙ is ∙ sym (ap (λ (run : Run). run.file) other))

pub apart_right : (named : ℕ → ℕ) (xs ys : List Run) → AreApart named (xs ++ ys) → AreApart named ys
apart_right named xs ys apart i j low high on is =
    let more = length-append xs ys in
    let first : run_at (xs ++ ys) (length xs + i) ≡ run_at ys i = get_or-append-add xs ys i no_run in
    let other : run_at (xs ++ ys) (length xs + j) ≡ run_at ys j = get_or-append-add xs ys j no_run in
    let same : length xs + i ≡ length xs + j =
    apart (length xs + i) (length xs + j) (omega arith) (omega arith)
    (ap (λ (run : Run). named run.disk) first ∙ on ∙ sym (ap (λ (run : Run). named run.disk) other))
    (ap (λ (run : Run). run.file) first ∙ is ∙ sym (ap (λ (run : Run). run.file) other)) in
    omega arith

pub apart_between : (named : ℕ → ℕ) (xs ys : List Run) → AreApart named (xs ++ ys) → (disk file : ℕ) → IsFileAmong named xs disk file → IsFileAmong named ys disk file → ⊥
apart_between named xs ys apart disk file (i, low, on, is) (j, high, on', is') =
    let more = length-append xs ys in
    let first : run_at (xs ++ ys) i ≡ run_at xs i = get_or_append_left xs ys no_run i low in
    let other : run_at (xs ++ ys) (length xs + j) ≡ run_at ys j = get_or-append-add xs ys j no_run in
    let same : i ≡ length xs + j =
    apart i (length xs + j) (omega arith) (omega arith)
    (ap (λ (run : Run). named run.disk) first ∙ on ∙ sym on' ∙ sym (ap (λ (run : Run). named run.disk) other))
    (ap (λ (run : Run). run.file) first ∙ is ∙ sym is' ∙ sym (ap (λ (run : Run). run.file) other)) in
    omega arith

pub apart_one : (named : ℕ → ℕ) (run : Run) → AreApart named (run ∷ [])
apart_one named run i j low high on is = omega arith

pub apart_join : (named : ℕ → ℕ) (xs ys : List Run) → AreApart named xs → AreApart named ys → ((disk file : ℕ) → IsFileAmong named xs disk file → IsFileAmong named ys disk file → ⊥) → AreApart named (xs ++ ys)
apart_join named xs ys left right between i j low high on is =
    let more = length-append xs ys in
    elim (cases_lt i (length xs)) [
      | inl i_low ↦
          let first : run_at (xs ++ ys) i ≡ run_at xs i = get_or_append_left xs ys no_run i i_low in
          elim (cases_lt j (length xs)) [
            | inl j_low ↦
                let other : run_at (xs ++ ys) j ≡ run_at xs j = get_or_append_left xs ys no_run j j_low in
                left i j i_low j_low
                (sym (ap (λ (run : Run). named run.disk) first) ∙ on ∙ ap (λ (run : Run). named run.disk) other)
                (sym (ap (λ (run : Run). run.file) first) ∙ is ∙ ap (λ (run : Run). run.file) other)
            | inr j_high ↦
                let other : run_at (xs ++ ys) j ≡ run_at ys (j - length xs) = get_or-append_right xs ys (length xs) j no_run refl j_high in
                absurd (between (run_at xs i).disk (run_at xs i).file (among_at named xs i i_low) (
                  j - length xs,
                  omega arith,
                  sym (ap (λ (run : Run). named run.disk) other) ∙ sym on ∙ ap (λ (run : Run). named run.disk) first,
                  sym (ap (λ (run : Run). run.file) other) ∙ sym is ∙ ap (λ (run : Run). run.file) first,
                ))
          ]
      | inr i_high ↦
          let first : run_at (xs ++ ys) i ≡ run_at ys (i - length xs) = get_or-append_right xs ys (length xs) i no_run refl i_high in
          elim (cases_lt j (length xs)) [
            | inl j_low ↦
                let other : run_at (xs ++ ys) j ≡ run_at xs j = get_or_append_left xs ys no_run j j_low in
                absurd (between (run_at xs j).disk (run_at xs j).file (among_at named xs j j_low) (
                  i - length xs,
                  omega arith,
                  sym (ap (λ (run : Run). named run.disk) first) ∙ on ∙ ap (λ (run : Run). named run.disk) other,
                  sym (ap (λ (run : Run). run.file) first) ∙ is ∙ ap (λ (run : Run). run.file) other,
                ))
            | inr j_high ↦
                let other : run_at (xs ++ ys) j ≡ run_at ys (j - length xs) = get_or-append_right xs ys (length xs) j no_run refl j_high in
                let same : i - length xs ≡ j - length xs =
                right (i - length xs) (j - length xs) (omega arith) (omega arith)
                (sym (ap (λ (run : Run). named run.disk) first) ∙ on ∙ ap (λ (run : Run). named run.disk) other)
                (sym (ap (λ (run : Run). run.file) first) ∙ is ∙ ap (λ (run : Run). run.file) other) in
                omega arith
          ]
    ]

-- what holds at each place holds of all
pub all_from_places : (P : Run → Type 0) (runs : List Run) → ((i : ℕ) → i < length runs → P (run_at runs i)) → AllByRecursion P runs
all_from_places P [] each = tt
all_from_places P (run ∷ runs) each = (each 0 (omega arith), all_from_places P runs (λ i within. each (suc i) (omega arith)))

pub all_at : (P : Run → Type 0) (runs : List Run) → AllByRecursion P runs → (i : ℕ) → i < length runs → P (run_at runs i)
all_at P [] all i within = absurd (omega arith)
all_at P (run ∷ runs) all zero within = all.0
all_at P (run ∷ runs) all (suc i) within = all_at P runs all.1 i (omega arith)

pub all_join : {X : Type 0} (P : X → Type 0) (xs ys : List X) → AllByRecursion P xs → AllByRecursion P ys → AllByRecursion P (xs ++ ys)
all_join P [] ys left right = right
all_join P (x ∷ xs) ys left right = (left.0, all_join P xs ys left.1 right)

pub all_left : {X : Type 0} (P : X → Type 0) (xs ys : List X) → AllByRecursion P (xs ++ ys) → AllByRecursion P xs
all_left P [] ys all = tt
all_left P (x ∷ xs) ys all = (all.0, all_left P xs ys all.1)

pub all_right : {X : Type 0} (P : X → Type 0) (xs ys : List X) → AllByRecursion P (xs ++ ys) → AllByRecursion P ys
all_right P [] ys all = all
all_right P (x ∷ xs) ys all = all_right P xs ys all.1
