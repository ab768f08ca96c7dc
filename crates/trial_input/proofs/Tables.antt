-- What is counted of four tables whose rows have three, two, three and two fields.
use Rattle.std.proofs.Common.{◌≡◌, ℕ, ◌+◌, ◌∙◌, false, List, [], ◌∷◌, ◌++◌, length, refl, ap, arith}
use Rattle.std.specs.Prelude.{◌==◌}
use Rattle.std.specs.List.{AllByRecursion, fold, sum_by}
use Rattle.std.proofs.lemmas.Bool.{eq-eqb}
use Rattle.std.proofs.lemmas.List.Sums.{fold-append, sum_by-cons}
use Rattle.job_plan.specs.Columns.{Fields}
use Rattle.trial_input.specs.Tallies.{count_in, within_u64, no_tally, tallied, tally_of}
use Rattle.trial_input.specs.declared.tally.Tally.{Tally}
use Rattle.trial_input.proofs.ReadBack.{all_rows}

-- ---- rows of one width

abbrev pub AreWide : ℕ → List Fields → Type 0
AreWide width rows = AllByRecursion (λ row. length row ≡ width) rows

held-more : (n more : ℕ) → within_u64 (within_u64 n + more) ≡ within_u64 (n + more)
held-more n more = omega arith

-- a tally in a table
abbrev pub in_table : ℕ → ℕ → ℕ → ℕ → Tally
in_table tables width rows counted = record { tables = tables; fields = width; rows = rows; counted = counted }

-- behind so many rows of it
abbrev pub later : ℕ → ℕ → ℕ → ℕ → Tally
later tables width rows counted = in_table tables width (within_u64 rows) counted

-- in a table that isn't the first
later-rows : (tables width counted : ℕ) (rows : List Fields) (n : ℕ) → (tables == 1) ≡ false → AreWide width rows
    → fold tallied (later tables width n counted) rows ≡ later tables width (n + length rows) counted
later-rows tables width counted [] n other wide = ap (λ (k : ℕ). later tables width k counted) (omega arith)
later-rows tables width counted (row ∷ rows) n other wide =
    let here : tallied (later tables width n counted) row ≡ later tables width (n + 1) counted =
    rw (eq-eqb (length row) width wide.0, other) (ap (λ (k : ℕ). in_table tables width k counted) (held-more n 1)) in
    ap (λ (tally : Tally). fold tallied tally rows) here
    ∙ later-rows tables width counted rows (n + 1) other wide.1
    ∙ ap (λ (k : ℕ). later tables width k counted) (omega arith)

-- in the first table, whose counts are added up
abbrev first : ℕ → ℕ → ℕ → Tally
first width rows counted = in_table 1 width rows counted

first-rows : (width : ℕ) (rows : List Fields) (n counted : ℕ) → AreWide width rows
    → fold tallied (first width (within_u64 n) (within_u64 counted)) rows ≡ first width (within_u64 (n + length rows)) (within_u64 (counted + sum_by count_in rows))
first-rows width [] n counted wide =
    ap (λ (k : ℕ). first width (within_u64 k) (within_u64 counted)) (omega arith) ∙ ap (λ (k : ℕ). first width (within_u64 (n + 0)) (within_u64 k)) (omega arith)
first-rows width (row ∷ rows) n counted wide =
    let here : tallied (first width (within_u64 n) (within_u64 counted)) row ≡ first width (within_u64 (n + 1)) (within_u64 (counted + count_in row)) =
    rw (eq-eqb (length row) width wide.0)
    (ap (λ (k : ℕ). first width k (within_u64 (within_u64 counted + count_in row))) (held-more n 1) ∙ ap (first width (within_u64 (n + 1))) (held-more counted (count_in row))) in
    ap (λ (tally : Tally). fold tallied tally rows) here
    ∙ first-rows width rows (n + 1) (counted + count_in row) wide.1
    ∙ ap (λ (k : ℕ). first width (within_u64 k) (within_u64 (counted + count_in row + sum_by count_in rows))) (omega arith)
    ∙ ap (λ (k : ℕ). first width (within_u64 (n + length (row ∷ rows))) (within_u64 k)) (omega (arith, sum_by-cons count_in row rows))

-- ---- the four tables

begins : (before : Tally) (head : Fields) (width : ℕ) → length head ≡ width → (width == before.fields) ≡ false
    → tallied before head ≡ record before { tables = within_u64 (before.tables + 1); fields = width; rows = 0 }
begins before head width e other = rw (e, other) refl

counted-on : (before after : Tally) (head : Fields) (rows rest : List Fields) → fold tallied (tallied before head) rows ≡ after
    → fold tallied before ((head ∷ rows) ++ rest) ≡ fold tallied after rest
counted-on before after head rows rest e = fold-append tallied before (head ∷ rows) rest ∙ ap (λ (tally : Tally). fold tallied tally rest) e

from-none : (tables width counted rows : ℕ) → later tables width (0 + rows) counted ≡ later tables width rows counted
from-none tables width counted rows = ap (λ (k : ℕ). later tables width k counted) (omega arith)

-- tables of three, two, three and two fields
pub four-tables : (one two three four : Fields) (ones twos threes fours : List Fields)
    → length one ≡ 3 → length two ≡ 2 → length three ≡ 3 → length four ≡ 2
    → AreWide 3 ones → AreWide 2 twos → AreWide 3 threes → AreWide 2 fours
    → tally_of (all_rows ((one ∷ ones) ∷ (two ∷ twos) ∷ (three ∷ threes) ∷ (four ∷ fours) ∷ []))
    ≡ later 4 2 (length fours) (within_u64 (sum_by count_in ones))
four-tables one two three four ones twos threes fours e1 e2 e3 e4 w1 w2 w3 w4 =
    let sum = within_u64 (sum_by count_in ones) in
    let behind-one : Tally = later 1 3 (length ones) sum in
    let behind-two : Tally = later 2 2 (length twos) sum in
    let behind-three : Tally = later 3 3 (length threes) sum in
    let behind-four : Tally = later 4 2 (length fours) sum in
    let done-one : fold tallied (tallied no_tally one) ones ≡ behind-one =
    ap (λ (tally : Tally). fold tallied tally ones) (begins no_tally one 3 e1 refl) ∙ first-rows 3 ones 0 0 w1
    ∙ ap (λ (k : ℕ). first 3 (within_u64 k) (within_u64 (0 + sum_by count_in ones))) (omega arith) ∙ ap (λ (k : ℕ). first 3 (within_u64 (length ones)) (within_u64 k)) (omega arith) in
    let done-two : fold tallied (tallied behind-one two) twos ≡ behind-two =
    ap (λ (tally : Tally). fold tallied tally twos) (begins behind-one two 2 e2 refl) ∙ later-rows 2 2 sum twos 0 refl w2 ∙ from-none 2 2 sum (length twos) in
    let done-three : fold tallied (tallied behind-two three) threes ≡ behind-three =
    ap (λ (tally : Tally). fold tallied tally threes) (begins behind-two three 3 e3 refl) ∙ later-rows 3 3 sum threes 0 refl w3 ∙ from-none 3 3 sum (length threes) in
    let done-four : fold tallied (tallied behind-three four) fours ≡ behind-four =
    ap (λ (tally : Tally). fold tallied tally fours) (begins behind-three four 2 e4 refl) ∙ later-rows 4 2 sum fours 0 refl w4 ∙ from-none 4 2 sum (length fours) in
    counted-on no_tally behind-one one ones ((two ∷ twos) ++ ((three ∷ threes) ++ ((four ∷ fours) ++ []))) done-one
    ∙ counted-on behind-one behind-two two twos ((three ∷ threes) ++ ((four ∷ fours) ++ [])) done-two
    ∙ counted-on behind-two behind-three three threes ((four ∷ fours) ++ []) done-three
    ∙ counted-on behind-three behind-four four fours [] done-four
