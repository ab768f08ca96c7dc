-- Rows that are numbered from 1 on have ascending numbers, and so has what is kept of them; and they are landed each with its own.
use Rattle.std.proofs.Common.{◌≡◌, ◌+◌, ◌≤◌, ◌<◌, ◌^◌, ◌∙◌, ℕ, suc, Bool, true, false, cond, List, [], ◌∷◌, All, length, refl, ap, arith}
use Rattle.std.specs.Prelude.{⊤, AllPairs}
use Rattle.std.specs.List.{AllByRecursion, filter}
use Rattle.std.proofs.lemmas.List.Elements.{All-cons, All-filter, All-from_recursion, All-nil, recursion_from_All}
use Rattle.std.proofs.lemmas.List.Kept.{AllPairs-cons, AllPairs-filter}
use Rattle.std.proofs.lemmas.List.Sums.{count_by-le-length, length-filter}
use Rattle.job_plan.specs.Columns.{Fields}
use Rattle.job_plan.specs.Rows.{landed_row, landed_rows}
use Rattle.job_answer.specs.Numbered.{AreNumbered, Numbered, landed_each, numbered, rows_in}

-- ---- ascending numbers, row by row

abbrev pub Rise : List Numbered → Type 0
Rise [] = ⊤
Rise (r ∷ rs) = AllByRecursion (λ s. r.0 < s.0) rs × Rise rs

pub rise_of : (rs : List Numbered) → AllPairs (λ earlier later. earlier.0 < later.0) rs → Rise rs
rise_of [] ascend = tt
rise_of (r ∷ rs) ascend =
    let later : All (λ s. r.0 < s.0) rs = λ k d within. ascend 0 (suc k) d (omega arith) (omega arith) in
    (recursion_from_All (λ s. r.0 < s.0) rs later, rise_of rs (λ i j d before within. ascend (suc i) (suc j) d (omega arith) (omega arith)))

-- ---- rows that are numbered from n on

pub landed-numbered : (places : List ℕ) (n : ℕ) (rows : List Fields) → landed_each places (numbered n rows) ≡ landed_rows places n rows
landed-numbered places n [] = refl
landed-numbered places n (row ∷ rows) = ap (λ (rest : List Fields). landed_row places n row ∷ rest) (landed-numbered places (n + 1) rows)

pub rows-numbered : (n : ℕ) (rows : List Fields) → rows_in (numbered n rows) ≡ rows
rows-numbered n [] = refl
rows-numbered n (row ∷ rows) = ap (λ (rest : List Fields). row ∷ rest) (rows-numbered (n + 1) rows)

length-numbered : (n : ℕ) (rows : List Fields) → length (numbered n rows) ≡ length rows
length-numbered n [] = refl
length-numbered n (row ∷ rows) = omega (arith, length-numbered (n + 1) rows)

later-numbered : (m n : ℕ) (rows : List Fields) → m < n → AllByRecursion (λ r. m < r.0) (numbered n rows)
later-numbered m n [] below = tt
later-numbered m n (row ∷ rows) below = (below, later-numbered m (n + 1) rows (omega arith))

ascend-numbered : (n : ℕ) (rows : List Fields) → AllPairs (λ earlier later. earlier.0 < later.0) (numbered n rows)
ascend-numbered n [] = λ i j d before within. absurd (omega arith)
ascend-numbered n (row ∷ rows) =
    AllPairs-cons (λ (earlier later : Numbered). earlier.0 < later.0) (n, row) (numbered (n + 1) rows)
    (All-from_recursion (λ (r : Numbered). n < r.0) (numbered (n + 1) rows) (later-numbered n (n + 1) rows (omega arith)))
    (ascend-numbered (n + 1) rows)

small-numbered : (n : ℕ) (rows : List Fields) → n + length rows ≤ 2 ^ 64 → All (λ r. r.0 < 2 ^ 64) (numbered n rows)
small-numbered n [] few = All-nil (λ (r : Numbered). r.0 < 2 ^ 64)
small-numbered n (row ∷ rows) few =
    All-cons (λ (r : Numbered). r.0 < 2 ^ 64) (n, row) (numbered (n + 1) rows) (omega arith) (small-numbered (n + 1) rows (omega arith))

pub are-numbered : (rows : List Fields) → length rows ≤ 2 ^ 32 → AreNumbered (numbered 1 rows)
are-numbered rows few = record {
  ascend = ascend-numbered 1 rows;
  small = small-numbered 1 rows (omega arith);
  few = let same = length-numbered 1 rows in omega arith;
}

-- ---- of which some are kept

module _ (test : Numbered → Bool) where
  pub filter-numbered : (input : List Numbered) → AreNumbered input → AreNumbered (filter test input)
  filter-numbered input are = record {
    ascend = AllPairs-filter (λ (earlier later : Numbered). earlier.0 < later.0) test input are.ascend;
    small = All-filter test (λ (r : Numbered). r.0 < 2 ^ 64) input are.small;
    few = let most = are.few in omega (arith, length-filter test input, count_by-le-length test input);
  }

  kept-first : (b : Bool) (P : Fields → Type 0) (places : List ℕ) (r : Numbered) (rs : List Numbered) → P (landed_row places r.0 r.1) → AllByRecursion P (landed_each places rs)
      → AllByRecursion P (landed_each places (cond b (r ∷ rs) rs))
  kept-first true P places r rs first all = (first, all)
  kept-first false P places r rs first all = all

  -- what holds of each landed row holds of each that is kept
  pub filter-landed : (P : Fields → Type 0) (places : List ℕ) (input : List Numbered) → AllByRecursion P (landed_each places input) → AllByRecursion P (landed_each places (filter test input))
  filter-landed P places [] all = tt
  filter-landed P places (r ∷ rs) all = kept-first (test r) P places r (filter test rs) all.0 (filter-landed P places rs all.1)

rows-first : (b : Bool) (r : Numbered) (rs : List Numbered) → rows_in (cond b (r ∷ rs) rs) ≡ cond b (r.1 ∷ rows_in rs) (rows_in rs)
rows-first true r rs = refl
rows-first false r rs = refl

-- the rows alone that are kept
pub rows-filter : (test : Fields → Bool) (input : List Numbered) → rows_in (filter (λ r. test r.1) input) ≡ filter test (rows_in input)
rows-filter test [] = refl
rows-filter test (r ∷ rs) =
    rows-first (test r.1) r (filter (λ r. test r.1) rs) ∙ ap (λ (rest : List Fields). cond (test r.1) (r.1 ∷ rest) rest) (rows-filter test rs)
