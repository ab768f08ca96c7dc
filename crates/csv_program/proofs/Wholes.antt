-- All rows are those of the partitions, one behind the other.
use Rattle.std.proofs.Common.{◌≡◌, ℕ, zero, suc, ◌+◌, ◌-◌, ◌*◌, ◌≤◌, List, [], ◌∷◌, ◌++◌, length, map, take, drop, refl, sym, ap, ◌∙◌, arith}
use Rattle.std.specs.Prelude.{Bool}
use Rattle.std.specs.List.{list_all, range_with_len}
use Rattle.std.proofs.Math.Nat.{lt-mul-div-succ, suc-mul}
use Rattle.std.proofs.Math.Seq.{take-add}
use Rattle.std.proofs.lemmas.List.{map-append, take_all}
use Rattle.std.proofs.lemmas.List.Elements.{filter-append}
use Rattle.aggregate.specs.Totals.{Entry, total}
use Rattle.run_file.specs.Several.{concatenated}
use Rattle.job_plan.specs.Columns.{Fields}
use Rattle.job_plan.specs.Entries.{entry_of}
use Rattle.job_plan.specs.Plans.{chain_in, kept_at, kind_at}
use Rattle.job_plan.specs.declared.query_plan.Plan.{Plan}
use Rattle.landing.specs.Landed.{partition_count, partition_of}
use Rattle.row_filter.specs.Chains.{links_of}
use Rattle.row_filter.specs.Derived.{derived, passes_own}
use Rattle.row_filter.specs.Lines.{line}
use Rattle.job_ending.specs.Endings.{totals_of}
use Rattle.job_ending.specs.Endings.{dataset_in, entries_over}
use Rattle.csv_program.specs.QueryResults.{totals_of_parts}

drop_none : {A : Type 0} (n : ℕ) → drop {A = A} n [] ≡ []
drop_none zero = refl
drop_none (suc n) = refl

drop_twice : {A : Type 0} (m n : ℕ) (xs : List A) → drop n (drop m xs) ≡ drop (m + n) xs
drop_twice zero n xs = let same : n ≡ 0 + n = omega arith in ap (λ (k : ℕ). drop k xs) same
drop_twice (suc m) n [] = drop_none n ∙ sym (drop_none (suc m + n))
drop_twice (suc m) n (x ∷ xs) = let more : suc (m + n) ≡ suc m + n = omega arith in drop_twice m n xs ∙ ap (λ (k : ℕ). drop k (x ∷ xs)) more

-- so many partitions, from one on
parts_from : (n count first : ℕ) (rows : List Fields) → concatenated (map (λ part. partition_of n part rows) (range_with_len first count)) ≡ take (count * n) (drop (first * n) rows)
parts_from n zero first rows = let none : 0 ≡ 0 * n = omega arith in ap (λ (k : ℕ). take k (drop (first * n) rows)) none
parts_from n (suc count) first rows =
    let one_more : first + 1 ≡ suc first = omega arith in
    let next : (first + 1) * n ≡ first * n + n = ap (λ (k : ℕ). k * n) one_more ∙ suc-mul first n in
    let all : n + count * n ≡ suc count * n = omega (arith, suc-mul count n) in
    ap (λ (rest : List Fields). take n (drop (first * n) rows) ++ rest) (parts_from n count (first + 1) rows ∙ ap (λ (k : ℕ). take (count * n) (drop k rows)) next ∙ ap (take (count * n)) (sym (drop_twice (first * n) n rows)))
    ∙ sym (take-add n (count * n) (drop (first * n) rows)) ∙ ap (λ (k : ℕ). take k (drop (first * n) rows)) all

-- the partitions are enough
enough : (rows n : ℕ) → 1 ≤ n → rows ≤ partition_count rows n * n
enough rows n some = let below = lt-mul-div-succ (rows + (n - 1)) {b = n} some in omega (arith, below)

pub parts_whole : (n : ℕ) (rows : List Fields) → 1 ≤ n → concatenated (map (λ part. partition_of n part rows) (range_with_len 0 (partition_count (length rows) n))) ≡ rows
parts_whole n rows some =
    let none : 0 * n ≡ 0 = omega arith in
    parts_from n (partition_count (length rows) n) 0 rows ∙ ap (λ (k : ℕ). take (partition_count (length rows) n * n) (drop k rows)) none ∙ take_all (partition_count (length rows) n * n) rows (enough (length rows) n some)

-- what is made of lists one by one, where it is made piece by piece
made_concatenated : {A B : Type 0} (f : List A → List B) → f [] ≡ [] → ((xs ys : List A) → f (xs ++ ys) ≡ f xs ++ f ys) → (list_of : ℕ → List A) (places : List ℕ) → concatenated (map (λ p. f (list_of p)) places) ≡ f (concatenated (map list_of places))
made_concatenated f none pieces list_of [] = sym none
made_concatenated f none pieces list_of (p ∷ places) =
    ap (λ (rest : List _). f (list_of p) ++ rest) (made_concatenated f none pieces list_of places) ∙ sym (pieces (list_of p) (concatenated (map list_of places)))

-- the entries of a query over rows and more rows
over_append : (plan : Plan) (query : ℕ) (xs ys : List Fields) → entries_over plan query (xs ++ ys) ≡ entries_over plan query xs ++ entries_over plan query ys
over_append plan query xs ys =
    let chain = chain_in plan in
    let is_in : Fields → Bool = λ row. list_all (passes_own chain row) (line (links_of chain) (dataset_in plan query)) in
    ap (map (entry_of (kept_at plan query))) (filter-append is_in xs ys) ∙ map-append (entry_of (kept_at plan query)) (derived chain (dataset_in plan query) xs) (derived chain (dataset_in plan query) ys)

-- what the entries of the partitions come to is what those of all rows come to
pub whole_totals : (plan : Plan) (rows : List Fields) (part_rows partitions query : ℕ) → 1 ≤ part_rows → partitions ≡ partition_count (length rows) part_rows
    → totals_of_parts plan partitions (λ part. partition_of part_rows part rows) query ≡ totals_of plan rows query
whole_totals plan rows part_rows partitions query some count =
    ap (λ (entries : List Entry). total (kind_at plan query) entries)
    (made_concatenated (entries_over plan query) refl (over_append plan query) (λ part. partition_of part_rows part rows) (range_with_len 0 partitions)
    ∙ ap (λ (n : ℕ). entries_over plan query (concatenated (map (λ part. partition_of part_rows part rows) (range_with_len 0 n)))) count
    ∙ ap (entries_over plan query) (parts_whole part_rows rows some))
