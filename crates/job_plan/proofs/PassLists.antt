-- The passes of queries over datasets: one more pass, and what holds of each.
use Rattle.std.proofs.Common.{◌≡◌, ◌<◌, ◌≤◌, ◌+◌, ◌∙◌, ℕ, List, [], ◌∷◌, ◌++◌, Bool, true, false, cond, length, map, get_or, take, refl, sym, ap, arith, subst}
use Rattle.std.specs.Prelude.{◌==◌, All, AllPairs, slice_index_or}
use Rattle.std.specs.List.{filter, list_any, range_with_len}
use Rattle.std.proofs.lemmas.Bool.Decides.{nat_tests}
use Rattle.std.proofs.lemmas.List.{append-nil, get_or-map, length-map, map-id, map_push, take_all, take_more}
use Rattle.std.proofs.lemmas.List.Elements.{All-filter, All-map}
use Rattle.std.proofs.lemmas.List.FromFn.{filter_of_map_range_with_len_more, get_or-range_with_len, length-range_with_len, map-range_with_len_more}
use Rattle.std.proofs.lemmas.List.Kept.{AllPairs-filter}
use Rattle.std.proofs.lemmas.List.Sums.{count_by-le-length, length-filter}
use Rattle.row_filter.specs.declared.chain.Link.{Link}
use Rattle.job_plan.specs.Making.{AreFirstPasses, ArePasses}
use Rattle.job_plan.specs.Passes.{is_first, pass_datasets, queries_over, removed_after}
use Rattle.job_plan.specs.Planning.{FitsQueries, IsPass}
use Rattle.job_plan.specs.declared.passing.Pass.{Pass}
use Rattle.job_plan.proofs.Firsts.{any_of_kept}

-- ---- one more number, of which some are kept

pub filter_range_more : (p : ℕ → Bool) (a n j : ℕ) → a + n ≡ j → filter p (range_with_len a (n + 1)) ≡ filter p (range_with_len a n) ++ cond (p j) (j ∷ []) []
filter_range_more p a n j e =
    ap (filter p) (sym (map-id (range_with_len a (n + 1)))) ∙ filter_of_map_range_with_len_more p (λ k. k) a n j e
    ∙ ap (λ (ks : List ℕ). filter p ks ++ cond (p j) (j ∷ []) []) (map-id (range_with_len a n))

pub one_kept : (p : ℕ → Bool) (a n j : ℕ) → a + n ≡ j → p j ≡ true → filter p (range_with_len a (n + 1)) ≡ filter p (range_with_len a n) ++ j ∷ []
one_kept p a n j e passes = filter_range_more p a n j e ∙ ap (λ (b : Bool). filter p (range_with_len a n) ++ cond b (j ∷ []) []) passes

pub none_kept : (p : ℕ → Bool) (a n j : ℕ) → a + n ≡ j → p j ≡ false → filter p (range_with_len a (n + 1)) ≡ filter p (range_with_len a n)
none_kept p a n j e drops =
    filter_range_more p a n j e ∙ ap (λ (b : Bool). filter p (range_with_len a n) ++ cond b (j ∷ []) []) drops ∙ append-nil (filter p (range_with_len a n))

-- the datasets of the first queries that have a pass of their own
abbrev pub first_datasets : List ℕ → ℕ → List ℕ
first_datasets asked n = map (λ (q : ℕ). slice_index_or asked q 0) (filter (is_first asked) (range_with_len 0 n))

pub one_more_dataset : (asked : List ℕ) (n : ℕ) → is_first asked n ≡ true → first_datasets asked (n + 1) ≡ first_datasets asked n ++ get_or asked n 0 ∷ []
one_more_dataset asked n first =
    ap (map (λ (q : ℕ). slice_index_or asked q 0)) (one_kept (is_first asked) 0 n n (omega arith) first)
    ∙ map_push (λ (q : ℕ). slice_index_or asked q 0) (filter (is_first asked) (range_with_len 0 n)) n

pub same_datasets : (asked : List ℕ) (n : ℕ) → is_first asked n ≡ false → first_datasets asked (n + 1) ≡ first_datasets asked n
same_datasets asked n later = ap (map (λ (q : ℕ). slice_index_or asked q 0)) (none_kept (is_first asked) 0 n n (omega arith) later)

-- ---- one more pass

pub one_more_pass : (links : List Link) (asked : List ℕ) (n : ℕ) (passes : List Pass) (pass : Pass) → n < length (pass_datasets asked)
    → AreFirstPasses links asked n passes → pass.dataset ≡ get_or (pass_datasets asked) n 0 → pass.queries.items ≡ queries_over asked pass.dataset
    → pass.removed.items ≡ removed_after links (pass_datasets asked) n → AreFirstPasses links asked (n + 1) (passes ++ pass ∷ [])
one_more_pass links asked n passes pass lt so_far over queries removed = record {
  datasets = map_push (λ (p : Pass). p.dataset) passes pass ∙ rw (so_far.datasets, over) (sym (take_more (pass_datasets asked) n 0 lt));
  queries = map_push (λ (p : Pass). p.queries.items) passes pass
      ∙ rw (so_far.queries, queries, over) (sym (map_push (queries_over asked) (take n (pass_datasets asked)) (get_or (pass_datasets asked) n 0))
      ∙ ap (map (queries_over asked)) (sym (take_more (pass_datasets asked) n 0 lt)));
  removed = map_push (λ (p : Pass). p.removed.items) passes pass
      ∙ rw (so_far.removed, removed) (sym (map-range_with_len_more (removed_after links (pass_datasets asked)) 0 n n (omega arith)));
}

-- ---- what holds of each pass

all_unmapped : {X Y : Type 0} (P : Y → Type 0) (f : X → Y) (xs : List X) (e : Y) → All P (map f xs) → All (λ x. P (f x)) xs
all_unmapped P f xs e h i d lt = subst P (get_or-map f xs i d e lt) (h i e (omega (arith, lt, length-map xs f)))

module _ (asked : List ℕ) where
  abbrev numbers : List ℕ
  numbers = range_with_len 0 (length asked)

  at_number : (i d : ℕ) → i < length numbers → get_or numbers i d ≡ i
  at_number i d lt = get_or-range_with_len 0 (length asked) i d (omega (arith, lt, length-range_with_len 0 (length asked))) ∙ omega arith

  within : (i : ℕ) → i < length numbers → i < length asked
  within i lt = omega (arith, lt, length-range_with_len 0 (length asked))

  all_numbers : (P : ℕ → Type 0) → ((q : ℕ) → q < length asked → P q) → All P numbers
  all_numbers P h i d lt = subst P (sym (at_number i d lt)) (h i (within i lt))

  -- what holds of each query's dataset, which is told of its query, holds of each pass's
  of_passes : (P : ℕ → Type 0) → ((q : ℕ) → q < length asked → P (get_or asked q 0)) → All P (pass_datasets asked)
  of_passes P h = All-map P (λ (q : ℕ). slice_index_or asked q 0) (filter (is_first asked) numbers)
      (All-filter (is_first asked) (λ q. P (slice_index_or asked q 0)) numbers (all_numbers (λ q. P (slice_index_or asked q 0)) h))

  pub passes_there : (count : ℕ) → All (λ (d : ℕ). d ≤ count) asked → All (λ (d : ℕ). d ≤ count) (pass_datasets asked)
  passes_there count there = of_passes (λ d. d ≤ count) (λ q lt. there q 0 lt)

  same_number : (n : ℕ) → (n == n) ≡ true
  same_number n = grind (arith, nat_tests)

  some_of : {X : Type 0} (xs : List X) → list_any (λ _. true) xs ≡ true → 1 ≤ length xs
  some_of [] e = absurd cc
  some_of (x ∷ xs) e = omega arith

  has_query : (q : ℕ) → q < length asked → 1 ≤ length (queries_over asked (get_or asked q 0))
  has_query q lt =
      let p = λ (k : ℕ). slice_index_or asked k 0 == get_or asked q 0 in
      let inside : q < length numbers = omega (arith, lt, length-range_with_len 0 (length asked)) in
      let here : p (get_or numbers q 0) ≡ true = rw (at_number q 0 inside) (same_number (get_or asked q 0)) in
      some_of (filter p numbers) (any_of_kept (λ _. true) p numbers q 0 inside here refl)

  numbers_ascend : AllPairs (λ earlier later. earlier < later) numbers
  numbers_ascend i j d less lt =
      let before : i < length numbers = omega (arith, less, lt) in
      rw (at_number i d before, at_number j d lt) less

  fits : (dataset : ℕ) → 1 ≤ length (queries_over asked dataset) → FitsQueries (length asked) (queries_over asked dataset)
  fits dataset some = record {
    some = some;
    ascend = AllPairs-filter (λ earlier later. earlier < later) (λ q. slice_index_or asked q 0 == dataset) numbers numbers_ascend;
    named = All-filter (λ q. slice_index_or asked q 0 == dataset) (λ q. q < length asked) numbers (all_numbers (λ q. q < length asked) (λ q lt. lt));
  }

  module _ (links : List Link) (passes : List Pass) (are : ArePasses links asked passes) where
    all_taken : take (length (pass_datasets asked)) (pass_datasets asked) ≡ pass_datasets asked
    all_taken = take_all (length (pass_datasets asked)) (pass_datasets asked) (omega arith)

    pub their_datasets : map (λ (p : Pass). p.dataset) passes ≡ pass_datasets asked
    their_datasets = are.datasets ∙ all_taken

    pub their_queries : map (λ (p : Pass). p.queries.items) passes ≡ map (queries_over asked) (pass_datasets asked)
    their_queries = are.queries ∙ ap (map (queries_over asked)) all_taken

    pub are_passes : (count : ℕ) → All (λ (d : ℕ). d ≤ count) asked → All (IsPass count (length asked)) passes
    are_passes count there i d lt =
        let datasets : All (λ (n : ℕ). n ≤ count) (map (λ (p : Pass). p.dataset) passes) = subst (All (λ (n : ℕ). n ≤ count)) (sym their_datasets) (passes_there count there) in
        let queries : All (FitsQueries (length asked)) (map (λ (p : Pass). p.queries.items) passes) =
        subst (All (FitsQueries (length asked))) (sym their_queries)
        (All-map (FitsQueries (length asked)) (queries_over asked) (pass_datasets asked)
        (of_passes (λ n. FitsQueries (length asked) (queries_over asked n)) (λ q lt. fits (get_or asked q 0) (has_query q lt)))) in
        record {
          there = all_unmapped (λ n. n ≤ count) (λ (p : Pass). p.dataset) passes 0 datasets i d lt;
          queries = all_unmapped (FitsQueries (length asked)) (λ (p : Pass). p.queries.items) passes [] queries i d lt;
        }

    pub few_passes : length passes ≤ length asked
    few_passes =
        omega (
          arith,
          length-map passes (λ (p : Pass). p.dataset),
          ap length their_datasets,
          length-map (filter (is_first asked) numbers) (λ (q : ℕ). slice_index_or asked q 0),
          length-filter (is_first asked) numbers,
          count_by-le-length (is_first asked) numbers,
          length-range_with_len 0 (length asked),
        )

    pub some_pass : 1 ≤ length asked → 1 ≤ length passes
    some_pass some = omega (arith, length-map passes (λ (p : Pass). p.dataset), ap length their_datasets, first_there asked some)
      where
        first_there : (list : List ℕ) → 1 ≤ length list → 1 ≤ length (pass_datasets list)
        first_there [] one = absurd (omega arith)
        first_there (d ∷ list) one = omega arith
