-- Which pass of a plan serves a query, and at which place.
use Rattle.std.proofs.Common.{◌≡◌, ◌∙◌, ℕ, zero, suc, ◌<◌, ◌≤◌, Bool, true, false, cond, List, [], ◌∷◌, get_or, length, take, refl, sym, ap, subst, inl, inr, arith}
use Rattle.std.specs.Prelude.{◌==◌, ◌||◌, not, slice_index_or}
use Rattle.std.specs.List.{filter, list_any, range_with_len}
use Rattle.std.proofs.lemmas.Bool.{cases_Bool, eq-eqb, eqb-true, false≢true}
use Rattle.std.proofs.lemmas.List.{get_or-map, get_or-take, length-map, length-take-le}
use Rattle.std.proofs.lemmas.List.Elements.{filter_passes}
use Rattle.std.proofs.lemmas.List.FromFn.{get_or-range_with_len, length-range_with_len}
use Rattle.std.proofs.lemmas.List.Sums.{count_by-le-length, length-filter}
use Rattle.job_plan.specs.Passes.{is_first, pass_datasets, queries_over}
use Rattle.job_plan.specs.Plans.{datasets_in, kept_in, passes_in, queries_in}
use Rattle.job_plan.specs.declared.query_plan.Plan.{Plan}
use Rattle.job_ending.specs.Endings.{dataset_in}
use Rattle.csv_program.specs.QueryResults.{HasPasses}

-- ---- lists

-- a number that passes is among those that are kept
pub kept_there : (p : ℕ → Bool) (xs : List ℕ) (j : ℕ) → j < length xs → p (get_or xs j 0) ≡ true → (i : ℕ) × (i < length (filter p xs)) × (get_or (filter p xs) i 0 ≡ get_or xs j 0)
kept_there p [] j below passes = absurd (omega (arith, below))
kept_there p (x ∷ xs) zero below passes =
    subst (λ (b : Bool). (i : ℕ) × (i < length (cond b (x ∷ filter p xs) (filter p xs))) × (get_or (cond b (x ∷ filter p xs) (filter p xs)) i 0 ≡ x)) (sym passes) (0, omega arith, refl)
kept_there p (x ∷ xs) (suc j) below passes = behind (p x) (filter p xs) (get_or xs j 0) (kept_there p xs j (omega (arith, below)) passes)
  where
    behind : (b : Bool) (ys : List ℕ) (y : ℕ) → (i : ℕ) × (i < length ys) × (get_or ys i 0 ≡ y) → (i : ℕ) × (i < length (cond b (x ∷ ys) ys)) × (get_or (cond b (x ∷ ys) ys) i 0 ≡ y)
    behind true ys y there = (suc there.0, omega (arith, there.1), there.2)
    behind false ys y there = there

-- where one of them passes there is a place of it
pub any_there : (p : ℕ → Bool) (xs : List ℕ) → list_any p xs ≡ true → (j : ℕ) × (j < length xs) × (p (get_or xs j 0) ≡ true)
any_there p [] some = absurd (false≢true some)
any_there p (x ∷ xs) some = elim (cases_Bool (p x)) [
  | inl here ↦ (0, omega arith, here)
  | inr past ↦ let there = any_there p xs (rw past at some) in (suc there.0, omega (arith, there.1), there.2)
]

-- where none passes, the one at a place doesn't
pub none_there : (p : ℕ → Bool) (xs : List ℕ) (j : ℕ) → list_any p xs ≡ false → j < length xs → p (get_or xs j 0) ≡ false
none_there p [] j none below = absurd (omega (arith, below))
none_there p (x ∷ xs) zero none below = first (p x) (list_any p xs) none
  where
    first : (b c : Bool) → (b || c) ≡ false → b ≡ false
    first true c e = e
    first false c e = refl
none_there p (x ∷ xs) (suc j) none below = none_there p xs j (rest (p x) (list_any p xs) none) (omega (arith, below))
  where
    rest : (b c : Bool) → (b || c) ≡ false → c ≡ false
    rest true c e = absurd (false≢true (sym e))
    rest false c e = e

-- ---- the queries over a dataset

-- each query is one of those over its dataset
query_over : (datasets : List ℕ) (query : ℕ) → query < length datasets
    → (i : ℕ) × (i < length (queries_over datasets (slice_index_or datasets query 0))) × (slice_index_or (queries_over datasets (slice_index_or datasets query 0)) i 0 ≡ query)
query_over datasets query below =
    let p : ℕ → Bool = λ q. slice_index_or datasets q 0 == slice_index_or datasets query 0 in
    let numbers = range_with_len 0 (length datasets) in
    let size = length-range_with_len 0 (length datasets) in
    let at : get_or numbers query 0 ≡ query = get_or-range_with_len 0 (length datasets) query 0 below ∙ omega arith in
    let passes : p (get_or numbers query 0) ≡ true = ap p at ∙ eq-eqb (slice_index_or datasets query 0) (slice_index_or datasets query 0) refl in
    let there = kept_there p numbers query (omega (arith, size, below)) passes in
    (there.0, there.1, there.2 ∙ at)

-- and each of them is over it
over_has : (datasets : List ℕ) (dataset i : ℕ) → i < length (queries_over datasets dataset) → slice_index_or datasets (slice_index_or (queries_over datasets dataset) i 0) 0 ≡ dataset
over_has datasets dataset i below =
    eqb-true (slice_index_or datasets (slice_index_or (queries_over datasets dataset) i 0) 0) dataset
    (filter_passes (λ q. slice_index_or datasets q 0 == dataset) (range_with_len 0 (length datasets)) i 0 below)

over_few : (datasets : List ℕ) (dataset : ℕ) → length (queries_over datasets dataset) ≤ length datasets
over_few datasets dataset =
    let p : ℕ → Bool = λ q. slice_index_or datasets q 0 == dataset in
    let numbers = range_with_len 0 (length datasets) in
    let kept = length-filter p numbers in
    let most = count_by-le-length p numbers in
    let size = length-range_with_len 0 (length datasets) in
    omega (arith, kept, most, size)

-- ---- the pass of a dataset

earlier : (datasets : List ℕ) (query : ℕ) → query < length datasets → list_any (λ d. d == slice_index_or datasets query 0) (take query datasets) ≡ true
    → (j : ℕ) × (j < query) × (slice_index_or datasets j 0 ≡ slice_index_or datasets query 0)
earlier datasets query below some =
    let dataset = slice_index_or datasets query 0 in
    let there = any_there (λ d. d == dataset) (take query datasets) some in
    let size = length-take-le query datasets (omega (arith, below)) in
    let before : there.0 < query = omega (arith, there.1, size) in
    (there.0, before, sym (get_or-take query datasets there.0 0 before) ∙ eqb-true (get_or (take query datasets) there.0 0) dataset there.2)

first_with : (fuel : ℕ) (datasets : List ℕ) (query : ℕ) → query < fuel → query < length datasets → (j : ℕ) × (j < length datasets) × (is_first datasets j ≡ true) × (slice_index_or datasets j 0 ≡ slice_index_or datasets query 0)
first_with zero datasets query enough below = absurd (omega (arith, enough))
first_with (suc fuel) datasets query enough below = elim (cases_Bool (list_any (λ d. d == slice_index_or datasets query 0) (take query datasets))) [
  | inl some ↦
      let before = earlier datasets query below some in
      let first = first_with fuel datasets before.0 (omega (arith, before.1, enough)) (omega (arith, before.1, below)) in
      (first.0, first.1, first.2, first.3 ∙ before.2)
  | inr none ↦ (query, below, ap not none, refl)
]

-- each query's dataset has a pass
pass_over : (datasets : List ℕ) (query : ℕ) → query < length datasets → (k : ℕ) × (k < length (pass_datasets datasets)) × (slice_index_or (pass_datasets datasets) k 0 ≡ slice_index_or datasets query 0)
pass_over datasets query below =
    let numbers = range_with_len 0 (length datasets) in
    let first = first_with (suc query) datasets query (omega arith) below in
    let size = length-range_with_len 0 (length datasets) in
    let at : get_or numbers first.0 0 ≡ first.0 = get_or-range_with_len 0 (length datasets) first.0 0 first.1 ∙ omega arith in
    let there = kept_there (is_first datasets) numbers first.0 (omega (arith, size, first.1)) (ap (is_first datasets) at ∙ first.2) in
    let dataset_at : ℕ → ℕ = λ q. slice_index_or datasets q 0 in
    let kept = filter (is_first datasets) numbers in
    let many = length-map kept dataset_at in
    (there.0, omega (arith, many, there.1), get_or-map dataset_at kept there.0 0 0 there.1 ∙ ap dataset_at (there.2 ∙ at) ∙ first.3)

-- ---- a plan

same_count : (plan : Plan) → length (datasets_in plan) ≡ length (kept_in plan)
same_count plan = length-map plan.queries.items (λ planned. planned.dataset) ∙ sym (length-map plan.queries.items (λ planned. planned.kept))

-- each query of a plan has a pass
pub served_by : (plan : Plan) (query : ℕ) → HasPasses plan → query < length (kept_in plan) → (k : ℕ) × (k < length (passes_in plan)) × (slice_index_or (passes_in plan) k 0 ≡ dataset_in plan query)
served_by plan query has below =
    let found = pass_over (datasets_in plan) query (omega (arith, same_count plan, below)) in
    subst (λ (datasets : List ℕ). (k : ℕ) × (k < length datasets) × (slice_index_or datasets k 0 ≡ dataset_in plan query)) (sym has.passes) found

-- the queries of a pass are those over its dataset
pub queries_are : (plan : Plan) (k : ℕ) → HasPasses plan → k < length (passes_in plan) → slice_index_or (queries_in plan) k [] ≡ queries_over (datasets_in plan) (slice_index_or (passes_in plan) k 0)
queries_are plan k has below =
    let within : k < length (pass_datasets (datasets_in plan)) = subst (λ (datasets : List ℕ). k < length datasets) has.passes below in
    ap (λ (lists : List (List ℕ)). slice_index_or lists k []) has.queries
    ∙ get_or-map (queries_over (datasets_in plan)) (pass_datasets (datasets_in plan)) k 0 [] within
    ∙ ap (λ (datasets : List ℕ). queries_over (datasets_in plan) (slice_index_or datasets k 0)) (sym has.passes)

-- a query over the dataset of a pass has a place in it
pub place_in_pass : (plan : Plan) (k query : ℕ) → HasPasses plan → k < length (passes_in plan) → query < length (kept_in plan) → slice_index_or (passes_in plan) k 0 ≡ dataset_in plan query
    → (i : ℕ) × (i < length (slice_index_or (queries_in plan) k [])) × (slice_index_or (slice_index_or (queries_in plan) k []) i 0 ≡ query)
place_in_pass plan k query has below known over =
    subst (λ (queries : List ℕ). (i : ℕ) × (i < length queries) × (slice_index_or queries i 0 ≡ query))
    (ap (queries_over (datasets_in plan)) (sym over) ∙ sym (queries_are plan k has below))
    (query_over (datasets_in plan) query (omega (arith, same_count plan, known)))

-- and each query of a pass is over its dataset
pub dataset_of_pass : (plan : Plan) (k i : ℕ) → HasPasses plan → k < length (passes_in plan) → i < length (slice_index_or (queries_in plan) k []) → dataset_in plan (slice_index_or (slice_index_or (queries_in plan) k []) i 0) ≡ slice_index_or (passes_in plan) k 0
dataset_of_pass plan k i has below inside =
    let are = queries_are plan k has below in
    let dataset = slice_index_or (passes_in plan) k 0 in
    ap (λ (queries : List ℕ). dataset_in plan (slice_index_or queries i 0)) are
    ∙ over_has (datasets_in plan) dataset i (subst (λ (queries : List ℕ). i < length queries) are inside)

-- a pass has no more queries than the plan
pub few_in_pass : (plan : Plan) (k : ℕ) → HasPasses plan → k < length (passes_in plan) → length (slice_index_or (queries_in plan) k []) ≤ length (kept_in plan)
few_in_pass plan k has below =
    let size = ap length (queries_are plan k has below) in
    let few = over_few (datasets_in plan) (slice_index_or (passes_in plan) k 0) in
    omega (arith, size, few, same_count plan)
