-- How often the consumers of a worker are fed, pass by pass.
use Rattle.std.proofs.Common.{◌≡◌, ◌≢◌, ◌∙◌, ℕ, zero, suc, ◌+◌, ◌-◌, ◌^◌, ◌<◌, min, Bool, true, false, List, [], Option, get_or, length, take, refl, sym, ap, subst, inl, inr, arith}
use Rattle.std.specs.Prelude.{◌==◌, ◌*◌, if◌then◌else◌, slice_index_or, sum_by}
use Rattle.std.specs.List.{range_with_len}
use Rattle.std.proofs.Math.Nat.{mul-lt-mul_of_pos_right}
use Rattle.std.proofs.lemmas.Bool.{cases_Bool, cases_eq, cases_lt, eq-eqb, eqb-true, false≢true}
use Rattle.std.proofs.lemmas.List.{take_all}
use Rattle.std.proofs.lemmas.List.FromFn.{get_or-range_with_len, length-range_with_len}
use Rattle.std.proofs.lemmas.List.Sums.{sum_by_more}
use Rattle.spill_disk.specs.Files.{Files}
use Rattle.run_file.specs.declared.run.Run.{Run}
use Rattle.consumer_trait.specs.Members.{state_at}
use Rattle.consumer_trait.specs.States.{State}
use Rattle.row_filter.specs.Derived.{derived}
use Rattle.job_plan.specs.Columns.{Fields}
use Rattle.job_plan.specs.Entries.{kind_of}
use Rattle.job_plan.specs.Passes.{pass_datasets, queries_over}
use Rattle.job_plan.specs.Plans.{chain_in, datasets_in, kept_at, passes_in, queries_in}
use Rattle.job_plan.specs.declared.query_plan.Plan.{Plan}
use Rattle.job_text.specs.declared.job.Shape.{Shape}
use Rattle.job_text.specs.declared.job.Shape.TheVariants.{Group, Order}
use Rattle.memory_core.specs.Caches.{RowsByName}
use Rattle.task_runner.specs.Consumers.{fed_after, place_of}
use Rattle.task_runner.specs.Pass.{FeedsParts}
use Rattle.task_runner.specs.PartAnswers.{HoldsOwn}
use Rattle.task_runner.specs.PassViews.{PassView, pass_with}
use Rattle.task_runner.specs.Queries.{FeedsAll, place_at}
use Rattle.task_runner.specs.Workers.{IsCount, part_at, rows_to}
use Rattle.csv_program.specs.Feeds.{AreFedBy, FeedsPlan, is_used, place_of_shape, rows_in}
use Rattle.csv_program.specs.QueryResults.{HasPasses}
use Rattle.csv_program.proofs.Served.{any_there, none_there, queries_are}

-- ---- the places of consumers

place_same : (shape : Shape) (i : ℕ) → place_of (kind_of shape) i ≡ place_of_shape shape i
place_same (Group columns parts) i = refl
place_same (Order keys columns) i = refl

-- the place of a query's consumer
abbrev there_at : (ℕ → Shape) → List ℕ → ℕ → ℕ
there_at shape queries i = place_of_shape (shape (slice_index_or queries i 0)) i

number_at : (n i : ℕ) → i < length (range_with_len 0 n) → (i < n) × (get_or (range_with_len 0 n) i 0 ≡ i)
number_at n i below =
    let size = length-range_with_len 0 n in
    let within : i < n = omega (arith, size, below) in
    (within, get_or-range_with_len 0 n i 0 within ∙ omega arith)

used_some : (shape : ℕ → Shape) (queries : List ℕ) (place : ℕ) → is_used shape queries place ≡ true → (i : ℕ) × (i < length queries) × (there_at shape queries i ≡ place)
used_some shape queries place used =
    let p : ℕ → Bool = λ i. there_at shape queries i == place in
    let there = any_there p (range_with_len 0 (length queries)) used in
    let number = number_at (length queries) there.0 there.1 in
    (there.0, number.0, eqb-true (there_at shape queries there.0) place (sym (ap p number.1) ∙ there.2))

used_none : (shape : ℕ → Shape) (queries : List ℕ) (place : ℕ) → is_used shape queries place ≡ false → (i : ℕ) → i < length queries → there_at shape queries i ≢ place
used_none shape queries place unused i below same =
    let p : ℕ → Bool = λ i. there_at shape queries i == place in
    let size = length-range_with_len 0 (length queries) in
    let inside : i < length (range_with_len 0 (length queries)) = omega (arith, size, below) in
    let number = number_at (length queries) i inside in
    let not_here : p i ≡ false = sym (ap p number.1) ∙ none_there p (range_with_len 0 (length queries)) i unused inside in
    false≢true (sym not_here ∙ eq-eqb (there_at shape queries i) place same)

-- each consumer is fed so often by a pass in which each query's was fed alike
feeds_place : (plan : Plan) (queries : List ℕ) (states states' : List State) (count place : ℕ) → FeedsAll states states' plan queries (λ _. count)
    → (state_at states' place).fed ≡ fed_after (state_at states place).fed (if is_used (kept_at plan) queries place then count else 0)
feeds_place plan queries states states' count place feeds = elim (cases_Bool (is_used (kept_at plan) queries place)) [
  | inl used ↦
      let there = used_some (kept_at plan) queries place used in
      let same : place_at plan queries there.0 ≡ place = place_same (kept_at plan (slice_index_or queries there.0 0)) there.0 ∙ there.2 in
      rw used (subst (λ (n : ℕ). (state_at states' n).fed ≡ fed_after (state_at states n).fed count) same (feeds.fed there.0 there.1))
  | inr unused ↦
      rw unused (feeds.others place (λ i below same. used_none (kept_at plan) queries place unused i below (sym (place_same (kept_at plan (slice_index_or queries i 0)) i) ∙ same)))
]

-- ---- counts

fed_more : (fed a b : ℕ) → fed_after (fed_after fed a) b ≡ fed_after fed (a + b)
fed_more fed a zero = let e : a ≡ a + 0 = omega arith in ap (fed_after fed) e
fed_more fed zero (suc b) = let e : suc b ≡ 0 + suc b = omega arith in ap (fed_after fed) e
fed_more fed (suc a) (suc b) =
    let next : suc a + suc b ≡ suc (a + suc b) = omega arith in
    let capped : min (min (fed + suc a) (2 ^ 64 - 1) + suc b) (2 ^ 64 - 1) ≡ min (fed + suc (a + suc b)) (2 ^ 64 - 1) = omega arith in
    capped ∙ ap (fed_after fed) (sym next)

-- a worker has only one count of partitions
one_count : (workers w partitions count other : ℕ) → IsCount workers w partitions count → IsCount workers w partitions other → count ≡ other
one_count workers w partitions count other all more = elim (cases_lt count other) [
  | inl low ↦ let no = all.covers count (more.within count low) in absurd (omega (arith, no))
  | inr high ↦ elim (cases_lt other count) [
    | inl less ↦ let no = more.covers other (all.within other less) in absurd (omega (arith, no))
    | inr same ↦ omega (arith, high, same)
  ]
]

-- and it has one
rises : (workers w j k : ℕ) → 0 < workers → j < k → part_at workers w j < part_at workers w k
rises workers w j k some below = let less : j * workers < k * workers = mul-lt-mul_of_pos_right below some in omega (arith, less)

a_count : (workers w partitions : ℕ) → 0 < workers → (count : ℕ) × IsCount workers w partitions count
a_count workers w zero some = (0, record { within = λ k below. absurd (omega (arith, below)); covers = λ k below. absurd (omega (arith, below)) })
a_count workers w (suc partitions) some =
    let before = a_count workers w partitions some in
    let count = before.0 in
    let is = before.1 in
    elim (cases_eq (part_at workers w count) partitions) [
      | inl here ↦ (
        suc count,
        record {
          within = λ k below. elim (cases_lt k count) [
            | inl low ↦ let inside = is.within k low in omega (arith, inside)
            | inr high ↦ let same : k ≡ count = omega (arith, high, below) in let at = ap (part_at workers w) same in omega (arith, at, here)
          ];
          covers = λ k below. elim (cases_lt k (suc count)) [
            | inl low ↦ low
            | inr high ↦ let more = rises workers w count k some (omega (arith, high)) in absurd (omega (arith, more, here, below))
          ];
        },
      )
      | inr apart ↦ (
        count,
        record {
          within = λ k below. let inside = is.within k below in omega (arith, inside);
          covers = λ k below. elim (cases_lt k count) [
            | inl low ↦ low
            | inr high ↦ elim (cases_eq k count) [
              | inl same ↦
                  let at = ap (part_at workers w) same in
                  let no = is.covers count (omega (arith, at, apart, below)) in
                  absurd (omega (arith, no))
              | inr other ↦
                  let more = rises workers w count k some (omega (arith, high, other)) in
                  let no = is.covers count (omega (arith, more, below)) in
                  absurd (omega (arith, no))
            ]
          ];
        },
      )
    ]

-- ---- pass by pass

-- how many rows of a dataset the first of a worker's partitions have
abbrev pub rows_of : Plan → (ℕ → List Fields) → ℕ → ℕ → ℕ → ℕ → ℕ
rows_of plan rows workers worker count dataset =
    rows_in (λ part. derived (chain_in plan) dataset (rows part)) workers worker count

-- how often the consumer at a place is fed by the first passes of a plan, over datasets of so many rows each
abbrev pub fed_to : Plan → (ℕ → ℕ) → ℕ → ℕ → ℕ
fed_to plan rows passes place =
    sum_by (λ dataset. if is_used (kept_at plan) (queries_over (datasets_in plan) dataset) place then rows dataset else 0)
    (take passes (pass_datasets (datasets_in plan)))

-- the consumers of a worker were fed the rows of its partitions by the first passes
abbrev pub FeedsUpTo : List State → List State → Plan → ℕ → (ℕ → List Fields) → ℕ → ℕ → ℕ → Type 0
FeedsUpTo states states' plan partitions rows workers worker passes =
    (count : ℕ) → IsCount workers worker partitions count
    → AreFedBy states states' (fed_to plan (rows_of plan rows workers worker count) passes)

rows_alike : (pass : PassView) (workers w : ℕ) (rows : ℕ → List Fields) (k : ℕ) → rows_to pass workers w rows k ≡ rows_in (λ part. derived (chain_in pass.plan) pass.dataset (rows part)) workers w k
unfolding rows_to rows_in
rows_alike pass workers w rows zero = refl
rows_alike pass workers w rows (suc k) = ap (λ (n : ℕ). n + length (derived (chain_in pass.plan) pass.dataset (rows (part_at workers w k)))) (rows_alike pass workers w rows k)

-- before the first pass none was fed
pub feeds_none : (states : List State) (plan : Plan) (partitions : ℕ) (rows : ℕ → List Fields) (workers w : ℕ) → FeedsUpTo states states plan partitions rows workers w 0
feeds_none states plan partitions rows workers w count all place = refl

-- one pass more
pub feeds_more : (states mids states' : List State) (files : Option Files) (plan : Plan) (parts : List Run) (part_rows first : ℕ) (given : RowsByName) (rows : ℕ → List Fields) (workers w k : ℕ) → HasPasses plan → k < length (passes_in plan)
    → FeedsUpTo states mids plan (length parts) rows workers w k
    → FeedsParts mids states' files given (pass_with plan (slice_index_or (passes_in plan) k 0) (slice_index_or (queries_in plan) k []) parts part_rows first) workers w
    → HoldsOwn files given (pass_with plan (slice_index_or (passes_in plan) k 0) (slice_index_or (queries_in plan) k []) parts part_rows first) workers w rows
    → FeedsUpTo states states' plan (length parts) rows workers w (k + 1)
feeds_more states mids states' files plan parts part_rows first given rows workers w k has below before feeds holds count all place =
    let datasets = datasets_in plan in
    let dataset = slice_index_or (passes_in plan) k 0 in
    let queries = slice_index_or (queries_in plan) k [] in
    let many = rows_of plan rows workers w count in
    let weight : ℕ → ℕ = λ dataset. if is_used (kept_at plan) (queries_over datasets dataset) place then many dataset else 0 in
    let same : feeds.tasks ≡ count = one_count workers w (length parts) feeds.tasks count feeds.all all in
    let fed : feeds.count ≡ many dataset = feeds.known rows holds ∙ rows_alike (pass_with plan dataset queries parts part_rows first) workers w rows feeds.tasks
    ∙ ap (λ (n : ℕ). rows_of plan rows workers w n dataset) same in
    let here : (if is_used (kept_at plan) queries place then feeds.count else 0) ≡ weight dataset =
    ap (λ (n : ℕ). if is_used (kept_at plan) queries place then n else 0) fed
    ∙ ap (λ (list : List ℕ). if is_used (kept_at plan) list place then many dataset else 0) (queries_are plan k has below) in
    let within : k < length (pass_datasets datasets) = subst (λ (list : List ℕ). k < length list) has.passes below in
    let sum : fed_to plan many (k + 1) place ≡ fed_to plan many k place + weight dataset =
    sum_by_more weight (pass_datasets datasets) k 0 within ∙ ap (λ (list : List ℕ). fed_to plan many k place + weight (slice_index_or list k 0)) (sym has.passes) in
    let start = (state_at states place).fed in
    feeds_place plan queries mids states' feeds.count place feeds.feeds
    ∙ ap (λ (n : ℕ). fed_after n (if is_used (kept_at plan) queries place then feeds.count else 0)) (before count all place)
    ∙ ap (λ (n : ℕ). fed_after (fed_after start (fed_to plan many k place)) n) here
    ∙ fed_more start (fed_to plan many k place) (weight dataset)
    ∙ ap (fed_after start) (sym sum)

-- all passes
pub feeds_all : (states states' : List State) (plan : Plan) (partitions : ℕ) (rows : ℕ → List Fields) (workers w : ℕ) → 0 < workers → HasPasses plan
    → FeedsUpTo states states' plan partitions rows workers w (length (passes_in plan)) → FeedsPlan states states' plan partitions rows workers w
feeds_all states states' plan partitions rows workers w some has upto =
    let found = a_count workers w partitions some in
    let many = rows_of plan rows workers w found.0 in
    let datasets = pass_datasets (datasets_in plan) in
    let whole : take (length (passes_in plan)) datasets ≡ datasets = take_all (length (passes_in plan)) datasets (let size = ap length has.passes in omega (arith, size)) in
    record {
      count = found.0;
      all = found.1;
      feeds = λ place.
          upto found.0 found.1 place
          ∙ ap (λ (list : List ℕ). fed_after (state_at states place).fed (sum_by (λ dataset. if is_used (kept_at plan) (queries_over (datasets_in plan) dataset) place then many dataset else 0) list)) whole;
    }
