-- How often consumers are fed by a plan is how often they are by its job.
use Rattle.std.proofs.Common.{◌≡◌, ◌∙◌, ◌+◌, ◌*◌, ◌∷◌, [], ℕ, zero, suc, Bool, true, false, cond, List, length, take, drop, refl, sym, ap, subst, arith}
use Rattle.std.specs.Prelude.{◌==◌, slice_index_or, sum_by, if◌then◌else◌}
use Rattle.std.specs.List.{filter, list_any, range_with_len}
use Rattle.std.proofs.Math.ListN as lists
use Rattle.std.proofs.lemmas.List.{drop-map, length-map, take-map}
use Rattle.std.proofs.lemmas.List.Sums.{sum_by-cons}
use Rattle.consumer_trait.specs.Members.{state_at}
use Rattle.consumer_trait.specs.States.{State}
use Rattle.job_answer.specs.Derived.{derived as derived_of, derived_each, is_in}
use Rattle.job_answer.specs.Laws.{query_at}
use Rattle.job_answer.specs.Numbered.{Numbered, landed_each, numbered, rows_in as plain_rows}
use Rattle.job_answer.specs.Planned.{PlansDeriveRows}
use Rattle.job_answer.proofs.NumberedRows.{landed-numbered}
use Rattle.job_plan.specs.Columns.{Fields, over_kept}
use Rattle.job_plan.specs.Passes.{pass_datasets, queries_over}
use Rattle.job_plan.specs.Plans.{IsPlanOf, chain_in, datasets_in, datasets_of, kept_at, no_shape, places_in}
use Rattle.job_plan.specs.Rows.{landed_row, landed_rows}
use Rattle.job_plan.specs.declared.query_plan.Plan.{Plan}
use Rattle.job_text.specs.Jobs.{IsJob}
use Rattle.job_text.specs.declared.job.Job.{Job}
use Rattle.job_text.specs.declared.job.Query.{Query}
use Rattle.job_text.specs.declared.job.Shape.{Shape}
use Rattle.job_text.specs.declared.job.Shape.TheVariants.{Group, Order}
use Rattle.landing.specs.Landed.{partition_count, partition_of}
use Rattle.row_filter.specs.Derived.{derived}
use Rattle.task_runner.specs.Consumers.{fed_after}
use Rattle.task_runner.specs.Workers.{IsCount, part_at}
use Rattle.csv_program.specs.Feeds.{FeedsJob, FeedsPlan, fed_by, is_used, place_of_shape, rows_in}
use Rattle.csv_program.proofs.Judged.{length-landed}

-- ---- the rows of a dataset

-- a filter over rows with their numbers leaves as many as one over the rows alone
filter_plain : (keeps : Fields → Bool) (input : List Numbered) → length (filter (λ row. keeps row.1) input) ≡ length (filter keeps (plain_rows input))
filter_plain keeps [] = refl
filter_plain keeps (row ∷ input) = by_test row row.1 (filter (λ row. keeps row.1) input) (filter keeps (plain_rows input)) (keeps row.1) (filter_plain keeps input)
  where
    by_test : {X Y : Type 0} (x : X) (y : Y) (xs : List X) (ys : List Y) (b : Bool) → length xs ≡ length ys → length (cond b (x ∷ xs) xs) ≡ length (cond b (y ∷ ys) ys)
    by_test x y xs ys true same = ap suc same
    by_test x y xs ys false same = same

plain_numbered : (n : ℕ) (rows : List Fields) → plain_rows (numbered n rows) ≡ rows
plain_numbered n [] = refl
plain_numbered n (row ∷ rows) = ap (λ (rest : List Fields). row ∷ rest) (plain_numbered (n + 1) rows)

-- the landed rows of a partition
landed_part : (places : List ℕ) (part_rows part : ℕ) (rows : List Fields)
    → partition_of part_rows part (landed_rows places 1 rows) ≡ landed_each places (take part_rows (drop (part * part_rows) (numbered 1 rows)))
landed_part places part_rows part rows =
    ap (λ (list : List Fields). take part_rows (drop (part * part_rows) list)) (sym (landed-numbered places 1 rows))
    ∙ ap (take part_rows) (drop-map (λ (row : Numbered). landed_row places row.0 row.1) (part * part_rows) (numbered 1 rows))
    ∙ take-map (λ (row : Numbered). landed_row places row.0 row.1) part_rows (drop (part * part_rows) (numbered 1 rows))

plain_part : (part_rows part : ℕ) (rows : List Fields) → plain_rows (take part_rows (drop (part * part_rows) (numbered 1 rows))) ≡ partition_of part_rows part rows
plain_part part_rows part rows =
    sym (take-map (λ (row : Numbered). row.1) part_rows (drop (part * part_rows) (numbered 1 rows)))
    ∙ ap (take part_rows) (sym (drop-map (λ (row : Numbered). row.1) (part * part_rows) (numbered 1 rows)))
    ∙ ap (λ (list : List Fields). take part_rows (drop (part * part_rows) list)) (plain_numbered 1 rows)

-- as many landed rows of a partition are in a dataset by the plan as rows are by the job
same_rows : (job : Job) (header : Fields) (plan : Plan) (part_rows part dataset : ℕ) (rows : List Fields) → PlansDeriveRows → IsJob job → IsPlanOf job header plan
    → length (derived (chain_in plan) dataset (partition_of part_rows part (landed_rows (places_in plan) 1 rows))) ≡ length (derived_of job header dataset (partition_of part_rows part rows))
same_rows job header plan part_rows part dataset rows law whole made =
    let input : List Numbered = take part_rows (drop (part * part_rows) (numbered 1 rows)) in
    ap (λ (list : List Fields). length (derived (chain_in plan) dataset list)) (landed_part (places_in plan) part_rows part rows)
    ∙ ap (λ (list : List Fields). length list) (sym (law job header plan dataset input whole made))
    ∙ length-map (derived_each job header dataset input) (λ (row : Numbered). landed_row (places_in plan) row.0 row.1)
    ∙ filter_plain (is_in job header dataset) input ∙ ap (λ (list : List Fields). length (derived_of job header dataset list)) (plain_part part_rows part rows)

-- the same of the first of a worker's partitions together
same_all : (some other : ℕ → List Fields) (workers worker k : ℕ) → ((part : ℕ) → length (some part) ≡ length (other part)) → rows_in some workers worker k ≡ rows_in other workers worker k
unfolding rows_in
same_all some other workers worker zero each = refl
same_all some other workers worker (suc k) each =
    let before = same_all some other workers worker k each in
    let here = each (part_at workers worker k) in
    omega (arith, before, here)

-- ---- the consumers

place_kept : (job : Job) (header : Fields) (shape : Shape) (i : ℕ) → place_of_shape (over_kept job header shape) i ≡ place_of_shape shape i
place_kept job header (Group columns parts) i = refl
place_kept job header (Order keys columns) i = refl

-- what stands for a query that isn't there
abbrev no_query : Query
no_query = record { dataset = 0; shape = no_shape }

-- the consumer of a query is that of its shape in the job
place_is : (job : Job) (header : Fields) (plan : Plan) (query i : ℕ) → IsPlanOf job header plan → place_of_shape (kept_at plan query) i ≡ place_of_shape (query_at job query).shape i
place_is job header plan query i made =
    ap (λ (shapes : List Shape). place_of_shape (slice_index_or shapes query no_shape) i) made.over
    ∙ ap (λ (shape : Shape). place_of_shape shape i) (lists.get_or-map (λ (query : Query). over_kept job header query.shape) job.queries query no_query)
    ∙ place_kept job header (query_at job query).shape i

any_same : (p q : ℕ → Bool) (xs : List ℕ) → ((x : ℕ) → p x ≡ q x) → list_any p xs ≡ list_any q xs
any_same p q [] each = refl
any_same p q (x ∷ xs) each = rw (each x, any_same p q xs each) refl

sum_same : (f g : ℕ → ℕ) (xs : List ℕ) → ((x : ℕ) → f x ≡ g x) → sum_by f xs ≡ sum_by g xs
sum_same f g [] each = refl
sum_same f g (x ∷ xs) each = sum_by-cons f x xs ∙ ap (λ (n : ℕ). n + sum_by f xs) (each x) ∙ ap (λ (n : ℕ). g x + n) (sum_same f g xs each) ∙ sym (sum_by-cons g x xs)

used_same : (job : Job) (header : Fields) (plan : Plan) (queries : List ℕ) (place : ℕ) → IsPlanOf job header plan → is_used (kept_at plan) queries place ≡ is_used (λ query. (query_at job query).shape) queries place
used_same job header plan queries place made =
    any_same (λ i. place_of_shape (kept_at plan (slice_index_or queries i 0)) i == place) (λ i. place_of_shape (query_at job (slice_index_or queries i 0)).shape i == place) (range_with_len 0 (length queries))
    (λ i. ap (λ (p : ℕ). p == place) (place_is job header plan (slice_index_or queries i 0) i made))

-- a consumer is fed as often
pub fed_same : (job : Job) (header : Fields) (plan : Plan) (part_rows workers worker count place : ℕ) (rows : List Fields) → PlansDeriveRows → IsJob job → IsPlanOf job header plan
    → fed_by (kept_at plan) (datasets_in plan) (λ dataset. rows_in (λ part. derived (chain_in plan) dataset (partition_of part_rows part (landed_rows (places_in plan) 1 rows))) workers worker count) place
    ≡ fed_by (λ query. (query_at job query).shape) (datasets_of job) (λ dataset. rows_in (λ part. derived_of job header dataset (partition_of part_rows part rows)) workers worker count) place
fed_same job header plan part_rows workers worker count place rows law whole made =
    let by_plan : ℕ → ℕ = λ dataset. rows_in (λ part. derived (chain_in plan) dataset (partition_of part_rows part (landed_rows (places_in plan) 1 rows))) workers worker count in
    let by_job : ℕ → ℕ = λ dataset. rows_in (λ part. derived_of job header dataset (partition_of part_rows part rows)) workers worker count in
    ap (λ (datasets : List ℕ). fed_by (kept_at plan) datasets by_plan place) made.datasets
    ∙ sum_same (λ dataset. if is_used (kept_at plan) (queries_over (datasets_of job) dataset) place then by_plan dataset else 0)
    (λ dataset. if is_used (λ query. (query_at job query).shape) (queries_over (datasets_of job) dataset) place then by_job dataset else 0) (pass_datasets (datasets_of job))
    (λ dataset.
    ap (λ (used : Bool). if used then by_plan dataset else 0) (used_same job header plan (queries_over (datasets_of job) dataset) place made)
    ∙ ap (λ (n : ℕ). if is_used (λ query. (query_at job query).shape) (queries_over (datasets_of job) dataset) place then n else 0)
    (same_all _ _ workers worker count (λ part. same_rows job header plan part_rows part dataset rows law whole made)))

-- what is fed by a plan over landed rows is fed by its job over the input's
pub feeds_job : (states states' : List State) (job : Job) (header : Fields) (plan : Plan) (part_rows partitions workers worker : ℕ) (landed rows : List Fields) → PlansDeriveRows → IsJob job → IsPlanOf job header plan
    → landed ≡ landed_rows (places_in plan) 1 rows → partitions ≡ partition_count (length landed) part_rows
    → FeedsPlan states states' plan partitions (λ part. partition_of part_rows part landed) workers worker → FeedsJob states states' job header part_rows rows workers worker
feeds_job states states' job header plan part_rows partitions workers worker landed rows law whole made are count feeds =
    let same : partitions ≡ partition_count (length rows) part_rows = count ∙ ap (λ (n : ℕ). partition_count n part_rows) (ap (λ (list : List Fields). length list) are ∙ length-landed (places_in plan) 1 rows) in
    record {
      count = feeds.count;
      all = subst (λ (n : ℕ). IsCount workers worker n feeds.count) same feeds.all;
      feeds = λ place.
          feeds.feeds place
          ∙ ap (λ (n : ℕ). fed_after (state_at states place).fed n)
          (ap (λ (list : List Fields). fed_by (kept_at plan) (datasets_in plan) (λ dataset. rows_in (λ part. derived (chain_in plan) dataset (partition_of part_rows part list)) workers worker feeds.count) place) are
          ∙ fed_same job header plan part_rows workers worker feeds.count place rows law whole made);
    }
