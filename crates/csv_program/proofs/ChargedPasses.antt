-- What the tasks of a run were charged, worker by worker and pass by pass.
use Rattle.std.proofs.Common.{◌≡◌, ◌∙◌, ℕ, ◌+◌, ◌*◌, ◌<◌, ◌≤◌, ◌%◌, ◌/◌, List, Option, length, get_or, sym, ap, subst, inl, inr, arith}
use Rattle.std.proofs.Math.Nat.{mod-lt}
use Rattle.std.proofs.lemmas.Bool.{cases_lt}
use Rattle.pool_ledger.specs.Journal.{history_of}
use Rattle.pool_ledger.specs.Workers.{entries_of}
use Rattle.pool_ledger.specs.declared.entry.Entry.{Entry}
use Rattle.run_file.specs.declared.run.Run.{Run}
use Rattle.spill_disk.specs.Files.{Files}
use Rattle.turn_lock.specs.Passes.{LockId, WorkerView}
use Rattle.consumer_trait.specs.States.{State}
use Rattle.memory_core.specs.Caches.{RowsByName}
use Rattle.memory_lock.specs.Crew.{AreWorkers, HasAll}
use Rattle.job_plan.specs.Columns.{Fields}
use Rattle.job_plan.specs.Plans.{IsPlanOf, chain_in, passes_in, places_in}
use Rattle.job_plan.specs.Rows.{landed_rows}
use Rattle.job_plan.specs.declared.query_plan.Plan.{Plan}
use Rattle.job_text.specs.declared.job.Job.{Job}
use Rattle.landing.specs.Landed.{partition_count, partition_of}
use Rattle.row_filter.specs.Derived.{derived}
use Rattle.task_account.specs.Attempts.{most_held}
use Rattle.task_pool.specs.Workers.{own_of}
use Rattle.task_runner.specs.Charging.{IsChargedFor, IsPartCharged, leasts_in}
use Rattle.task_runner.specs.Consumers.{KeepsConsumers}
use Rattle.task_runner.specs.PassViews.{PassView, parts_of, pass_with, task_for}
use Rattle.task_runner.specs.Queries.{made_in}
use Rattle.task_runner.specs.Workers.{part_at}
use Rattle.task_runner.proofs.Charged.{all_charged_still}
use Rattle.task_runner.proofs.ChargedTasks.{charged_before, most_later, part_later}
use Rattle.task_runner.proofs.OfPartitions.{part_is}
use Rattle.csv_program.specs.Charges.{AreEnough, EachCharges, ChargesJob, ChargesPlan, dataset_at, queries_at}
use Rattle.csv_program.specs.Doing.{EachSees}
use Rattle.csv_program.specs.QueryResults.{HoldsParts}
use Rattle.csv_program.proofs.Followed.{whole_of}
use Rattle.csv_program.proofs.Judged.{length-landed}
use Rattle.csv_program.proofs.Passed.{pass_is}

-- ---- one pass

-- what is known of each place's tasks is known of each partition's
pub charged_by_part : (states : ℕ → List State) (files : ℕ → Option Files) (given : RowsByName) (pass : PassView) (count : ℕ) (workers : List WorkerView) → 1 ≤ count
    → ((place k : ℕ) (any : WorkerView) → place < count → part_at count place k < parts_of pass → IsPartCharged (states place) (files place) given pass (part_at count place k) (own_of (get_or workers place any)))
    → (part : ℕ) (any : WorkerView) → part < parts_of pass → IsPartCharged (states (part % count)) (files (part % count)) given pass part (own_of (get_or workers (part % count) any))
charged_by_part states files given pass count workers some held part any within =
    let is = part_is count part in
    subst (λ (p : ℕ). IsPartCharged (states (part % count)) (files (part % count)) given pass p (own_of (get_or workers (part % count) any))) is
    (held (part % count) (part / count) any (mod-lt part some) (subst (λ (p : ℕ). p < parts_of pass) (sym is) within))

-- and stays so
pub charged_later : (states : ℕ → List State) (files : ℕ → Option Files) (given : RowsByName) (pass : PassView) (count : ℕ) (mids news : List WorkerView) → 1 ≤ count → EachSees count mids news
    → ((part : ℕ) (any : WorkerView) → part < parts_of pass → IsPartCharged (states (part % count)) (files (part % count)) given pass part (own_of (get_or mids (part % count) any)))
    → (part : ℕ) (any : WorkerView) → part < parts_of pass → IsPartCharged (states (part % count)) (files (part % count)) given pass part (own_of (get_or news (part % count) any))
charged_later states files given pass count mids news some sees held part any within =
    part_later (states (part % count)) (files (part % count)) given pass part (get_or mids (part % count) any) (get_or news (part % count) any) (sees (part % count) any (mod-lt part some)) (held part any within)

-- ---- all passes

-- more bytes are enough, too
enough_still : (states : List State) (plan : Plan) (k : ℕ) (rows : List Fields) (bytes bytes' : ℕ) → bytes ≤ bytes' → AreEnough states plan k rows bytes → AreEnough states plan k rows bytes'
enough_still states plan k rows bytes bytes' more enough =
    all_charged_still (leasts_in states plan (queries_at plan k)) bytes bytes' (queries_at plan k) (made_in plan (queries_at plan k) (derived (chain_in plan) (dataset_at plan k) rows)) more enough

pub each_charges_later : (states : ℕ → List State) (plan : Plan) (partitions : ℕ) (rows : ℕ → List Fields) (count passes : ℕ) (mids news : List WorkerView) → 1 ≤ count → EachSees count mids news
    → EachCharges states plan partitions rows count passes mids → EachCharges states plan partitions rows count passes news
each_charges_later states plan partitions rows count passes mids news some sees held pass part any below within =
    let task = part + pass * (partitions + 1) in
    let mid = get_or mids (part % count) any in
    let new = get_or news (part % count) any in
    enough_still (states (part % count)) plan pass (rows part) (most_held (own_of mid) task) (most_held (own_of new) task) (most_later task mid new (sees (part % count) any (mod-lt part some))) (held pass part any below within)

-- one pass more, whose consumers are those of the run's start
pub each_charges_more : (states states' : ℕ → List State) (files : ℕ → Option Files) (given : RowsByName) (plan : Plan) (k dataset : ℕ) (queries : List ℕ) (parts : List Run) (part_rows first : ℕ) (rows : ℕ → List Fields) (count : ℕ) (mids news : List WorkerView)
    → 1 ≤ count → dataset ≡ dataset_at plan k → queries ≡ queries_at plan k → first ≡ k * (length parts + 1) → ((place : ℕ) → KeepsConsumers (states place) (states' place)) → HoldsParts files given plan parts part_rows count rows → EachSees count mids news
    → ((part : ℕ) (any : WorkerView) → part < length parts → IsPartCharged (states' (part % count)) (files (part % count)) given (pass_with plan dataset queries parts part_rows first) part (own_of (get_or news (part % count) any)))
    → EachCharges states plan (length parts) rows count k mids → EachCharges states plan (length parts) rows count (k + 1) news
each_charges_more states states' files given plan k dataset queries parts part_rows first rows count mids news some is are starts kept holds sees held before p part any below within = elim (cases_lt p k) [
  | inl low ↦ each_charges_later states plan (length parts) rows count k mids news some sees before p part any low within
  | inr high ↦
      let here : k ≡ p = omega (arith, high, below) in
      let worker = get_or news (part % count) any in
      let pass = pass_with plan (dataset_at plan k) (queries_at plan k) parts part_rows first in
      let one : IsPartCharged (states' (part % count)) (files (part % count)) given pass part (own_of worker) =
      subst (λ (view : PassView). IsPartCharged (states' (part % count)) (files (part % count)) given view part (own_of worker)) (pass_is plan k dataset queries parts part_rows first is are) (held part any within) in
      let charged : IsChargedFor (states (part % count)) pass (derived (chain_in plan) (dataset_at plan k) (rows part)) (task_for pass part) (own_of worker) =
      charged_before (states (part % count)) (states' (part % count)) pass (derived (chain_in plan) (dataset_at plan k) (rows part)) (task_for pass part) (own_of worker) (kept (part % count)) (one (rows part) (holds part within)) in
      let enough : AreEnough (states (part % count)) plan k (rows part) (most_held (own_of worker) (part + k * (length parts + 1))) =
      subst (λ (t : ℕ). AreEnough (states (part % count)) plan k (rows part) (most_held (own_of worker) (part + t))) starts charged in
      subst (λ (n : ℕ). AreEnough (states (part % count)) plan n (rows part) (most_held (own_of worker) (part + n * (length parts + 1)))) here enough
]

-- and the journal has of each worker the entries that it made
pub journal_charges : (states : ℕ → List State) (plan : Plan) (partitions : ℕ) (rows : ℕ → List Fields) (count : ℕ) (lock : LockId) (workers : List WorkerView) (any : WorkerView) (journal : List Entry) → 1 ≤ count → AreWorkers lock count workers → HasAll workers journal
    → EachCharges states plan partitions rows count (length (passes_in plan)) workers → ChargesPlan states plan partitions rows count journal
journal_charges states plan partitions rows count lock workers any journal some are all held pass part below within =
    let low = mod-lt part some in
    let task = part + pass * (partitions + 1) in
    subst (λ (es : List Entry). AreEnough (states (part % count)) plan pass (rows part) (most_held (history_of es) task))
    (sym (whole_of lock count workers journal are all (part % count) any low)) (held pass part any below within)

-- what is known of a plan over landed rows is known of its job over the input's
pub charges_job : (states states' : ℕ → List State) (job : Job) (header : Fields) (plan : Plan) (part_rows partitions workers : ℕ) (landed rows : List Fields) (journal : List Entry) → ((place : ℕ) → states place ≡ states' place) → IsPlanOf job header plan
    → landed ≡ landed_rows (places_in plan) 1 rows → partitions ≡ partition_count (length landed) part_rows → ChargesPlan states' plan partitions (λ part. partition_of part_rows part landed) workers journal
    → ChargesJob states job header part_rows rows workers journal
charges_job states states' job header plan part_rows partitions workers landed rows journal starts made are count held =
    let same : partitions ≡ partition_count (length rows) part_rows = count ∙ ap (λ (n : ℕ). partition_count n part_rows) (ap (λ (list : List Fields). length list) are ∙ length-landed (places_in plan) 1 rows) in
    record {
      plan = plan;
      planned = made;
      charges = λ pass part below within.
          let most : ℕ → ℕ = λ n. most_held (history_of (entries_of (part % workers) journal)) (part + pass * (n + 1)) in
          let base = held pass part below (subst (λ (n : ℕ). part < n) (sym same) within) in
          subst (λ (s : List State). AreEnough s plan pass (partition_of part_rows part (landed_rows (places_in plan) 1 rows)) (most (partition_count (length rows) part_rows))) (sym (starts (part % workers)))
          (subst (λ (n : ℕ). AreEnough (states' (part % workers)) plan pass (partition_of part_rows part (landed_rows (places_in plan) 1 rows)) (most n)) same
          (subst (λ (list : List Fields). AreEnough (states' (part % workers)) plan pass (partition_of part_rows part list) (most partitions)) are base));
    }
