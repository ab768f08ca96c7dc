-- What the tasks of a landed input come to, and that it can be told.
use Rattle.std.proofs.Common.{◌*◌, ◌%◌, ◌≤◌, ◌<◌, ◌∷◌, [], ℕ, zero, suc, List, Option, length, map, take, drop, arith}
use Rattle.std.specs.Prelude.{All, Bool, true, false, cond, slice_index_or}
use Rattle.std.specs.List.{AllByRecursion, filter, list_all}
use Rattle.std.proofs.Props.{props}
use Rattle.std.proofs.Math.Logic.{∥∥₁_elim}
use Rattle.std.proofs.Math.Nat.{mod-lt}
use Rattle.std.proofs.lemmas.List.{length-map}
use Rattle.spill_disk.specs.Files.{Files}
use Rattle.row_form.specs.Forms.{HasForm}
use Rattle.run_file.specs.declared.run.Run.{Run}
use Rattle.job_text.specs.Jobs.{IsShape}
use Rattle.job_text.specs.declared.job.Shape.{Shape}
use Rattle.job_text.specs.declared.job.Shape.TheVariants.{Group, Order}
use Rattle.job_answer.specs.OneShape.{IsShort}
use Rattle.job_answer.specs.Told.{IsShortShape, ShortShapesAreTold}
use Rattle.job_plan.specs.Columns.{Fields}
use Rattle.job_plan.specs.Planning.{IsPlanned}
use Rattle.job_plan.specs.Plans.{chain_in, form_in, kept_at, kept_in, no_shape}
use Rattle.job_plan.specs.declared.planned.Planned.{Planned}
use Rattle.job_plan.specs.declared.query_plan.Plan.{Plan}
use Rattle.memory_core.specs.Caches.{RowsByName}
use Rattle.landing.specs.Landed.{AreChecked, partition_of}
use Rattle.row_filter.specs.Chains.{links_of}
use Rattle.row_filter.specs.Derived.{derived, passes_own}
use Rattle.row_filter.specs.Lines.{line}
use Rattle.job_ending.specs.Endings.{CanBeTold, totals_of}
use Rattle.csv_program.specs.Basis.{StandAs}
use Rattle.job_ending.specs.Endings.{dataset_in}
use Rattle.csv_program.specs.QueryResults.{HoldsParts}
use Rattle.job_ending.specs.declared.call.RunCall.{RunCall}
use Rattle.csv_program.proofs.Pieces.{each_narrow}

-- how many columns an order tells
told_columns : Shape → ℕ
told_columns (Group columns parts) = 0
told_columns (Order keys columns) = length columns

few_in : (names : ℕ) (shape : Shape) → IsShape names shape → told_columns shape ≤ 8
unfolding told_columns
few_in names (Group columns parts) is = omega arith
few_in names (Order keys columns) is = is.1.short.few

few_at : (columns : ℕ) (queries : List Planned) (query : ℕ) → All (IsPlanned columns) queries → query < length queries → told_columns (slice_index_or (map (λ planned. planned.kept) queries) query no_shape) ≤ 8
few_at columns [] query all within = absurd (omega (arith, within))
few_at columns (first ∷ queries) zero all within = few_in columns first.kept (all 0 first (omega arith)).shape
few_at columns (first ∷ queries) (suc query) all within = few_at columns queries query (λ k any below. all (suc k) any (omega (arith, below))) (omega (arith, within))

short_in : (shape : Shape) → told_columns shape ≤ 8 → IsShortShape shape
unfolding told_columns
short_in (Group columns parts) few = _
short_in (Order keys columns) few = few

-- each query of a plan is of a short shape
short_plan : (plan : Plan) (query : ℕ) → query < length (kept_in plan) → IsShortShape (kept_at plan query)
short_plan plan query below =
    let within : query < length plan.queries.items = omega (arith, below, length-map plan.queries.items (λ (planned : Planned). planned.kept)) in
    short_in (kept_at plan query) (∥∥₁_elim plan.planned (hlevel props) (λ h. few_at _ plan.queries.items query h.each within))

all_filter : {X : Type 0} (P : X → Type 0) (keeps : X → Bool) (xs : List X) → AllByRecursion P xs → AllByRecursion P (filter keeps xs)
all_filter P keeps [] all = tt
all_filter P keeps (x ∷ xs) all = by_test P x (filter keeps xs) (keeps x) all.0 (all_filter P keeps xs all.1)
  where
    by_test : {Y : Type 0} (Q : Y → Type 0) (y : Y) (rest : List Y) (b : Bool) → Q y → AllByRecursion Q rest → AllByRecursion Q (cond b (y ∷ rest) rest)
    by_test Q y rest true first more = (first, more)
    by_test Q y rest false first more = more

-- so what the entries of checked rows come to can be told, where none of it is too wide
pub told_plan : (plan : Plan) (rows : List Fields) → ShortShapesAreTold → AreChecked (form_in plan) rows → CanBeTold plan (totals_of plan rows)
told_plan plan rows law checked narrow query below =
    let chain = chain_in plan in
    let is_in : Fields → Bool = λ row. list_all (passes_own chain row) (line (links_of chain) (dataset_in plan query)) in
    law (kept_at plan query) (derived chain (dataset_in plan query) rows) (short_plan plan query below)
    (all_filter IsShort is_in rows checked.short) (each_narrow plan (totals_of plan rows) narrow query below)

-- ---- the rows of partitions

pub all_drop : {X : Type 0} (P : X → Type 0) (n : ℕ) (xs : List X) → AllByRecursion P xs → AllByRecursion P (drop n xs)
all_drop P zero xs all = all
all_drop P (suc n) [] all = tt
all_drop P (suc n) (x ∷ xs) all = all_drop P n xs all.1

pub all_take : {X : Type 0} (P : X → Type 0) (n : ℕ) (xs : List X) → AllByRecursion P xs → AllByRecursion P (take n xs)
all_take P zero xs all = tt
all_take P (suc n) [] all = tt
all_take P (suc n) (x ∷ xs) all = (all.0, all_take P n xs all.1)

pub holds_parts : (given : RowsByName) (files : ℕ → Option Files) (asked : RunCall) (plan : Plan) (parts : List Run) (rows : List Fields) → 1 ≤ asked.pool.workers → StandAs given files asked plan parts rows
    → HoldsParts files given plan parts asked.part_rows asked.pool.workers (λ part. partition_of asked.part_rows part rows)
holds_parts given files asked plan parts rows some stand part below = (
  record {
    stands = stand.landed.stand part below (stand.tell (part % asked.pool.workers) (mod-lt part some));
    formed = all_take (HasForm (form_in plan)) asked.part_rows (drop (part * asked.part_rows) rows) (all_drop (HasForm (form_in plan)) (part * asked.part_rows) rows stand.checked.formed);
  },
  stand.says part below,
)
