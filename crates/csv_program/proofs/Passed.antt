-- One pass more of a plan: what its call asks for, and what it adds.
use Rattle.std.proofs.Common.{◌≡◌, ◌∙◌, ℕ, ◌+◌, ◌*◌, ◌<◌, ◌≤◌, List, [], Option, Err, length, refl, sym, ap, subst, arith}
use Rattle.std.specs.Prelude.{All, IfSome, slice_index_or}
use Rattle.std.proofs.Math.Logic.{∥∥₁_elim}
use Rattle.std.proofs.Math.Nat.{mul-le-mul_right}
use Rattle.std.proofs.Props.{props}
use Rattle.std.proofs.lemmas.List.{length-map}
use Rattle.spill_disk.specs.Files.{Files}
use Rattle.row_form.specs.declared.form.Form.{Form}
use Rattle.row_form.specs.declared.form.Form.TheVariants.{Entries, Landed}
use Rattle.run_file.specs.declared.run.Run.{Run}
use Rattle.consumer_trait.specs.States.{State}
use Rattle.row_filter.specs.Chains.{base_of, links_of}
use Rattle.row_filter.specs.Rows.{HasTestedColumns}
use Rattle.row_filter.specs.declared.chain.Link.{Link}
use Rattle.job_plan.specs.Columns.{Fields}
use Rattle.job_plan.specs.Planning.{FitsChain, FitsQueries}
use Rattle.row_form.specs.Forms.{columns_of}
use Rattle.lineage.specs.LineageViews.{IsLineage}
use Rattle.job_plan.specs.Plans.{chain_in, first_task_of, form_in, kept_in, passes_in, queries_in, task_of}
use Rattle.job_plan.specs.declared.query_plan.Plan.{Plan}
use Rattle.memory_core.specs.Caches.{RowsByName}
use Rattle.task_runner.specs.Pass.{FeedsParts}
use Rattle.run_file.specs.Several.{KeepsAll}
use Rattle.task_runner.specs.PassViews.{PassView, pass_with}
use Rattle.task_runner.specs.Queries.{IsPass}
use Rattle.task_runner.specs.Workers.{IfSound}
use Rattle.task_runner.specs.declared.work_fault.WorkFault.{WorkFault}
use Rattle.task_runner.specs.declared.work_fault.WorkFault.TheVariants.{NoRoom, DiskFault, Damaged, NoMemory}
use Rattle.csv_program.specs.Passing.{ArePut, HavePass}
use Rattle.csv_program.specs.QueryResults.{HasPasses, HoldsParts, lineage_in, totals_of_parts}
use Rattle.csv_program.proofs.FedByPasses.{FeedsUpTo, feeds_more}
use Rattle.csv_program.proofs.Gathered.{HaveUpTo, have_more, own_of_parts}
use Rattle.csv_program.proofs.Served.{few_in_pass}

-- ---- the numbers of tasks

-- the first task of a pass stands behind those of the passes before it
pub first_is : (plan : Plan) (partitions k first : ℕ) → first_task_of plan ≡ 0 → first ≡ first_task_of plan + task_of partitions k 0 → first ≡ k * (partitions + 1)
first_is plan partitions k first zero is = omega (arith, zero, is)

-- and the first of the next pass behind its own
pub next_is : (partitions k first : ℕ) → first ≡ k * (partitions + 1) → first + partitions + 1 ≡ (k + 1) * (partitions + 1)
next_is partitions k first is = omega (arith, is)

pub next_least : (partitions k passes first : ℕ) → first ≡ k * (partitions + 1) → k < passes → first + partitions + 1 ≤ passes * (partitions + 1)
next_least partitions k passes first is below =
    let most = mul-le-mul_right (partitions + 1) below in
    let next = next_is partitions k first is in
    omega (arith, most, next)

-- ---- the pass

few_queries : (plan : Plan) → length (kept_in plan) ≤ 8
few_queries plan =
    let few : length plan.queries.items ≤ 8 = ∥∥₁_elim plan.planned (hlevel props) (λ known. known.few) in
    let size = length-map plan.queries.items (λ planned. planned.kept) in
    omega (arith, few, size)

-- a plan's datasets over landed partitions
pub lineage_is : (plan : Plan) (parts : List Run) (part_rows : ℕ) → FitsChain (form_in plan) (links_of (chain_in plan)) → base_of (chain_in plan) ≡ 0 → IsLineage (lineage_in plan parts part_rows)
lineage_is plan parts part_rows chain based = record {
  landed = chain.landed;
  ordered = chain.ordered;
  covered = chain.covered;
  named = let least = chain.few in omega (arith, least, based);
}

pub is_pass : (plan : Plan) (k dataset : ℕ) (queries : List ℕ) (parts : List Run) (part_rows first : ℕ) → HasPasses plan → k < length (passes_in plan) → length (passes_in plan) ≤ 8 → dataset ≤ length (links_of (chain_in plan))
    → queries ≡ slice_index_or (queries_in plan) k [] → FitsQueries (length (kept_in plan)) queries → first ≡ k * (length parts + 1) → length parts ≤ 10000000
    → All (λ run. run.greatest ≤ 36 + 4 * columns_of (form_in plan) + 65536) parts → FitsChain (form_in plan) (links_of (chain_in plan)) → IsPass (pass_with plan dataset queries parts part_rows first)
is_pass plan k dataset queries parts part_rows first has below most there are fit is few short chain =
    let size = ap length are in
    let part = few_in_pass plan k has below in
    let all = few_queries plan in
    let low : k ≤ 7 = omega (arith, below, most) in
    let tasks = mul-le-mul_right (length parts + 1) low in
    record {
      there = there;
      queries = record {
        some = fit.some;
        few = omega (arith, size, part, all);
        known = λ i inside. fit.named i 0 inside;
      };
      few = few;
      numbered = omega (arith, is, tasks, few);
      lineage = lineage_is plan parts part_rows chain has.based;
      short = short;
    }

-- the pass is that of its number
pub pass_is : (plan : Plan) (k dataset : ℕ) (queries : List ℕ) (parts : List Run) (part_rows first : ℕ) → dataset ≡ slice_index_or (passes_in plan) k 0 → queries ≡ slice_index_or (queries_in plan) k []
    → pass_with plan dataset queries parts part_rows first ≡ pass_with plan (slice_index_or (passes_in plan) k 0) (slice_index_or (queries_in plan) k []) parts part_rows first
pass_is plan k dataset queries parts part_rows first is are =
    ap (λ (d : ℕ). pass_with plan d queries parts part_rows first) is ∙ ap (λ (q : List ℕ). pass_with plan (slice_index_or (passes_in plan) k 0) q parts part_rows first) are

-- ---- what it adds

-- the consumers were fed by one pass more
pub feeds_step : (states mids states' : List State) (files : ℕ → Option Files) (plan : Plan) (k dataset : ℕ) (queries : List ℕ) (parts : List Run) (part_rows first : ℕ) (given : RowsByName) (workers w : ℕ) (rows : ℕ → List Fields) → HasPasses plan → k < length (passes_in plan)
    → dataset ≡ slice_index_or (passes_in plan) k 0 → queries ≡ slice_index_or (queries_in plan) k [] → w < workers → HoldsParts files given plan parts part_rows workers rows
    → FeedsUpTo states mids plan (length parts) rows workers w k → FeedsParts mids states' (files w) given (pass_with plan dataset queries parts part_rows first) workers w → FeedsUpTo states states' plan (length parts) rows workers w (k + 1)
feeds_step states mids states' files plan k dataset queries parts part_rows first given workers w rows has below is are known holds before feeds =
    let pass = pass_with plan (slice_index_or (passes_in plan) k 0) (slice_index_or (queries_in plan) k []) parts part_rows first in
    feeds_more states mids states' (files w) plan parts part_rows first given rows workers w k has below before
    (subst (λ (pass : PassView). FeedsParts mids states' (files w) given pass workers w) (pass_is plan k dataset queries parts part_rows first is are) feeds)
    (own_of_parts files given pass workers w rows known holds)

-- and the queries of one pass more were answered
pub have_step : (before after : ℕ → Option Files) (plan : Plan) (k dataset : ℕ) (queries : List ℕ) (parts : List Run) (part_rows first : ℕ) (rows : ℕ → List Fields) (found old new : List (Option Run)) → HasPasses plan → k < length (passes_in plan)
    → dataset ≡ slice_index_or (passes_in plan) k 0 → queries ≡ slice_index_or (queries_in plan) k [] → KeepsAll before after → HavePass after (pass_with plan dataset queries parts part_rows first) rows found → ArePut queries found old new (length queries)
    → HaveUpTo before plan (totals_of_parts plan (length parts) rows) k old → HaveUpTo after plan (totals_of_parts plan (length parts) rows) (k + 1) new
have_step before after plan k dataset queries parts part_rows first rows found old new has below is are kept have put sofar =
    have_more plan k parts part_rows first rows has below before after found old new kept
    (subst (λ (pass : PassView). HavePass after pass rows found) (pass_is plan k dataset queries parts part_rows first is are) have)
    (subst (λ (q : List ℕ). ArePut q found old new (length q)) are put) sofar

-- ---- a pass that gave up

-- the soundness of a fault says nothing of answers
pub sound_fault : {T U : Type 0} (says : T → Type 0) (tells : U → Type 0) (fault : WorkFault) → IfSound says (Err fault) → IfSound tells (Err fault)
sound_fault says tells (NoRoom asked held floor) sound = tt
sound_fault says tells (DiskFault post) sound = tt
sound_fault says tells (Damaged damage) sound = sound
sound_fault says tells NoMemory sound = tt
