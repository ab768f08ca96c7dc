-- The answers to the queries of a plan, pass by pass.
use Rattle.std.proofs.Common.{◌≡◌, ◌∙◌, ℕ, ◌+◌, ◌<◌, ◌%◌, List, [], Option, Some, None, length, map, take, sym, ap, subst, inl, inr, arith}
use Rattle.std.specs.Prelude.{All, is_some, slice_index, slice_index_or, unwrap_or}
use Rattle.std.specs.FinMap as stored
use Rattle.std.specs.List.{range_with_len}
use Rattle.std.proofs.lemmas.Bool.{cases_lt}
use Rattle.std.proofs.lemmas.List.{get_or_default}
use Rattle.aggregate.specs.Totals.{Entry, total}
use Rattle.aggregate.specs.declared.kind.Kind.{Kind}
use Rattle.row_page.specs.Grammar.{IsPage}
use Rattle.spill_disk.specs.Files.{Files, bytes_of}
use Rattle.run_file.specs.declared.run.Run.{Run}
use Rattle.run_file.specs.Runs.{Stands}
use Rattle.run_file.specs.Several.{HasEntries, KeepsFile, concatenated, run_at, KeepsAll}
use Rattle.row_filter.specs.Derived.{derived}
use Rattle.job_plan.specs.Columns.{Fields}
use Rattle.job_plan.specs.Entries.{entry_of}
use Rattle.job_plan.specs.Plans.{chain_in, kept_at, kept_in, kind_at, passes_in, queries_in}
use Rattle.job_plan.specs.declared.query_plan.Plan.{Plan}
use Rattle.result_table.specs.Results.{HasResult}
use Rattle.memory_core.specs.Caches.{RowsByName}
use Rattle.lineage.specs.Standing.{IsSaid}
use Rattle.task_runner.specs.PartAnswers.{HoldsAll, HoldsOwn, HoldsPart}
use Rattle.task_runner.specs.PassViews.{PassView, pass_with}
use Rattle.task_runner.specs.Workers.{answer_at, part_at}
use Rattle.csv_program.specs.Passing.{ArePut, HavePass, IsPutAt}
use Rattle.job_ending.specs.Endings.{dataset_in}
use Rattle.csv_program.specs.QueryResults.{HasPasses, HaveResults, HoldsParts, SaysParts, lineage_in, totals_of_parts}
use Rattle.csv_program.proofs.Deeds.{worker_of}
use Rattle.csv_program.proofs.Served.{dataset_of_pass, place_in_pass, served_by}

-- ---- files that were there

stands_at : (before after : Option Files) (run : Run) (rows : List Fields) → KeepsFile before after run.file → Stands before run rows → Stands after run rows
stands_at None after run rows kept stands = absurd stands
stands_at (Some before) None run rows kept stands = absurd kept
stands_at (Some before) (Some after) run rows kept stands =
    let same : stored.get after run.file ≡ stored.get before run.file = kept stands.0 in
    let bytes : bytes_of after run.file ≡ bytes_of before run.file = ap (λ (bytes : Option (List ℕ)). unwrap_or bytes []) same in
    (ap is_some same ∙ stands.0, subst (λ (bytes : List ℕ). IsPage (take run.bytes bytes) rows) (sym bytes) stands.1, stands.2)

has_kept : (before after : Option Files) (kind : Kind) (run : Run) (entries : List Entry) → KeepsFile before after run.file → HasEntries before kind run entries → HasEntries after kind run entries
has_kept before after kind run entries kept has = record {
  rows = has.rows;
  stands = stands_at before after run has.rows kept has.stands;
  formed = has.formed;
  are = has.are;
  ascends = has.ascends;
}

result_kept : (before after : ℕ → Option Files) (kind : Kind) (answer : Option Run) (entries : List Entry) → KeepsAll before after → HasResult before kind answer entries → HasResult after kind answer entries
result_kept before after kind None entries kept has = has
result_kept before after kind (Some run) entries kept has = has_kept (before run.disk) (after run.disk) kind run entries (kept run.disk run.file) has

-- landed runs that stood stand
pub parts_kept : (before after : ℕ → Option Files) (given : RowsByName) (plan : Plan) (parts : List Run) (part_rows workers : ℕ) (rows : ℕ → List Fields) → KeepsAll before after
    → HoldsParts before given plan parts part_rows workers rows → HoldsParts after given plan parts part_rows workers rows
parts_kept before after given plan parts part_rows workers rows kept holds part within =
    let held = holds part within in
    let run = run_at parts part in
    (record { stands = stands_at (before (part % workers)) (after (part % workers)) run (rows part) (kept (part % workers) run.file) held.0.stands; formed = held.0.formed }, held.1)

-- and what is said of the rows of blocks stays so
pub says_kept : (before after : ℕ → Option Files) (given : RowsByName) (plan : Plan) (parts : List Run) (part_rows workers : ℕ) → KeepsAll before after
    → SaysParts before given plan parts part_rows workers → SaysParts after given plan parts part_rows workers
says_kept before after given plan parts part_rows workers kept says part within dataset rows some there is =
    let said : IsSaid given (before (part % workers)) (lineage_in plan parts part_rows) part dataset rows = says part within dataset rows some there is in
    let run = run_at parts part in
    record {
      input = said.input;
      holds = record { stands = stands_at (before (part % workers)) (after (part % workers)) run said.input (kept (part % workers) run.file) said.holds.stands; formed = said.holds.formed };
      rows_are = said.rows_are;
      kept = said.kept;
    }

-- those of a worker are on its own disk
pub own_of_parts : (files : ℕ → Option Files) (given : RowsByName) (pass : PassView) (workers w : ℕ) (rows : ℕ → List Fields) → w < workers → HoldsAll files given pass workers rows → HoldsOwn (files w) given pass workers w rows
own_of_parts files given pass workers w rows below holds k within =
    subst (λ (disk : ℕ). HoldsPart (files disk) given pass (part_at workers w k) (rows (part_at workers w k))) (worker_of workers w k below) (holds (part_at workers w k) within)

-- ---- answers that are put at their places

-- what holds of the old answers and of those that are put holds of the new ones
pub all_put : (P : Option Run → Type 0) (queries : List ℕ) (found before after : List (Option Run)) → length found ≡ length queries → ArePut queries found before after (length queries) → All P before → All P found → All P after
all_put P queries found before after size put old new k any below =
    subst P (sym (get_or_default after k any None below)) (one (put.each k))
  where
    one : IsPutAt queries found before after (length queries) k → P (answer_at after k)
    one (inl is) = subst P (sym is.3) (new is.0 None (omega (arith, size, is.1)))
    one (inr left) = subst P (sym left.1) (old k None (omega (arith, put.count, below)))

-- ---- pass by pass

-- the answer to each query over the dataset of one of the first passes is the run of its totals
abbrev pub HaveUpTo : (ℕ → Option Files) → Plan → (ℕ → List Entry) → ℕ → List (Option Run) → Type 0
HaveUpTo files plan totals passes answers =
    (query pass : ℕ) → query < length (kept_in plan) → pass < passes → slice_index_or (passes_in plan) pass 0 ≡ dataset_in plan query
    → HasResult files (kind_at plan query) (answer_at answers query) (totals query)

pub have_none : (files : ℕ → Option Files) (plan : Plan) (totals : ℕ → List Entry) (answers : List (Option Run)) → HaveUpTo files plan totals 0 answers
have_none files plan totals answers query pass known below over = absurd (omega (arith, below))

-- what a query of a pass makes of the dataset's rows is what it makes in the plan
pass_total : (plan : Plan) (dataset query : ℕ) (partitions : ℕ) (rows : ℕ → List Fields) → dataset_in plan query ≡ dataset
    → total (kind_at plan query) (concatenated (map (λ part. map (entry_of (kept_at plan query)) (derived (chain_in plan) dataset (rows part))) (range_with_len 0 partitions))) ≡ totals_of_parts plan partitions rows query
pass_total plan dataset query partitions rows over =
    ap (λ (d : ℕ). total (kind_at plan query) (concatenated (map (λ part. map (entry_of (kept_at plan query)) (derived (chain_in plan) d (rows part))) (range_with_len 0 partitions)))) (sym over)

module _ (plan : Plan) (k : ℕ) (parts : List Run) (part_rows first : ℕ) (rows : ℕ → List Fields) (has : HasPasses plan) (below : k < length (passes_in plan)) where
  abbrev pass : PassView
  pass = pass_with plan (slice_index_or (passes_in plan) k 0) (slice_index_or (queries_in plan) k []) parts part_rows first

  abbrev totals : ℕ → List Entry
  totals = totals_of_parts plan (length parts) rows

  -- the answer to a query of the pass
  of_pass : (files : ℕ → Option Files) (found after : List (Option Run)) (query i : ℕ) → HavePass files pass rows found → i < length pass.queries → slice_index pass.queries i ≡ query → answer_at after query ≡ answer_at found i
      → HasResult files (kind_at plan query) (answer_at after query) (totals query)
  of_pass files found after query i have inside is same =
      let over : dataset_in plan query ≡ pass.dataset = ap (dataset_in plan) (sym is) ∙ dataset_of_pass plan k i has below inside in
      let made : ℕ → List Entry = λ q. total (kind_at plan q) (concatenated (map (λ part. map (entry_of (kept_at plan q)) (derived (chain_in plan) pass.dataset (rows part))) (range_with_len 0 (length parts)))) in
      let here : HasResult files (kind_at plan query) (answer_at found i) (made query) = subst (λ (q : ℕ). HasResult files (kind_at plan q) (answer_at found i) (made q)) is (have i inside) in
      subst (HasResult files (kind_at plan query) (answer_at after query)) (pass_total plan pass.dataset query (length parts) rows over)
      (subst (λ (answer : Option Run). HasResult files (kind_at plan query) answer (made query)) (sym same) here)

  -- with a pass's answers put at their places
  pub have_more : (before after : ℕ → Option Files) (found old new : List (Option Run)) → KeepsAll before after → HavePass after pass rows found → ArePut pass.queries found old new (length pass.queries) → HaveUpTo before plan totals k old
      → HaveUpTo after plan totals (k + 1) new
  have_more before after found old new kept have put sofar query number known earlier over = elim (put.each query) [
    | inl is ↦ of_pass after found new query is.0 have is.1 is.2 is.3
    | inr left ↦ elim (cases_lt number k) [
      | inl low ↦
          subst (λ (answer : Option Run). HasResult after (kind_at plan query) answer (totals query)) (sym left.1)
          (result_kept before after (kind_at plan query) (answer_at old query) (totals query) kept (sofar query number known low over))
      | inr high ↦
          let here : number ≡ k = omega (arith, high, earlier) in
          let mine : slice_index_or (passes_in plan) k 0 ≡ dataset_in plan query = ap (λ (n : ℕ). slice_index_or (passes_in plan) n 0) (sym here) ∙ over in
          let there = place_in_pass plan k query has below known mine in
          absurd (left.0 there.0 there.1 there.2)
    ]
  ]

-- all passes answer all queries
pub have_all : (files : ℕ → Option Files) (plan : Plan) (totals : ℕ → List Entry) (answers : List (Option Run)) → HasPasses plan → HaveUpTo files plan totals (length (passes_in plan)) answers → HaveResults files plan totals answers
have_all files plan totals answers has upto query known =
    let by = served_by plan query has known in
    upto query by.0 known by.1 by.2
