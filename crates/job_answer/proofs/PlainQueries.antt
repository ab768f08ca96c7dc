-- Queries over the input are over all rows.
use Rattle.std.proofs.Common.{◌≡◌, ◌≤◌, ◌<◌, ◌∙◌, ℕ, List, [], ◌∷◌, map, length, slice_index_or, refl, ap, arith}
use Rattle.std.specs.List.{AllByRecursion}
use Rattle.std.proofs.lemmas.List.Elements.{recursion_from_All}
use Rattle.job_text.specs.Jobs.{IsJob}
use Rattle.job_text.specs.declared.job.Dataset.{Dataset}
use Rattle.job_text.specs.declared.job.Job.{Job}
use Rattle.job_text.specs.declared.job.Query.{Query}
use Rattle.job_plan.specs.Columns.{Fields}
use Rattle.job_answer.specs.Derived.{derived}
use Rattle.job_answer.specs.Output.{tables_text, output, shape_table, shape_wide, table_rows, text_of}
use Rattle.job_answer.specs.PlainJobs.{PlainJobsGoOverInput, PlainJobsDeriveAll, QueriesOverInputTellAll}
use Rattle.job_answer.proofs.Derivations.{input-has-all}

pub query-over_input : (job : Job) → IsJob job → job.datasets ≡ [] → (query : ℕ) (none : Query) → query < length job.queries → (slice_index_or job.queries query none).dataset ≡ 0
query-over_input job whole plain query none within =
    let few : (slice_index_or job.queries query none).dataset ≤ length job.datasets = (whole.queries query none within).dataset in
    let empty : length job.datasets ≡ 0 = ap (λ (datasets : List Dataset). length datasets) plain in
    omega arith

pub plain-over_input : PlainJobsGoOverInput
plain-over_input job whole plain query none within = query-over_input job whole plain query none within

all-derived : (job : Job) (header : Fields) (rows : List Fields) (dataset : ℕ) → dataset ≡ 0 → derived job header dataset rows ≡ rows
all-derived job header rows dataset input = ap (λ (d : ℕ). derived job header d rows) input ∙ input-has-all job header rows

pub over_input-tells : QueriesOverInputTellAll
over_input-tells job header rows query input =
    let all = all-derived job header rows query.dataset input in
    record {
      table = ap (λ (list : List Fields). shape_table job header list query.shape) all;
      wide = ap (λ (list : List Fields). shape_wide job header list query.shape) all;
    }

tables-all : (job : Job) (header : Fields) (rows : List Fields) (queries : List Query) → AllByRecursion (λ query. query.dataset ≡ 0) queries
    → map (λ query. text_of (table_rows job header rows query)) queries ≡ map (λ query. text_of (shape_table job header rows query.shape)) queries
tables-all job header rows [] input = refl
tables-all job header rows (query ∷ queries) input =
    ap (λ (table : List Fields). text_of table ∷ map (λ query. text_of (table_rows job header rows query)) queries) (over_input-tells job header rows query input.0).table
    ∙ ap (λ (texts : List (List ℕ)). text_of (shape_table job header rows query.shape) ∷ texts) (tables-all job header rows queries input.1)

pub plain-derives : PlainJobsDeriveAll
unfolding output
plain-derives job header rows input = ap tables_text (tables-all job header rows job.queries (recursion_from_All (λ query. query.dataset ≡ 0) job.queries input))
