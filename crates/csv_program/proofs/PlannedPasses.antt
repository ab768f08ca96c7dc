-- The passes of a job's plan are those of its queries' datasets.
use Rattle.std.proofs.Common.{◌≡◌, ◌∙◌, ℕ, List, length, map, sym, ap}
use Rattle.job_plan.specs.Columns.{Fields}
use Rattle.job_plan.specs.Passes.{pass_datasets, queries_over}
use Rattle.job_plan.specs.Plans.{IsPlanOf, passes_in}
use Rattle.job_plan.specs.declared.query_plan.Plan.{Plan}
use Rattle.job_text.specs.declared.job.Job.{Job}
use Rattle.csv_program.specs.QueryResults.{HasPasses}
use Rattle.job_ending.specs.Tasks.{passes_of}

pub passes_planned : (job : Job) (header : Fields) (plan : Plan) → IsPlanOf job header plan → HasPasses plan
passes_planned job header plan made = record {
  passes = made.passes ∙ ap pass_datasets (sym made.datasets);
  queries = made.queries ∙ ap (λ (datasets : List ℕ). map (queries_over datasets) (pass_datasets datasets)) (sym made.datasets);
  based = made.base;
}

-- there are as many as the job makes
pub passes_are : (job : Job) (header : Fields) (plan : Plan) → IsPlanOf job header plan → length (passes_in plan) ≡ passes_of job
passes_are job header plan made = ap (λ (passes : List ℕ). length passes) made.passes
