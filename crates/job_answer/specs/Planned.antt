-- The rows of a job's dataset, landed, are those that the chain of the job's plan derives.
-- This project's own.
use Rattle.std.specs.Prelude.{◌≡◌, ℕ, List}
use Rattle.row_filter.specs.Derived.{derived}
use Rattle.job_text.specs.Jobs.{IsJob}
use Rattle.job_text.specs.declared.job.Job.{Job}
use Rattle.job_plan.specs.Columns.{Fields}
use Rattle.job_plan.specs.Plans.{IsPlanOf, chain_in, places_in}
use Rattle.job_plan.specs.declared.query_plan.Plan.{Plan}
use Rattle.job_answer.specs.Derived.{derived_each}
use Rattle.job_answer.specs.Numbered.{Numbered, landed_each}

-- the landed rows of a dataset's rows, each with its own number, are those that the plan's chain derives of the landed rows
abbrev pub PlansDeriveRows : Type 0
PlansDeriveRows =
    (job : Job) (header : Fields) (plan : Plan) (dataset : ℕ) (input : List Numbered)
    → IsJob job → IsPlanOf job header plan
    → landed_each (places_in plan) (derived_each job header dataset input)
    ≡ derived (chain_in plan) dataset (landed_each (places_in plan) input)
