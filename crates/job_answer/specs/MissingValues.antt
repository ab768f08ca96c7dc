-- Which values of a landed row are missing.
-- This project's own.
use Rattle.std.specs.Prelude.{◌≡◌, ◌↔◌, ℕ, [], None}
use Rattle.std.specs.List.{Contains}
use Rattle.row_form.specs.Forms.{HasForm}
use Rattle.job_text.specs.Jobs.{IsJob}
use Rattle.job_text.specs.declared.job.Job.{Job}
use Rattle.job_plan.specs.Columns.{Fields, told_columns}
use Rattle.job_plan.specs.Plans.{IsPlanOf, form_in, places_in}
use Rattle.job_plan.specs.Rows.{landed_row}
use Rattle.job_plan.specs.declared.query_plan.Plan.{Plan}
use Rattle.job_answer.specs.Answer.{field_of, value_at}

-- in a column that a job's queries add up, or take the least or the greatest of, the value of a row whose landed row has
-- the form of the job's plan is missing exactly where the field is empty
abbrev pub MissingIsEmpty : Type 0
MissingIsEmpty =
    (job : Job) (header : Fields) (plan : Plan) (n : ℕ) (row : Fields) (column : ℕ)
    → IsJob job → IsPlanOf job header plan → HasForm (form_in plan) (landed_row (places_in plan) n row)
    → Contains (told_columns job) column
    → (value_at job header row column ≡ None) ↔ (field_of job header row column ≡ [])
