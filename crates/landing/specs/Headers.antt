-- What a job makes of an input's header alone, whatever rows stand below it.
-- This project's own.
use Rattle.std.specs.Prelude.{◌≡◌, List, [], take, ⊤}
use Rattle.job_text.specs.declared.job.Job.{Job}
use Rattle.job_plan.specs.Columns.{Fields}
use Rattle.job_plan.specs.Plans.{IsPlanOf}
use Rattle.job_plan.specs.declared.query_plan.Plan.{Plan}
use Rattle.landing.specs.Checks.{Checked, Rows, checked}
use Rattle.landing.specs.declared.fault.LandFault.{LandFault}
use Rattle.landing.specs.declared.fault.LandFault.TheVariants as fault

-- the checks of the first record, where no record stands behind it
abbrev pub checked_header : Job → List Fields → Checked
checked_header job records = checked job 0 (take 1 records)

-- what may be told of a header, which is row 0: that there is none, that it is too long or lacks a column; a failed read of it; or
-- want of memory
abbrev pub IsOfHeader : LandFault → Type 0
IsOfHeader fault.NoHeader = ⊤
IsOfHeader (fault.NoColumn column) = ⊤
IsOfHeader (fault.RowTooLong row) = row ≡ 0
IsOfHeader fault.ReadFault = ⊤
IsOfHeader fault.NoMemory = ⊤
IsOfHeader _ = ⊥

-- the header passes the job's checks, and the plan is that of the job over it
pub record IsPlanOver (job : Job) (plan : Plan) (records : List Fields) : Type 0 where
  pub header : Fields
  pub passed : checked_header job records ≡ Rows header []
  pub planned : IsPlanOf job header plan
