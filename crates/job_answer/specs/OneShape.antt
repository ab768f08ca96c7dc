-- What the totals of one shape's entries tell, over a header that has all of the job's columns.
-- This project's own.
use Rattle.std.specs.Prelude.{◌≡◌, ℕ, ◌≤◌, ◌^◌, List, All, None, length, map, option_map}
use Rattle.std.specs.List.{AllByRecursion}
use Rattle.aggregate.specs.Totals.{Entry, total}
use Rattle.job_text.specs.Jobs.{IsShape}
use Rattle.job_text.specs.declared.job.Job.{Job}
use Rattle.job_text.specs.declared.job.KeyItem.{KeyItem}
use Rattle.job_text.specs.declared.job.Part.{Part}
use Rattle.job_text.specs.declared.job.Shape.{Shape}
use Rattle.job_text.specs.declared.job.Shape.TheVariants.{Group, Order}
use Rattle.job_plan.specs.Columns.{Fields, kept, missing, over_kept}
use Rattle.job_plan.specs.Entries.{entry_of, field_bytes, kind_of}
use Rattle.job_plan.specs.Rows.{AreBytes}
use Rattle.job_plan.specs.Telling.{IsTold, row_of}
use Rattle.job_answer.specs.Laws.{wide_total}
use Rattle.job_answer.specs.Numbered.{AreNumbered, Numbered, landed_each, rows_in}
use Rattle.job_answer.specs.Output.{shape_rows, shape_wide}

-- the landed rows of rows with their numbers
abbrev pub landed_over : Job → Fields → List Numbered → List Fields
landed_over job header input = landed_each (kept job.names header) input

-- what the entries of a shape come to
abbrev pub totals_over : Job → Fields → List Numbered → Shape → List Entry
totals_over job header input shape =
    total (kind_of (over_kept job header shape))
    (map (entry_of (over_kept job header shape)) (landed_over job header input))

-- a row has at most 64 KiB of fields
abbrev pub IsShort : Fields → Type 0
IsShort row = field_bytes row ≤ 65536

-- the totals tell the rows of the shape's table, and the key of the first group that is too wide; and where none is, each
-- total can be told
pub record TellsShape (job : Job) (header : Fields) (input : List Numbered) (shape : Shape) : Type 0 where
  pub table : map (row_of (over_kept job header shape)) (totals_over job header input shape)
      ≡ shape_rows job header (rows_in input) shape
  pub wide :
      option_map (λ entry. entry.key) (wide_total (over_kept job header shape) (totals_over job header input shape))
      ≡ shape_wide job header (rows_in input) shape
  pub told : shape_wide job header (rows_in input) shape ≡ None
      → All (IsTold (over_kept job header shape)) (totals_over job header input shape)

-- so it is for groups, of any fields
abbrev pub GroupsTell : Type 0
GroupsTell =
    (job : Job) (header : Fields) (input : List Numbered) (columns : List ℕ) (parts : List Part)
    → missing job.names header ≡ None → IsShape (length job.names) (Group columns parts) → length input ≤ 2 ^ 32
    → TellsShape job header input (Group columns parts)

-- and for orders, of landed rows that are bytes and short
abbrev pub OrdersTell : Type 0
OrdersTell =
    (job : Job) (header : Fields) (input : List Numbered) (keys : List KeyItem) (columns : List ℕ)
    → missing job.names header ≡ None → IsShape (length job.names) (Order keys columns) → AreNumbered input
    → AllByRecursion AreBytes (landed_over job header input) → AllByRecursion IsShort (landed_over job header input)
    → TellsShape job header input (Order keys columns)
