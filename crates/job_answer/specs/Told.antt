-- Which shapes' totals can be told, whatever the rows are.
-- This project's own.
use Rattle.std.specs.Prelude.{⊤, ◌≡◌, ◌≤◌, List, All, None, length, map}
use Rattle.std.specs.List.{AllByRecursion}
use Rattle.aggregate.specs.Totals.{total}
use Rattle.job_text.specs.declared.job.Shape.{Shape}
use Rattle.job_text.specs.declared.job.Shape.TheVariants.{Group, Order}
use Rattle.job_plan.specs.Columns.{Fields}
use Rattle.job_plan.specs.Entries.{entry_of, kind_of}
use Rattle.job_plan.specs.Telling.{IsTold}
use Rattle.job_answer.specs.Laws.{wide_total}
use Rattle.job_answer.specs.OneShape.{IsShort}

-- an order tells at most eight columns, as each of a job does
abbrev pub IsShortShape : Shape → Type 0
IsShortShape (Group columns parts) = ⊤
IsShortShape (Order keys columns) = length columns ≤ 8

-- what the entries of such a shape come to can be told, where none of it is too wide: of any rows with at most 65,536 bytes each
-- beside its number
abbrev pub ShortShapesAreTold : Type 0
ShortShapesAreTold =
    (shape : Shape) (rows : List Fields) → IsShortShape shape → AllByRecursion IsShort rows
    → wide_total shape (total (kind_of shape) (map (entry_of shape) rows)) ≡ None
    → All (IsTold shape) (total (kind_of shape) (map (entry_of shape) rows))
