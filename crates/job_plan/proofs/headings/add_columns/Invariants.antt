use Rattle.std.proofs.Common.{◌≡◌, ◌≤◌, ◌+◌, ◌*◌, ◌++◌, map, take}
use Rattle.row_page.specs.Spelling.{row_length}
use Rattle.job_plan.specs.Plans.{name_at}
use Rattle.job_plan.proofs.headings.add_columns.Given as goal

abbrev pub invariant-loop-column : goal.invariant-loop-column
invariant-loop-column l =
    (l.row ≡ l.initial.row ++ map (name_at l.names) (take l.column-index l.columns)) × (row_length l.row ≤ row_length l.initial.row + 1032 * l.column-index)
