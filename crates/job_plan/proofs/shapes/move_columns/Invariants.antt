use Rattle.std.proofs.Common.{◌≡◌, map, take, slice_index}
use Rattle.job_plan.proofs.shapes.move_columns.Given as goal

abbrev pub invariant-loop-column : goal.invariant-loop-column
invariant-loop-column l =
    l.list.items ≡ map (slice_index l.kept) (take l.column-index l.columns)
