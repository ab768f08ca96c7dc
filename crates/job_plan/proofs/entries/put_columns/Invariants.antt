use Rattle.std.proofs.Common.{◌≡◌, ◌++◌, take}
use Rattle.std.specs.List.{flat_map}
use Rattle.row_page.specs.Spelling.{with_length}
use Rattle.row_page.specs.Views.{fields_in}
use Rattle.job_plan.specs.Entries.{field}
use Rattle.job_plan.proofs.entries.put_columns.Given as goal

abbrev pub invariant-loop-column : goal.invariant-loop-column
invariant-loop-column l =
    l.value.items ≡ l.initial.value.items ++ flat_map (λ k. with_length (field (fields_in l.row) k)) (take l.column-index l.columns)
