use Rattle.std.proofs.Common.{◌≡◌, ◌++◌, take}
use Rattle.std.specs.List.{flat_map}
use Rattle.aggregate.specs.Spelling.{spelled}
use Rattle.row_page.specs.Views.{fields_in}
use Rattle.job_plan.specs.Entries.{field}
use Rattle.job_plan.proofs.entries.put_group.Given as goal

abbrev pub invariant-loop-column : goal.invariant-loop-column
invariant-loop-column l =
    l.key.items ≡ l.initial.key.items ++ flat_map (λ k. spelled (field (fields_in l.row) k)) (take l.column-index l.columns)
