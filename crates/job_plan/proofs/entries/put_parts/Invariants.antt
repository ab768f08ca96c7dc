use Rattle.std.proofs.Common.{◌≡◌, ◌++◌, take}
use Rattle.std.specs.List.{flat_map}
use Rattle.aggregate.specs.Partial.{partial_of}
use Rattle.row_page.specs.Views.{fields_in}
use Rattle.job_plan.specs.Entries.{told_by}
use Rattle.job_plan.proofs.entries.put_parts.Given as goal

abbrev pub invariant-loop-part : goal.invariant-loop-part
invariant-loop-part l =
    l.value.items ≡ l.initial.value.items ++ flat_map (λ part. partial_of (told_by (fields_in l.row) part.column)) (take l.part-index l.parts)
