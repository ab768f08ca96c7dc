use Rattle.std.proofs.Common.{◌≡◌, ◌++◌, take}
use Rattle.std.specs.List.{flat_map}
use Rattle.std.specs.Option.{option_to_list}
use Rattle.job_text.specs.declared.job.Part.{Part}
use Rattle.job_plan.proofs.shapes.put_part_columns.Given as goal

abbrev pub invariant-loop-part : goal.invariant-loop-part
invariant-loop-part l =
    l.into.items ≡ l.initial.into.items ++ flat_map (λ (part : Part). option_to_list part.column) (take l.part-index l.parts)
