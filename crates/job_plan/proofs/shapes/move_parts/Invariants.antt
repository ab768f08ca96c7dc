use Rattle.std.proofs.Common.{◌≡◌, map, take, slice_index}
use Rattle.job_plan.specs.Moved.{moved_part}
use Rattle.job_plan.proofs.shapes.move_parts.Given as goal

abbrev pub invariant-loop-part : goal.invariant-loop-part
invariant-loop-part l =
    l.list.items ≡ map (moved_part (slice_index l.kept)) (take l.part-index l.parts)
