use Rattle.std.proofs.Common.{◌≡◌, map, take, slice_index}
use Rattle.job_plan.specs.Moved.{moved_item}
use Rattle.job_plan.proofs.shapes.move_items.Given as goal

abbrev pub invariant-loop-item : goal.invariant-loop-item
invariant-loop-item l =
    l.list.items ≡ map (moved_item (slice_index l.kept)) (take l.item-index l.items)
