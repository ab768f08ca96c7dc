use Rattle.std.proofs.Common.{◌≡◌, ◌≤◌, ◌+◌, ◌*◌, ◌++◌, map, take}
use Rattle.row_page.specs.Spelling.{row_length}
use Rattle.job_plan.specs.Plans.{part_name}
use Rattle.job_plan.proofs.headings.add_parts.Given as goal

abbrev pub invariant-loop-part : goal.invariant-loop-part
invariant-loop-part l =
    (l.row ≡ l.initial.row ++ map (part_name l.names) (take l.part-index l.parts)) × (row_length l.row ≤ row_length l.initial.row + 1032 * l.part-index)
