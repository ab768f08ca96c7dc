use Rattle.std.proofs.Common.{◌≡◌, ◌++◌, take}
use Rattle.std.specs.List.{flat_map}
use Rattle.row_page.specs.Views.{fields_in}
use Rattle.job_plan.specs.Entries.{item_bytes}
use Rattle.job_plan.proofs.entries.put_items.Given as goal

abbrev pub invariant-loop-item : goal.invariant-loop-item
invariant-loop-item l =
    l.key.items ≡ l.initial.key.items ++ flat_map (item_bytes (fields_in l.row)) (take l.item-index l.items)
