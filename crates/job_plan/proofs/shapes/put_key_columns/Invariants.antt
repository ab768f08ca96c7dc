use Rattle.std.proofs.Common.{◌≡◌, ◌++◌, map, take}
use Rattle.std.specs.List.{filter}
use Rattle.job_text.specs.declared.job.KeyItem.{KeyItem}
use Rattle.job_plan.proofs.shapes.put_key_columns.Given as goal

abbrev pub invariant-loop-key : goal.invariant-loop-key
invariant-loop-key l =
    l.into.items ≡ l.initial.into.items ++ map (λ (key : KeyItem). key.column) (filter (λ (key : KeyItem). key.number) (take l.key-index l.keys))
