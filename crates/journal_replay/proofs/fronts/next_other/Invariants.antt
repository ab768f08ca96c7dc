use Rattle.std.proofs.Common.{◌≡◌, ◌≤◌, ◌-◌, ◌^◌, List, Option}
use Rattle.journal_replay.specs.declared.block_name.BlockName.{BlockName}
use Rattle.journal_replay.specs.UseOrder.{evictable_from}
use Rattle.journal_replay.proofs.fronts.next_other.Given as goal

abbrev pub invariant-loop-place : goal.invariant-loop-place
invariant-loop-place l =
    (l.fn.from ≤ l.at)
    × ((pins : List (Option BlockName)) → evictable_from l.except pins l.fn.from l.order.placed.entries ≡ evictable_from l.except pins l.at l.order.placed.entries)

abbrev pub decreases-loop-place : goal.decreases-loop-place
decreases-loop-place l = 2 ^ 64 - l.at
