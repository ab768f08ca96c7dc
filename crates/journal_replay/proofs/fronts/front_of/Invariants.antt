use Rattle.std.proofs.Common.{◌-◌, ◌^◌}
use Rattle.journal_replay.specs.UseOrder.{candidates_of, evictable_from}
use Rattle.journal_replay.proofs.Walked.{IsWalk}
use Rattle.journal_replay.proofs.fronts.front_of.Given as goal

abbrev pub invariant-loop-place : goal.invariant-loop-place
invariant-loop-place l =
    IsWalk l.except l.need (candidates_of l.pins l.order.placed.entries) (evictable_from l.except l.pins l.from l.order.placed.entries) l.count l.bytes

abbrev pub decreases-loop-place : goal.decreases-loop-place
decreases-loop-place l = 2 ^ 64 - l.from
