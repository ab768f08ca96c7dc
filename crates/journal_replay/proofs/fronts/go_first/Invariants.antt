use Rattle.std.proofs.Common.{◌≡◌, ◌≤◌, ◌-◌, ◌^◌, drop, length, map}
use Rattle.eviction.specs.Victims.{evictable}
use Rattle.journal_replay.specs.Replays.{gone_of}
use Rattle.journal_replay.specs.UseOrder.{candidates_of, evictable_from}
use Rattle.journal_replay.proofs.Walked.{begin_with}
use Rattle.journal_replay.proofs.fronts.go_first.Given as goal

abbrev pub invariant-loop-found : goal.invariant-loop-found
invariant-loop-found l =
    (begin_with (map gone_of l.waiting) (evictable l.except (candidates_of l.pins l.order.placed.entries))
    ≡ begin_with (map gone_of (drop l.found l.waiting)) (evictable_from l.except l.pins l.from l.order.placed.entries))
    × (l.found ≤ length l.waiting)

abbrev pub decreases-loop-found : goal.decreases-loop-found
decreases-loop-found l = 2 ^ 64 - l.from
