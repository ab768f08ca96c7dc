use Rattle.std.proofs.Common.{◌≡◌, map, slice_index, take}
use Rattle.row_filter.specs.Moved.{moved_filter}
use Rattle.row_filter.proofs.moving.+move_one.Given as goal

-- each one so far is moved
abbrev pub invariant-move_each-loop-filter : goal.invariant-move_each-loop-filter
invariant-move_each-loop-filter l = record { moved : l.moved.items ≡ map (moved_filter (slice_index l.fn.places)) (take l.filter-index l.fn.filters) }
