use Rattle.std.proofs.Common.{◌≡◌, ◌++◌, take}
use Rattle.row_filter.specs.Rows.{kept_rows}
use Rattle.row_filter.proofs.selecting.select.Given as goal

-- the kept ones of the first `i` rows are put
abbrev pub invariant-loop-i : goal.invariant-loop-i
invariant-loop-i l = record { put : l.into ≡ record l.fn.into { rows = l.fn.into.rows ++ kept_rows l.fn.filter (take l.i l.fn.from.rows) } }
