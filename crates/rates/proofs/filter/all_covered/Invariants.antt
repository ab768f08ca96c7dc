use Rattle.std.proofs.Common.{length, take}
use Rattle.std.specs.Prelude.{All}
use Rattle.row_filter.specs.Rows.{HasTestedColumns}
use Rattle.rates.proofs.filter.all_covered.Given as goal

-- the first `i` rows have the filter's columns
abbrev pub invariant-loop-i : goal.invariant-loop-i
invariant-loop-i l = record { covered : All (λ row. HasTestedColumns (length row) l.fn.filter) (take l.i l.fn.page.rows) }
