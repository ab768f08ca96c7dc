use Rattle.std.proofs.Common.{take}
use Rattle.std.specs.Prelude.{All}
use Rattle.row_filter.specs.Rows.{HasTestedColumns}
use Rattle.row_filter.proofs.covering.+cover.Given as goal

-- each one so far is covered
abbrev pub invariant-all_covered-loop-part : goal.invariant-all_covered-loop-part
invariant-all_covered-loop-part l = record { covered : All (HasTestedColumns l.fn.fields) (take l.part-index l.fn.parts) }
