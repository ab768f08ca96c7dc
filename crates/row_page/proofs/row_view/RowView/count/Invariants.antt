use Rattle.std.proofs.Common.{◌+◌, ◌^◌, ◌<◌, ◌≤◌, length, drop}
use Rattle.row_page.specs.Grammar.{ArePieces}
use Rattle.row_page.specs.Views.{fields_in}
use Rattle.row_page.proofs.row_view.RowView.count.Given as goal

abbrev pub invariant-loop-rest : goal.invariant-loop-rest
invariant-loop-rest l = record {
  rest : ArePieces l.rest (drop l.count (fields_in l.self));
  fits : l.count + length l.rest < 2 ^ 32;
  within : l.count ≤ length (fields_in l.self);
}

abbrev pub decreases-loop-rest : goal.decreases-loop-rest
decreases-loop-rest l = length l.rest
