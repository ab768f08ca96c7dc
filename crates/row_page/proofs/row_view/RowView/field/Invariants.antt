use Rattle.std.proofs.Common.{drop}
use Rattle.row_page.specs.Grammar.{ArePieces}
use Rattle.row_page.specs.Views.{fields_in}
use Rattle.row_page.proofs.row_view.RowView.field.Given as goal

abbrev pub invariant-loop : goal.invariant-loop
invariant-loop l = ArePieces l.rest (drop l.counter (fields_in l.self))
