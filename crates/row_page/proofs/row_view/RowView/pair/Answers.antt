use Rattle.std.proofs.Common.{◌≡◌, ◌<◌, length, ap, arith, rules}
use Rattle.row_page.specs.Views.{fields_in}
use Rattle.row_page.proofs.Rows.{row_had}
use Rattle.row_page.proofs.Steps.{first_and_others, no_pieces, third_piece, two_pieces}
use Rattle.row_page.proofs.row_view.RowView.pair.Goals as goal

pub returns-then-is_empty-clause-none : goal.returns-then-is_empty-clause-none
returns-then-is_empty-clause-none c two =
    let empty : length c.args.self.now.bytes.now ≡ 0 = search rules in
    omega (arith, two, no_pieces _ _ (row_had _ c.args.self.now.formed).pieces empty)

pub first_piece-requires-clause-pieces : goal.first_piece-requires-clause-pieces
first_piece-requires-clause-pieces c = (fields_in c.args.self.now, (row_had _ c.args.self.now.formed).pieces)

pub returns-then-is_empty-2-clause-none : goal.returns-then-is_empty-2-clause-none
returns-then-is_empty-2-clause-none c two =
    let behind = first_and_others _ _ _ _ (row_had _ c.args.self.now.formed).pieces c.first_piece.ensures in
    let empty : length c.first_piece.result.1.now ≡ 0 = search rules in
    omega (arith, two, ap length behind.1, no_pieces _ _ behind.2 empty)

pub first_piece-requires-2-clause-pieces : goal.first_piece-requires-2-clause-pieces
first_piece-requires-2-clause-pieces c =
    let behind = first_and_others _ _ _ _ (row_had _ c.args.self.now.formed).pieces c.first_piece.ensures in
    (behind.0, behind.2)

pub returns-then-not-is_empty-clause-none : goal.returns-then-not-is_empty-clause-none
returns-then-not-is_empty-clause-none c two =
    let some : 0 < length c.first_piece-2.result.1.now = search rules in
    omega (arith, two, third_piece _ _ _ _ _ _ (row_had _ c.args.self.now.formed).pieces c.first_piece.ensures c.first_piece-2.ensures some)

pub returns-clause-found : goal.returns-clause-found
returns-clause-found c =
    let empty : length c.first_piece-2.result.1.now ≡ 0 = search rules in
    two_pieces _ _ _ _ _ _ (row_had _ c.args.self.now.formed).pieces c.first_piece.ensures c.first_piece-2.ensures empty
