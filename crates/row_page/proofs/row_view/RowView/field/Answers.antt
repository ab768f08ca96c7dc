use Rattle.std.proofs.Common.{◌≡◌, arith}
use Rattle.std.proofs.lemmas.List.{length-drop}
use Rattle.row_page.proofs.Rows.{row_had}
use Rattle.row_page.proofs.Steps.{has_bytes, piece_at_place}
use Rattle.row_page.specs.Views.{fields_in}
use Rattle.row_page.proofs.row_view.RowView.field.Goals as goal

pub loop-init : goal.loop-init
loop-init c = (row_had _ c.args.self.now.formed).pieces

pub first_piece-requires-clause-some : goal.first_piece-requires-clause-some
first_piece-requires-clause-some c =
    has_bytes c.loop.rest.now _ c.loop.invariant (omega (arith, c.requires, c.loop-test.true, length-drop c.loop.counter (fields_in c.args.self.now)))

pub loop-preserved : goal.loop-preserved
loop-preserved c =
    (piece_at_place c.loop.rest.now (fields_in c.args.self.now) c.loop.counter c.first_piece.result.0.now c.first_piece.result.1.now c.loop.invariant c.first_piece.ensures).others

pub first_piece-requires-2-clause-some : goal.first_piece-requires-2-clause-some
first_piece-requires-2-clause-some c =
    has_bytes c.loop.rest.now _ c.loop.invariant (omega (arith, c.requires, c.loop.auto.counter-end, length-drop c.loop.counter (fields_in c.args.self.now)))

pub returns : goal.returns
returns c =
    let last : c.loop.counter ≡ c.args.j = omega (arith, c.loop-test.false, c.loop.auto.counter-end) in
    let here = piece_at_place c.loop.rest.now (fields_in c.args.self.now) c.loop.counter c.first_piece-2.result.0.now c.first_piece-2.result.1.now c.loop.invariant c.first_piece-2.ensures in
    rw (← last) here.item
