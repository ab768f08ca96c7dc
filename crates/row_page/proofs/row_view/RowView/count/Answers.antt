use Rattle.std.proofs.Common.{◌≡◌, length, arith, rules}
use Rattle.std.proofs.lemmas.List.{length-drop}
use Rattle.row_page.proofs.Fronts.{front_length}
use Rattle.row_page.proofs.Rows.{row_had}
use Rattle.row_page.proofs.Steps.{no_pieces, piece_at_place}
use Rattle.row_page.specs.Views.{fields_in}
use Rattle.row_page.proofs.row_view.RowView.count.Goals as goal

pub loop-rest-init : goal.loop-rest-init
loop-rest-init c =
    let row = row_had _ c.args.self.now.formed in
    record { rest = row.pieces; fits = omega (arith, row.short); within = omega arith }

pub loop-rest-preserved : goal.loop-rest-preserved
loop-rest-preserved c =
    let kept = c.loop-rest.invariant in
    let front = c.first_piece.ensures in
    let here = piece_at_place c.loop-rest.rest.now (fields_in c.args.self.now) c.loop-rest.count c.first_piece.result.0.now c.first_piece.result.1.now kept.rest front in
    record {
      rest = here.others;
      fits = omega (arith, kept.fits, front_length c.loop-rest.rest.now c.first_piece.result.0.now c.first_piece.result.1.now front);
      within = omega (arith, here.within);
    }

pub returns : goal.returns
returns c =
    let kept = c.loop-rest.invariant in
    let empty : length c.loop-rest.rest.now ≡ 0 = search rules in
    omega (arith, kept.within, length-drop c.loop-rest.count (fields_in c.args.self.now), no_pieces c.loop-rest.rest.now _ kept.rest empty)
