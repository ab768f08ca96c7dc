use Rattle.row_page.proofs.Parts.{has_front}
use Rattle.row_page.proofs.piece.first_piece.Goals as goal

pub unreachable-requires : goal.unreachable-requires
unreachable-requires c =
    let front = has_front c.args.bytes.now c.requires.pieces c.requires.some in
    c.in_default.ensures.none front.0 front.1 front.2
