use Rattle.std.proofs.Common.{◌↔◌, length}
use Rattle.row_page.specs.Grammar.{HasPieces}
use Rattle.row_page.proofs.piece.are_pieces.Given as goal

abbrev pub invariant-loop-rest : goal.invariant-loop-rest
invariant-loop-rest l = HasPieces l.rest ↔ HasPieces l.bytes

abbrev pub decreases-loop-rest : goal.decreases-loop-rest
decreases-loop-rest l = length l.rest
