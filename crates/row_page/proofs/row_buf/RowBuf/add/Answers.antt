use Rattle.std.proofs.Common.{arith}
use Rattle.row_page.proofs.Rows.{row_added}
use Rattle.row_page.proofs.row_buf.RowBuf.add.Goals as goal

pub invariant_of-self : goal.invariant_of-self
invariant_of-self c =
    (row_added c.append_piece.result c.self.inside.bytes c.args.self.now c.args.field.now c.append_piece.new.self c.self.invariant c.self.view_is (omega (arith, c.requires)) c.append_piece.ensures.ok c.append_piece.ensures.err).sound

pub returns-clause-ok : goal.returns-clause-ok
returns-clause-ok c =
    (row_added c.append_piece.result c.self.inside.bytes c.args.self.now c.args.field.now c.append_piece.new.self c.self.invariant c.self.view_is (omega (arith, c.requires)) c.append_piece.ensures.ok c.append_piece.ensures.err).ok
