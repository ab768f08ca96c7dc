use Rattle.row_page.proofs.Rows.{empty_row}
use Rattle.row_page.proofs.row_buf.RowBuf.clear.Goals as goal

pub invariant_of-self : goal.invariant_of-self
invariant_of-self c = rw c.clear.ensures empty_row.0

pub returns : goal.returns
returns c = rw c.clear.ensures empty_row.1
