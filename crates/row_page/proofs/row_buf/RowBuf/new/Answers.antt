use Rattle.row_page.proofs.Rows.{empty_row}
use Rattle.row_page.proofs.row_buf.RowBuf.new.Goals as goal

pub invariant_of-result : goal.invariant_of-result
invariant_of-result c = rw c.new.ensures empty_row.0

pub returns : goal.returns
returns c = rw c.new.ensures empty_row.1
