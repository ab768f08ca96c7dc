use Rattle.row_page.proofs.PageRows.{length_page}
use Rattle.row_page.proofs.laws.pages_have_their_length.Goals as goal

pub returns : goal.returns
returns c = length_page
