use Rattle.row_page.proofs.Fronts.{one_front}
use Rattle.row_page.proofs.Rows.{one_row_begins}
use Rattle.row_page.proofs.laws.no_encoding_begins_another.Goals as goal

pub returns-clause-pieces : goal.returns-clause-pieces
returns-clause-pieces c = one_front

pub returns-clause-rows : goal.returns-clause-rows
returns-clause-rows c = one_row_begins
