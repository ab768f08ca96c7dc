use Rattle.row_page.proofs.Rows.{row_of_fields, one_encoding, one_row}
use Rattle.row_page.proofs.laws.fields_have_one_encoding.Goals as goal

pub returns-clause-some : goal.returns-clause-some
returns-clause-some c = row_of_fields

pub returns-clause-one : goal.returns-clause-one
returns-clause-one c = one_encoding

pub returns-clause-back : goal.returns-clause-back
returns-clause-back c = one_row
