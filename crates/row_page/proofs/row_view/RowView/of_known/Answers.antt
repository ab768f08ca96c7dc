use Rattle.row_page.proofs.Rows.{row_shown}
use Rattle.row_page.proofs.Shown.{fields_shown}
use Rattle.row_page.proofs.row_view.RowView.of_known.Goals as goal

pub invariant_of-result : goal.invariant_of-result
invariant_of-result c = record { formed = ∣ (row_shown c.args.bytes.now c.requires.0 c.requires.1).0 ∣₁ }

pub returns-clause-row : goal.returns-clause-row
returns-clause-row c = (row_shown c.args.bytes.now c.requires.0 c.requires.1).0

pub returns-clause-only : goal.returns-clause-only
returns-clause-only c fields h = fields_shown c.args.bytes.now fields h.pieces
